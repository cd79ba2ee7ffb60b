-- Events and histories: who takes part in what, and in which order.
-- Document 01: "A **meeting** joins two different heads." Document 003, section 2: c_ij and dom(c_ij).
use Rattle.std.specs.Prelude.{ℕ, zero, suc, Bool, false, ◌||◌, T, eqb}

-- An event has two processes that take part in it: for a meeting the two heads that meet.
pub record Event : Type 0 where
  pub first : ℕ
  pub second : ℕ

-- A history holds events, oldest first. Places count from 1, as in document 003: the event at place k + 1 is `h k`, and place 0 stands for none.
abbrev pub History : Type 0
History = ℕ → Event

-- process r takes part in the event at place k
unfoldable pub takes_part : History → ℕ → ℕ → Bool
takes_part h r zero = false
takes_part h r (suc k) = eqb (h k).first r || eqb (h k).second r

-- the event at place k is one of process r (as a type)
pub record Of (h : History) (r k : ℕ) : Type 0 where
  pub holds : T (takes_part h r k)
