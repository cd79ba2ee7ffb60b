-- The past of an event and the view of a process.
-- Document 01: "Meeting A lies *in the past of* meeting B when a chain runs from A to B through the list, each sharing a stall with the one after it;
-- a meeting is in its own past. A head's past is that of its last meeting."
use Rattle.std.specs.Prelude.{ℕ, zero, suc, ◌<◌, Bool, cond}
use Rattle.causality.specs.Event.{History, Of, takes_part}

-- an event and a later one that share a process
pub record Link (h : History) (x y : ℕ) : Type 0 where
  pub process : ℕ
  pub of_older : Of h process x
  pub of_newer : Of h process y
  pub ascends : x < y

-- a chain from event x to event y: each is linked to the next
pub data Chain (h : History) : ℕ → ℕ → Type 0 where
  here : {x : ℕ} → 0 < x → Chain h x x
  on : {x y z : ℕ} → Chain h x y → Link h y z → Chain h x z

-- x lies in the past of y: happened-before, reflexive
abbrev pub Past : History → ℕ → ℕ → Type 0
Past h x y = Chain h x y

-- the newest place up to n that a test picks, 0 where it picks none
unfoldable pub newest : (ℕ → Bool) → ℕ → ℕ
newest f zero = 0
newest f (suc n) = cond (f (suc n)) (suc n) (newest f n)

-- the last event of p among the first n
unfoldable pub last : History → ℕ → ℕ → ℕ
last h n p = newest (takes_part h p) n

-- x lies in the view of p after n events (document 004, section 2: the p-view)
abbrev pub View : History → ℕ → ℕ → ℕ → Type 0
View h n p x = Past h x (last h n p)
