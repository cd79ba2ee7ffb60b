-- The heard list.
-- Document 01: "The heard list of an image writes, for each heard stall, the stall byte and two yield bytes, then zeros to the end, and returns how many."
-- Request 2026-07: "The records now come with the largest yield first, equal yields by lower stall number, and heard but not milked last, again by stall number.
-- No choice of order is left."
use Rattle.std.specs.Prelude.{ℕ, zero, suc, ◌+◌, ◌-◌, ◌*◌, ◌/◌, ◌%◌, ◌≡◌, Bool, ◌&&◌, not, cond, leb, eqb, length, replicate}
use mathlib.Core.List.{List, [], ◌∷◌, ◌++◌, map, flat_map}
use Rattle.image.specs.Layout.{yield_at, heard_at}
use Rattle.image.specs.Check.{checked}
use Rattle.image.specs.declared.Checked.{Checked}
use Rattle.image.specs.declared.Checked.TheVariants.{Good, Refused}
use Rattle.rank.specs.declared.Record.{Record}
use Rattle.rank.specs.Order.{InOrder, ranked}

-- What can be checked of a list by hand

-- how often a list has r
unfoldable pub occurrences : ℕ → List ℕ → ℕ
occurrences r [] = 0
occurrences r (a ∷ l) = cond (eqb r a) 1 0 + occurrences r l

-- a test holds of every record
unfoldable pub Every : (Record → Type 0) → List Record → Type 0
Every P [] = Unit {0}
Every P (r ∷ l) = P r × Every P l

-- "each heard stall and no other has one record, with its yield", and the records are in order. One list of records is so, and no other (Theory.antt: one_list).
pub record HeardList (s : List ℕ) (n own : ℕ) (l : List Record) : Type 0 where
  pub each_once : (r : ℕ) → occurrences r (map (λ x. x.stall) l) ≡ cond (leb 1 r && (leb r n && heard_at s n own r)) 1 0
  pub with_yields : Every (λ x. x.given ≡ yield_at s n x.stall) l
  pub in_order : InOrder l

-- That list, computed

-- the stalls of 1 to n that pass a test, by number
unfoldable pub chosen : ℕ → (ℕ → Bool) → List ℕ
chosen zero f = []
chosen (suc n) f = chosen n f ++ cond (f (suc n)) (suc n ∷ []) []

-- the record of stall r
abbrev pub record_of : List ℕ → ℕ → ℕ → Record
record_of s n r = record { stall = r; given = yield_at s n r }

unfoldable pub heard_records : List ℕ → ℕ → ℕ → List Record
heard_records s n own = ranked (map (record_of s n) (chosen n (heard_at s n own)))

-- "the stall byte and two yield bytes", high first
abbrev pub bytes_of : Record → List ℕ
bytes_of r = r.stall ∷ r.given / 256 ∷ r.given % 256 ∷ []

-- how many records there are, and their bytes
unfoldable pub heard_count : List ℕ → ℕ → ℕ → ℕ
heard_count s n own = length (heard_records s n own)

unfoldable pub heard_bytes : List ℕ → ℕ → ℕ → List ℕ
heard_bytes s n own = flat_map bytes_of (heard_records s n own)

-- The call

-- the answer, and the buffer afterwards
pub record HeardOutcome : Type 0 where
  pub answer : ℕ
  pub records : List ℕ

-- "then zeros to the end, and returns how many"
abbrev pub heard_list : List ℕ → ℕ → ℕ → HeardOutcome
heard_list s n own = record { answer = heard_count s n own; records = heard_bytes s n own ++ replicate (3 * n - 3 * heard_count s n own) 0 }

-- by what the check finds: 256 plus 1 to 6 for the image, then plus 8 for a buffer that is not 3 × N bytes, and the buffer as it was; else the list
unfoldable pub heard_from : List ℕ → List ℕ → Checked → HeardOutcome
heard_from s buffer (Good h) = cond (not (eqb (length buffer) (3 * h.n))) (record { answer = 256 + 8; records = buffer }) (heard_list s h.n h.stall)
heard_from s buffer (Refused number) = record { answer = 256 + number; records = buffer }

-- "the heard list 1 to 6, then 8"
abbrev pub heard_call : List ℕ → List ℕ → HeardOutcome
heard_call s buffer = heard_from s buffer (checked s)
