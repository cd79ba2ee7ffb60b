-- Who has heard it all: what a head's table says of how far its news has come, on one image.
-- Request 2026-05: "for each stall the number of stalls that this head knows to have heard its latest of that stall, 0 where never heard. It counts stall s when the latest
-- of r lies in the past of the latest of s": when order mark (r, s) is set. What the number tells of all heads of a parlour is said in `settled`.
use Rattle.std.specs.Prelude.{ℕ, not, cond, List, [], ◌∷◌, eqb, length}
use Rattle.image.specs.Stalls.{each, count_stalls}
use Rattle.image.specs.Layout.{mark_at}
use Rattle.image.specs.Check.{checked}
use Rattle.image.specs.declared.Checked.{Checked}
use Rattle.image.specs.declared.Checked.TheVariants.{Good, Refused}

-- a byte for each stall r: the number of stalls s with order mark (r, s). A stall never heard has no marks in an accepted image (Theory.antt: settled_heard).
unfoldable pub settled_counts : List ℕ → ℕ → List ℕ
settled_counts s n = each n (λ r. count_stalls n (mark_at s n r) ∷ [])

-- the answer of the call, and the buffer afterwards
pub record Settled : Type 0 where
  pub answer : ℕ
  pub counts : List ℕ

-- by what the check finds: 1 to 6 for the image, then 8 for a buffer that is not N bytes, and the buffer as it was; else 0, and the numbers
unfoldable pub settled_from : List ℕ → List ℕ → Checked → Settled
settled_from s buffer (Good h) =
    cond (not (eqb (length buffer) h.n)) (record { answer = 8; counts = buffer }) (record { answer = 0; counts = settled_counts s h.n })
settled_from s buffer (Refused number) = record { answer = number; counts = buffer }

abbrev pub settled_call : List ℕ → List ℕ → Settled
settled_call s buffer = settled_from s buffer (checked s)
