-- The calls on one image: what comes back, and what every lent byte holds afterwards, refused or not.
use Rattle.std.specs.Prelude.{ℕ, ◌/◌, ◌%◌, Bool, not, cond, List, ltb, eqb, length, set}
use Rattle.image.specs.Layout.{is_count, yield_limit, length_of}
use Rattle.image.specs.Fresh.{fresh_image}
use Rattle.image.specs.Check.{bad_stall, checked}
use Rattle.image.specs.declared.Checked.{Checked}
use Rattle.image.specs.declared.Checked.TheVariants.{Good, Refused}

-- the answer of a call, and the image afterwards
pub record Outcome : Type 0 where
  pub answer : ℕ
  pub image : List ℕ

-- "A refusal returns its number alone and changes no lent byte."
abbrev pub refused : ℕ → List ℕ → Outcome
refused number s = record { answer = number; image = s }

abbrev pub accepted : List ℕ → Outcome
accepted s = record { answer = 0; image = s }

-- "A fresh table tries 1 for N, 2 for the buffer, 3.": by what these tests find, the image into a buffer
abbrev pub fresh_into : Bool → Bool → Bool → List ℕ → List ℕ → Outcome
fresh_into count long stall image s = cond count (refused 1 s) (cond long (refused 2 s) (cond stall (refused 3 s) (accepted image)))

unfoldable pub fresh_call : List ℕ → ℕ → ℕ → Outcome
fresh_call s n stall = fresh_into (not (is_count n)) (not (eqb (length s) (length_of n))) (bad_stall n stall) (fresh_image n stall) s

-- the current yield in two bytes, high first
abbrev pub with_current : List ℕ → ℕ → List ℕ
with_current s yield = set (set s 2 (yield / 256)) 3 (yield % 256)

-- "A milking tries 1 to 6, then 4 for the new yield."
unfoldable pub milked : List ℕ → ℕ → Checked → Outcome
milked s yield (Good h) = cond (ltb yield_limit yield) (refused 4 s) (accepted (with_current s yield))
milked s yield (Refused number) = refused number s

unfoldable pub milking_call : List ℕ → ℕ → Outcome
milking_call s yield = milked s yield (checked s)
