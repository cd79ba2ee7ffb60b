-- The parts of a text made of texts without the separator, and that the numbers and yields of a line are such texts.
use Prim.Native.Nat.{ℕ, ◌/◌, ◌%◌, ◌≤◌, ◌<◌}
use native.Mathlib.Omega.{arith}
use mathlib.Core.Path.{◌≡◌, refl, ap}
use mathlib.Core.Bool.{Bool, true, false, cond}
use mathlib.Core.List.{List, [], ◌∷◌, ◌++◌}
use borrow.Author.Tests.{eqb-true, eq-eqb, ne_eqb}
use lib.Dec.{eqb}
use lib.ListN.{length, get_or, length-append}
use Rattle.image.specs.Layout.{no_yield}
use Rattle.panel.specs.Decimal.{digit, decimal}
use Rattle.panel.specs.Panel.{dash, point, litres}
use Rattle.panel.specs.Reading.{in_front, parts_by}
use Rattle.panel.proofs.Decimals.{decimal_small, decimal_elim}

-- no character is the separator
pub data Free (separator : ℕ) : List ℕ → Type 0 where
  none : Free separator []
  more : {c : ℕ} {text : List ℕ} → (c ≡ separator → ⊥) → Free separator text → Free separator (c ∷ text)

pub free_append : {separator : ℕ} {a b : List ℕ} → Free separator a → Free separator b → Free separator (a ++ b)
free_append none g = g
free_append (more e f) g = more e (free_append f g)

pub free_first : {separator : ℕ} {a : List ℕ} (b : List ℕ) → Free separator a → 1 ≤ length a → eqb (get_or (a ++ b) 0 0) separator ≡ false
free_first b none l = absurd (omega arith)
free_first {separator} b (more {c} e f) l = ne_eqb c separator e

-- a part that the separator ends, and one that nothing does
pub parts_ended : {separator : ℕ} {a : List ℕ} (b : List ℕ) → Free separator a → parts_by separator (a ++ separator ∷ b) ≡ a ∷ parts_by separator b
unfolding in_front parts_by
parts_ended {separator} b none = rw (eq-eqb separator separator refl)
parts_ended {separator} b (more {c} e f) = rw (ne_eqb c separator e) (ap (in_front c) (parts_ended b f))

pub parts_last : {separator : ℕ} {a : List ℕ} → Free separator a → 1 ≤ length a → parts_by separator a ≡ a ∷ []
unfolding in_front parts_by
parts_last none l = absurd (omega arith)
parts_last {separator} (more {c} e none) l = rw (ne_eqb c separator e)
parts_last {separator} (more {c} e (more d f)) l = rw (ne_eqb c separator e) (ap (in_front c) (parts_last (more d f) (omega arith)))

-- digits are 48 and above
pub free_decimal : {separator : ℕ} → separator < 48 → (k : ℕ) → Free separator (decimal k)
free_decimal {separator} l = decimal_elim (λ k d. Free separator d) (λ k m. more (λ e. omega arith) none) (λ k m f. free_append f (more (λ e. omega arith) none))

-- what holds of the dash, where that is the yield, and of a number, a point and a digit holds of a yield
pub litres_elim : (P : List ℕ → Type 0) (given : ℕ) → (given ≡ no_yield → P (dash ∷ [])) → P (decimal (given / 10) ++ point ∷ decimal (given % 10)) → P (litres given)
unfolding litres
litres_elim P given unmilked milked = go (eqb given no_yield) (eqb-true given no_yield)
  where
    go : (t : Bool) → (t ≡ true → given ≡ no_yield) → P (cond t (dash ∷ []) (decimal (given / 10) ++ point ∷ digit (given % 10) ∷ []))
    go true e = unmilked (e refl)
    go false e = rw (decimal_small (given % 10) (omega arith)) at milked

pub free_litres : {separator : ℕ} → separator < dash → (given : ℕ) → Free separator (litres given)
free_litres {separator} l given =
    let digits : (k : ℕ) → Free separator (decimal k) = free_decimal (omega arith) in
    litres_elim (Free separator) given (λ e. more (λ q. omega arith) none) (free_append (digits (given / 10)) (more (λ q. omega arith) (digits (given % 10))))

pub litres_some : (given : ℕ) → 1 ≤ length (litres given)
litres_some given = litres_elim (λ w. 1 ≤ length w) given (λ e. omega arith) (omega (arith, length-append (decimal (given / 10)) (point ∷ decimal (given % 10))))
