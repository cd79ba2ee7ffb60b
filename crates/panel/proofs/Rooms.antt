-- Room for a text, and for the rest of it behind what was put; litres and lines as texts of parts.
use Prim.Native.Nat.{ℕ, ◌/◌, ◌%◌}
use mathlib.Core.Path.{◌≡◌, sym, ap, ap₂, subst, ◌∙◌}
use mathlib.Core.Bool.{true, false}
use mathlib.Core.List.{List, [], ◌∷◌, ◌++◌, append_assoc}
use native.Mathlib.Omega.{arith}
use lib.Dec.{eqb}
use lib.ListN.{length, length-append}
use lib.Seq.{length-sets}
use Rattle.image.specs.Layout.{no_yield}
use Rattle.rank.specs.declared.Record.{Record}
use Rattle.panel.specs.Decimal.{digit, decimal}
use Rattle.panel.specs.Panel.{newline, blank, dash, point, litres, line}
use Rattle.panel.specs.Writing.{Room, Put}

pub room_is : {d x y : List ℕ} {at : ℕ} → x ≡ y → Room d at x → Room d at y
room_is {d} {x} {y} {at} i l = subst (Room d at) i l

pub room_first : {d : List ℕ} {at : ℕ} (x y : List ℕ) → Room d at (x ++ y) → Room d at x
room_first x y l = record { fits = omega (arith, l.fits, length-append x y) }

pub room_then : {d x e : List ℕ} {at mid : ℕ} (y : List ℕ) → Room d at (x ++ y) → Put d at x e mid → Room e mid y
room_then {d} {x} {e} {at} {mid} y l p = record { fits = omega (arith, l.fits, length-append x y, p.behind, ap length p.put, length-sets d at x) }

-- litres, by whether the head was milked
pub litres_unmilked : (given : ℕ) → eqb given no_yield ≡ true → litres given ≡ dash ∷ []
unfolding litres
litres_unmilked given e = rw e

pub litres_milked : (given : ℕ) → eqb given no_yield ≡ false → litres given ≡ decimal (given / 10) ++ point ∷ digit (given % 10) ∷ []
unfolding litres
litres_milked given e = rw e

-- a line, first part first
pub line_is : (rank : ℕ) (r : Record) {stall given : ℕ} → stall ≡ r.stall → given ≡ r.given
    → line rank r ≡ decimal rank ++ (blank ∷ (decimal stall ++ (blank ∷ (litres given ++ (newline ∷ [])))))
unfolding line
line_is rank r {stall} {given} d e =
    ap₂ (λ x y. line rank (record { stall = x; given = y })) (sym d) (sym e)
    ∙ append_assoc (decimal rank ++ blank ∷ decimal stall) (blank ∷ litres given) (newline ∷ [])
    ∙ append_assoc (decimal rank) (blank ∷ decimal stall) (blank ∷ (litres given ++ (newline ∷ [])))
