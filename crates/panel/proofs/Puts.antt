-- Texts put one behind the other are one text put.
use Prim.Native.Nat.{ℕ, suc, ◌+◌}
use native.Mathlib.Omega.{arith}
use mathlib.Core.Path.{◌≡◌, sym, ap, ap₂, subst, ◌∙◌}
use mathlib.Core.List.{List, [], ◌∷◌, ◌++◌}
use lib.ListN.{length, set, length-append}
use lib.Seq.{sets}
use Rattle.panel.specs.Writing.{Put}

sets_append : (d : List ℕ) (at : ℕ) (x y : List ℕ) → sets (sets d at x) (at + length x) y ≡ sets d at (x ++ y)
sets_append d at [] y = ap (λ k. sets d k y) (let e : at + 0 ≡ at = omega arith in e)
sets_append d at (c ∷ x) y =
    ap (λ k. sets (sets (set d at c) (suc at) x) k y) (let e : at + suc (length x) ≡ suc at + length x = omega arith in e)
    ∙ sets_append (set d at c) (suc at) x y

pub put_then : {d x e y f : List ℕ} {at mid end : ℕ} → Put d at x e mid → Put e mid y f end → Put d at (x ++ y) f end
put_then {d} {x} {e} {y} {f} {at} {mid} {end} p q =
    let k : at + length x + length y ≡ at + length (x ++ y) = omega (arith, length-append x y) in
    record { put = q.put ∙ ap₂ (λ t k. sets t k y) p.put p.behind ∙ sets_append d at x y; behind = q.behind ∙ ap (λ j. j + length y) p.behind ∙ k }

-- another name for the text
pub put_is : {d x y e : List ℕ} {at end : ℕ} → y ≡ x → Put d at x e end → Put d at y e end
put_is {d} {x} {y} {e} {at} {end} i p = subst (λ t. Put d at t e end) (sym i) p
