-- Arrays with an entry a stall, filled one stall after the other.
use Prim.Native.Nat.{ℕ, suc, ◌+◌, ◌-◌, ◌<◌}
use mathlib.Core.Path.{◌≡◌, sym, ap, ◌∙◌}
use mathlib.Core.List.{List}
use native.Mathlib.Omega.{arith}
use native.Mathlib.Decide.{ℕ_discrete}
use lib.ListN.{get_or, set, length-set}
use lib.Seq.{get_or-set_same, get_or-set_other}
use Rattle.merge.specs.ByStall.{ByStall}

pub by_stall_next : {A : Type 0} {d : A} {width m : ℕ} {f : ℕ → A} {out : List A} → ByStall d width m f out → m < width → (x : A) → x ≡ f (suc m)
    → ByStall d width (m + 1) f (set out m x)
by_stall_next {d = d} {m = m} {f} {out} w l x e =
    record {
      long = length-set out m x ∙ w.long;
      right = λ r a b. elim (ℕ_discrete r (suc m)) [
        | yes i ↦
            let j : r - 1 ≡ m = omega arith in
            ap (λ k. get_or (set out m x) k d) j ∙ get_or-set_same out m x d (omega (arith, w.long)) ∙ e ∙ ap f (sym i)
        | no i ↦ get_or-set_other out m (r - 1) x d (λ j. omega arith) ∙ w.right r a (omega arith)
      ];
    }
