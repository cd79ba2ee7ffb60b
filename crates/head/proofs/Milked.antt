-- A milking of an accepted image leaves an accepted one, and changes two bytes.
use Prim.Native.Nat.{ℕ, ◌+◌, ◌*◌, ◌/◌, ◌%◌, ◌≤◌}
use mathlib.Core.Path.{◌≡◌, ap₂, ◌∙◌}
use mathlib.Core.List.{List}
use native.Mathlib.Omega.{arith}
use lib.ListN.{length, get_or, set, length-set}
use lib.Seq.{get_or-set_same, get_or-set_other}
use Rattle.image.specs.Layout.{yield_limit, current_at}
use Rattle.image.proofs.Accepted.{Accepted}
use Rattle.image.proofs.YieldRange.{yield_in}
use Rattle.image.proofs.SameBody.{same_accepted}
use Rattle.head.specs.Calls.{with_current}

module _ (s : List ℕ) (yield : ℕ) where
  pub length_milked : length (with_current s yield) ≡ length s
  length_milked = simp length-set

  pub milked_other : (k : ℕ) → (k ≡ 2 → ⊥) → (k ≡ 3 → ⊥) → get_or (with_current s yield) k 0 ≡ get_or s k 0
  milked_other k f g = get_or-set_other (set s 2 (yield / 256)) 3 k (yield % 256) 0 g ∙ get_or-set_other s 2 k (yield / 256) 0 f

  pub milked_current : 4 ≤ length s → current_at (with_current s yield) ≡ yield
  milked_current l =
      let high : get_or (with_current s yield) 2 0 ≡ yield / 256 =
      get_or-set_other (set s 2 (yield / 256)) 3 2 (yield % 256) 0 (λ e. omega arith) ∙ get_or-set_same s 2 (yield / 256) 0 (omega arith) in
      let low : get_or (with_current s yield) 3 0 ≡ yield % 256 =
      get_or-set_same (set s 2 (yield / 256)) 3 (yield % 256) 0 (simp length-set (omega arith)) in
      ap₂ (λ a b. a * 256 + b) high low ∙ omega arith

  pub milked_accepted : {n own : ℕ} → Accepted s n own → yield ≤ yield_limit → Accepted (with_current s yield) n own
  milked_accepted {n} {own} w l =
      same_accepted s (with_current s yield) n own
      (λ k a. milked_other k (λ e. omega arith) (λ e. omega arith))
      w
      length_milked
      (milked_other 0 (λ e. omega arith) (λ e. omega arith))
      (milked_other 1 (λ e. omega arith) (λ e. omega arith))
      (rw (milked_current (omega (arith, w.frame.long))) (yield_in yield l))
