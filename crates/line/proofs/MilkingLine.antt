-- A milking in a line.
use Prim.Native.Nat.{ℕ, ◌-◌}
use mathlib.Core.Path.{◌≡◌, sym, ap, ◌∙◌}
use mathlib.Core.List.{List, [], ◌∷◌, ◌++◌}
use lib.ListN.{length, take, drop}
use Rattle.head.specs.Calls.{Outcome, milking_call}
use Rattle.line.specs.Answer.{milking}
use Rattle.line.proofs.Replying.{milking_done}
use Rattle.line.proofs.AtStall.{AtStall, stall_image, stall_put}

module _ {state out : List ℕ} {stall start end m : ℕ} (w : AtStall state out stall start end m) (given : ℕ) {r : ℕ} {image : List ℕ}
    (call : ◌≡◌ {A = Outcome} (record { answer = r; image = image }) (milking_call (take (end - start) (drop start state)) given))
    (long : length image ≡ length (take (end - start) (drop start state))) where
  pub milking_is : milking state stall given ≡ record { bytes = r ∷ []; state = take start state ++ (image ++ drop (end - start) (drop start state)) }
  milking_is =
      milking_done state stall given w.slot.good (call ∙ ap (λ l. milking_call l given) (stall_image w))
      ∙ ap (λ s. record { bytes = r ∷ []; state = s }) (sym (stall_put w image long))
