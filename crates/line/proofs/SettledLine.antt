-- The numbers of a head in a line: how many stalls it knows to have heard its latest of each.
use Prim.Native.Nat.{ℕ, ◌-◌, ◌≤◌}
use mathlib.Core.Path.{◌≡◌, sym, ap, ap₂, ◌∙◌}
use mathlib.Core.Bool.{true}
use mathlib.Core.List.{List, [], ◌∷◌, ◌++◌}
use borrow.Author.Tests.{eq-eqb, ne_eqb}
use lib.ListN.{length, take, drop, replicate}
use Rattle.image.specs.Layout.{largest}
use Rattle.image.specs.Check.{bad_stall}
use Rattle.image.proofs.Zeros.{take_zeros}
use Rattle.head.specs.Settled.{Settled, settled_call}
use Rattle.line.specs.Parlour.{heads_of}
use Rattle.line.specs.Answer.{refusal, settled_by, settling}
use Rattle.line.proofs.Numbers.{settled_code}
use Rattle.line.proofs.Lent.{the_front}
use Rattle.line.proofs.AtStall.{AtStall, stall_image, stall_heads}

pub settling_bad : (state : List ℕ) (stall : ℕ) → bad_stall (heads_of state) stall ≡ true → settling state stall ≡ refusal state 3
unfolding settling
settling_bad state stall e = rw e

-- the call, with a buffer at the front of zeros for the largest parlour
module _ {state out : List ℕ} {stall start end m : ℕ} (w : AtStall state out stall start end m) {r : ℕ} {x : List ℕ}
    (call : ◌≡◌ {A = Settled} (record { answer = r; counts = x }) (settled_call (take (end - start) (drop start state)) (take m (replicate largest 0))))
    (x_long : length x ≡ length (take {A = ℕ} m (replicate largest 0))) where
  pub settling_code : r ≤ 8
  settling_code = settled_code (take (end - start) (drop start state)) (take m (replicate largest 0)) call

  settling_is : settling state stall ≡ settled_by state (record { answer = r; counts = x })
  unfolding settling
  settling_is =
      rw w.slot.good
      (ap (settled_by state)
      (sym (call ∙ ap₂ settled_call (stall_image w) (take_zeros m largest (stall_heads w) ∙ ap (λ k. replicate k 0) w.m_is))))

  pub settling_refused : (r ≡ 0 → ⊥) → settling state stall ≡ record { bytes = r ∷ []; state = state }
  settling_refused f = settling_is ∙ rw (ne_eqb r 0 f)

  pub settling_done : r ≡ 0 → settling state stall ≡ record { bytes = 0 ∷ take m (x ++ drop m (replicate largest 0)); state = state }
  settling_done e = settling_is ∙ rw (eq-eqb r 0 e, the_front m largest (stall_heads w) x x_long)
