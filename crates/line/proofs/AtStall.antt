-- The image of a stall that is there, in the state of an open parlour.
use Prim.Native.Nat.{ℕ, ◌-◌, ◌*◌, ◌≤◌}
use mathlib.Core.Path.{◌≡◌, refl, sym, ap, ap₂, ◌∙◌}
use mathlib.Core.List.{List, [], ◌∷◌, ◌++◌}
use Rattle.std.specs.Prelude.{Result, Err, IsErr}
use Rattle.std.specs.Result.{IsErrAnd}
use Rattle.std.proofs.lemmas.Result.{err_from_is_err_and}
use native.Mathlib.Omega.{arith}
use lib.ListN.{length, take, drop}
use Rattle.image.specs.Layout.{largest, length_of, longest}
use Rattle.line.specs.Parlour.{heads_of, image_of, with_image}
use Rattle.line.specs.Answer.{Reply, written, outcome, replied}
use Rattle.line.specs.Refused.{number_of, finished}
use Rattle.line.specs.declared.refusal.Refusal.{Refusal}
use Rattle.line.specs.Asked.{Opened, IsSlot}
use Rattle.line.proofs.Replying.{stall_of, image_short, image_fits, the_image, part_long, put_image}

-- the stall, and the bytes of its image
pub record AtStall (state out : List ℕ) (stall start end m : ℕ) : Type 0 where
  pub opened : Opened state out
  pub slot : IsSlot state stall start end
  pub m_is : m ≡ heads_of state

module _ {state out : List ℕ} {stall start end m : ℕ} (w : AtStall state out stall start end m) where
  pub stall_fits : end ≤ length state
  stall_fits = omega (arith, w.slot.end_is, image_fits state out stall start (length_of (heads_of state)) w.opened (stall_of _ _ w.slot.good) w.slot.start_is refl)

  pub stall_image : take (end - start) (drop start state) ≡ image_of state stall
  stall_image =
      ap (λ k. take (k - start) (drop start state)) w.slot.end_is
      ∙ the_image state out stall start (length_of (heads_of state)) w.opened (stall_of _ _ w.slot.good) w.slot.start_is refl

  pub stall_part : length (take (end - start) (drop start state)) ≡ length_of (heads_of state)
  stall_part =
      ap (λ k. length (take (k - start) (drop start state))) w.slot.end_is
      ∙ part_long state out stall start (length_of (heads_of state)) w.opened (stall_of _ _ w.slot.good) w.slot.start_is refl

  -- the state with what a call leaves there
  pub stall_put : (image : List ℕ) → length image ≡ length (take (end - start) (drop start state))
      → take start state ++ (image ++ drop (end - start) (drop start state)) ≡ with_image state stall image
  stall_put image e =
      ap (λ k. take start state ++ (image ++ drop (k - start) (drop start state))) w.slot.end_is
      ∙ put_image state out stall start (length_of (heads_of state)) w.opened (stall_of _ _ w.slot.good) w.slot.start_is refl image (e ∙ stall_part)

  pub stall_short : length_of (heads_of state) ≤ longest
  stall_short = image_short state out stall start (length_of (heads_of state)) w.opened (stall_of _ _ w.slot.good) w.slot.start_is refl

  pub stall_heads : m ≤ largest
  stall_heads = omega (arith, w.m_is, w.opened.to)

-- a refusal that is still to be written: as it is returned, and as `?` hands it on
pub refused_by : (out : List ℕ) {state : List ℕ} (r : Result ℕ Refusal) (e : Refusal) (b : ℕ) {reply : Reply} → r ≡ Err e → number_of e ≡ b
    → reply ≡ record { bytes = b ∷ []; state = state } → finished r state out ≡ replied out reply
refused_by out {state} r e b f g h = ap (λ x. finished x state out) f ∙ ap (λ x. outcome 2 state (written out (x ∷ []))) g ∙ sym (ap (replied out) h)

pub refused_on : (out : List ℕ) {state : List ℕ} (r : Result ℕ Refusal) {e : Refusal} (d : Refusal) (b : ℕ) {reply : Reply} → IsErr r × IsErrAnd r (λ x. x ≡ e) → e ≡ d → number_of d ≡ b
    → reply ≡ record { bytes = b ∷ []; state = state } → finished r state out ≡ replied out reply
refused_on out r d b w i = let p = err_from_is_err_and r w.1 in refused_by out r d b (p.1 ∙ ap Err (p.2 ∙ i))

-- a reply whose bytes have another name
module _ {state : List ℕ} {reply : Reply} where
  pub told_one : {a b : ℕ} → reply ≡ record { bytes = a ∷ []; state = state } → b ≡ a → reply ≡ record { bytes = b ∷ []; state = state }
  told_one e f = e ∙ ap (λ k. record { bytes = k ∷ []; state = state }) (sym f)

  pub told_more : {a b : ℕ} {v : List ℕ} → reply ≡ record { bytes = 0 ∷ a ∷ v; state = state } → b ≡ a → reply ≡ record { bytes = 0 ∷ b ∷ v; state = state }
  told_more {v = v} e f = e ∙ ap (λ k. record { bytes = 0 ∷ k ∷ v; state = state }) (sym f)

  pub told_list : {a b k : ℕ} (x : List ℕ) → reply ≡ record { bytes = 0 ∷ a ∷ take (3 * a) x; state = state } → b ≡ a → k ≡ a
      → reply ≡ record { bytes = 0 ∷ b ∷ take (3 * k) x; state = state }
  told_list x e f g = e ∙ ap₂ (λ i j. record { bytes = 0 ∷ i ∷ take (3 * j) x; state = state }) (sym f) (sym g)
