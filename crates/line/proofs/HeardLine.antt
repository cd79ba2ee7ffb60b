-- An image and a heard list in a line.
use Prim.Native.Nat.{ℕ, ◌-◌, ◌*◌, ◌≤◌, ◌<◌}
use mathlib.Core.Path.{◌≡◌, sym, ap, ap₂, ◌∙◌}
use mathlib.Core.Bool.{true, false}
use mathlib.Core.List.{List, [], ◌∷◌, ◌++◌}
use native.Mathlib.Omega.{arith}
use borrow.Author.Tests.{lt-ltb, le-ltb}
use lib.ListN.{length, take, drop, replicate}
use lib.Seq.{length-take-le, take-append-le}
use Rattle.image.specs.Layout.{largest}
use Rattle.image.specs.Check.{bad_stall}
use Rattle.head.specs.Heard.{HeardOutcome, heard_call}
use Rattle.line.specs.Parlour.{heads_of, image_of}
use Rattle.line.specs.Answer.{refusal, showing, heard_by, hearing}
use Rattle.line.proofs.Numbers.{heard_code}
use Rattle.line.proofs.Lent.{lent_long, array_long}
use Rattle.line.proofs.AtStall.{AtStall, stall_image, stall_heads}
use Rattle.image.proofs.Zeros.{take_zeros}

module _ (state : List ℕ) (stall : ℕ) where
  pub showing_bad : bad_stall (heads_of state) stall ≡ true → showing state stall ≡ refusal state 3
  unfolding showing
  showing_bad e = rw e

  pub showing_done : (image : List ℕ) → bad_stall (heads_of state) stall ≡ false → image ≡ image_of state stall → showing state stall ≡ record { bytes = 0 ∷ image; state = state }
  unfolding showing
  showing_done image e f = rw (e, f)

  pub hearing_bad : bad_stall (heads_of state) stall ≡ true → hearing state stall ≡ refusal state 3
  unfolding hearing
  hearing_bad e = rw e

module _ {state out : List ℕ} {stall start end m : ℕ} (w : AtStall state out stall start end m) where
  few : 3 * m ≤ 3 * largest
  few = omega (arith, stall_heads w)

  pub buffer_long : 3 * m ≡ length (take {A = ℕ} (3 * m) (replicate (3 * largest) 0))
  buffer_long = lent_long (3 * m) (3 * largest) few

  -- the call, with a buffer at the front of zeros for the largest parlour
  module _ {r : ℕ} {x : List ℕ}
      (call : ◌≡◌ {A = HeardOutcome} (record { answer = r; records = x }) (heard_call (take (end - start) (drop start state)) (take (3 * m) (replicate (3 * largest) 0))))
      (x_long : length x ≡ length (take {A = ℕ} (3 * m) (replicate (3 * largest) 0))) where
    pub hearing_code : (r ≤ 264) × (r < 256 → r ≤ m)
    hearing_code = heard_code (take (end - start) (drop start state)) (take (3 * m) (replicate (3 * largest) 0)) m (sym buffer_long) (stall_heads w) call

    pub records_long : length (x ++ drop (3 * m) (replicate (3 * largest) 0)) ≡ 3 * largest
    records_long = array_long (3 * m) (3 * largest) few x x_long

    hearing_is : hearing state stall ≡ heard_by state (record { answer = r; records = x })
    unfolding hearing
    hearing_is =
        rw w.slot.good
        (ap (heard_by state)
        (sym (call ∙ ap₂ heard_call (stall_image w) (take_zeros (3 * m) (3 * largest) few ∙ ap (λ k. replicate (3 * k) 0) w.m_is))))

    pub hearing_refused : 256 ≤ r → hearing state stall ≡ record { bytes = (r - 256) ∷ []; state = state }
    hearing_refused l = hearing_is ∙ rw (le-ltb r 256 l)

    module _ (less : r < 256) where
      pub used_fits : 3 * r ≤ length (x ++ drop (3 * m) (replicate (3 * largest) 0))
      used_fits = omega (arith, hearing_code.1 less, records_long, few)

      pub used_long : (3 * r ≡ length (take (3 * r) (x ++ drop (3 * m) (replicate (3 * largest) 0)))) × (3 * r ≤ 3 * largest)
      used_long = (sym (length-take-le (3 * r) (x ++ drop (3 * m) (replicate (3 * largest) 0)) used_fits), omega (arith, hearing_code.1 less, few))

      the_records : take (3 * r) (x ++ drop (3 * m) (replicate (3 * largest) 0)) ≡ take (3 * r) x
      the_records = take-append-le (3 * r) x (drop (3 * m) (replicate (3 * largest) 0)) (omega (arith, hearing_code.1 less, x_long, buffer_long))

      pub hearing_done : hearing state stall ≡ record { bytes = 0 ∷ r ∷ take (3 * r) (x ++ drop (3 * m) (replicate (3 * largest) 0)); state = state }
      hearing_done = hearing_is ∙ rw (lt-ltb r 256 less, the_records)
