-- With its images unpacked, a list of calls on packed tables is a list of plain calls: call by call, by what `packed` says of single calls.
use Prim.Native.Nat.{ℕ, ◌≤◌}
use mathlib.Core.Path.{◌≡◌, refl, sym, ap, ap₂, subst, fun_ext, ◌∙◌}
use mathlib.Core.Bool.{Bool, true, false, cond}
use mathlib.Core.List.{List, [], ◌∷◌}
use native.Mathlib.Omega.{arith}
use native.Mathlib.Decide.{dec_le}
use lib.Dec.{eqb}
use lib.ListN.{replicate}
use Rattle.image.specs.Layout.{largest, length_of}
use Rattle.merge.specs.Call.{MeetingOutcome}
use Rattle.head.specs.Calls.{Outcome}
use Rattle.packed.specs.Form.{largest_packed, unpacked}
use Rattle.packed.proofs.FreshPacked.{packed_fresh, fresh_over, fresh_zero}
use Rattle.packed.proofs.MilkedPacked.{milking_same}
use Rattle.packed.proofs.MetPacked.{meeting_same}
use Rattle.parlour.specs.Item.{milking, meeting}
use Rattle.parlour.specs.Call.{FreshCall, MilkingCall, MeetingCall}
use Rattle.parlour.specs.Run.{Images, put, Called, start, milk, meet, Run}
use Rattle.parlour.proofs.Existence.{fresh_call}
use Rattle.storage.specs.Run.{packed_calls, PackedRun, unpacked_images, unpacked_calls}

-- Single calls

-- whose fresh table was packed has a parlour of few heads
few_fresh : {buffer image : List ℕ} {n p : ℕ} → packed_calls.fresh buffer n p 0 image → n ≤ largest_packed
few_fresh {buffer} {image} {n} {p} call = elim (dec_le n largest_packed) [
  | yes l ↦ l
  | no l ↦ absurd (omega (arith, ap (λ o. o.answer) (call.learnt ∙ fresh_over buffer n p (omega arith))))
]

plain_fresh : {buffer image : List ℕ} {n p : ℕ} → 2 ≤ n → n ≤ largest → 1 ≤ p → p ≤ n → packed_calls.fresh buffer n p 0 image
    → FreshCall (replicate (length_of n) 0) n p 0 (unpacked image)
plain_fresh {buffer} {image} {n} {p} i j k l call =
    let is = ap unpacked (fresh_zero buffer n p image call.learnt) ∙ (packed_fresh n p i (few_fresh call) k l).0 in
    subst (FreshCall (replicate (length_of n) 0) n p 0) (sym is) (fresh_call n p i j k l)

plain_milking : {s image : List ℕ} {yield answer : ℕ} → packed_calls.milking s yield answer image → MilkingCall (unpacked s) yield answer (unpacked image)
plain_milking {s} {yield = yield} call =
    let unpacked_outcome : Outcome → Outcome = λ o. record { answer = o.answer; image = unpacked o.image } in
    let (a, i) = milking_same s yield in
    record { lifetimes = call.lifetimes; loan = call.loan; learnt = ap unpacked_outcome call.learnt ∙ ap₂ (λ x y. record { answer = x; image = y }) a i }

pub plain_meeting : {s u buffer first second verdicts : List ℕ} {answer : ℕ} → packed_calls.meeting s u buffer answer first second verdicts
    → MeetingCall (unpacked s) (unpacked u) buffer answer (unpacked first) (unpacked second) verdicts
plain_meeting {s} {u} {buffer} call =
    let unpacked_outcome : MeetingOutcome → MeetingOutcome = λ o. record { answer = o.answer; first = unpacked o.first; second = unpacked o.second; verdicts = o.verdicts } in
    let (a, x, y, v) = meeting_same s u buffer in
    record {
      lifetimes = call.lifetimes;
      one = call.one;
      other = call.other;
      third = call.third;
      learnt = ap unpacked_outcome call.learnt ∙ rw (a, x, y, v);
    }

-- The list

pub few_heads : {n : ℕ} {calls : List Called} {images : Images} → PackedRun n calls images → n ≤ largest_packed
few_heads (start i j buffers images calls) = few_fresh (calls 1 (omega arith) (omega arith))
few_heads (milk run stall y answer image i j call) = few_heads run
few_heads (meet run p q answer buffer first second verdicts i j k l differ call) = few_heads run

put_unpacked : (images : Images) (stall : ℕ) (image : List ℕ) → put (unpacked_images images) stall (unpacked image) ≡ unpacked_images (put images stall image)
unfolding put
put_unpacked images stall image = fun_ext (λ p. go (eqb p stall) p)
  where
    go : (t : Bool) (p : ℕ) → cond t (unpacked image) (unpacked (images p)) ≡ unpacked (cond t image (images p))
    go true p = refl
    go false p = refl

pub unpacked_run : {n : ℕ} {calls : List Called} {images : Images} → PackedRun n calls images → Run n (unpacked_calls calls) (unpacked_images images)
unpacked_run {n} (start i j buffers images calls) =
    start i j (λ p. replicate (length_of n) 0) (unpacked_images images) (λ p k l. plain_fresh i j k l (calls p k l))
unpacked_run {n} (milk {calls} {images} run stall y answer image i j call) =
    subst
    (λ after. Run n (record { item = milking stall y; before = unpacked_images images; answer = answer; after = after; verdicts = [] } ∷ unpacked_calls calls) after)
    (put_unpacked images stall image)
    (milk (unpacked_run run) stall y answer (unpacked image) i j (plain_milking call))
unpacked_run {n} (meet {calls} {images} run p q answer buffer first second verdicts i j k l differ call) =
    subst
    (λ after. Run n (record { item = meeting p q buffer; before = unpacked_images images; answer = answer; after = after; verdicts = verdicts } ∷ unpacked_calls calls) after)
    (ap (λ x. put x q (unpacked second)) (put_unpacked images p first) ∙ put_unpacked (put images p first) q second)
    (meet (unpacked_run run) p q answer buffer (unpacked first) (unpacked second) verdicts i j k l differ (plain_meeting call))
