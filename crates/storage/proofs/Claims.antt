-- What is claimed of each call on packed tables: what is claimed of the plain one; and a refused call leaves packed images as they were.
use Prim.Native.Nat.{ℕ}
use mathlib.Core.Path.{◌≡◌, refl, sym, ap, subst, ◌∙◌}
use mathlib.Core.List.{List, [], ◌∷◌, ◌++◌}
use native.Mathlib.Omega.{arith}
use Rattle.packed.proofs.MilkedPacked.{milking_refused}
use Rattle.packed.proofs.MetPacked.{meeting_refused}
use Rattle.parlour.specs.Item.{Item, milking, meeting, history}
use Rattle.parlour.specs.Run.{Images, put, Called, start, milk, meet}
use Rattle.parlour.specs.Claim.{refusal, CallClaim, items}
use Rattle.parlour.specs.Verdict.{BestVerdicts, VerdictsAreBest}
use Rattle.parlour.proofs.Put.{put_same}
use Rattle.parlour.proofs.Splits.{of_newest, of_none}
use Rattle.parlour.proofs.Runs as Plain
use Rattle.storage.specs.Run.{packed_calls, PackedRun, unpacked_call, unpacked_calls}
use Rattle.storage.specs.Claim.{PackedClaim}
use Rattle.storage.proofs.Unpacking.{unpacked_run}
use Rattle.storage.proofs.SameCalls.{same_items, same_accepted, call_of}
use Rattle.storage.proofs.Exact.{kept, bytes}

-- A refusal

milking_stays : (images : Images) (stall yield : ℕ) {answer : ℕ} {image : List ℕ} → packed_calls.milking (images stall) yield answer image → answer ≡ refusal (milking stall yield)
    → (p : ℕ) → put images stall image p ≡ images p
unfolding refusal
milking_stays images stall yield call e p =
    put_same images stall p
    (ap (λ o. o.image) call.learnt ∙ milking_refused (images stall) yield (λ z. omega (arith, ap (λ o. o.answer) call.learnt)))

meeting_stays : (images : Images) (p q : ℕ) (buffer : List ℕ) {answer : ℕ} {first second verdicts : List ℕ} → packed_calls.meeting (images p) (images q) buffer answer first second verdicts
    → answer ≡ refusal (meeting p q buffer) → (z : ℕ) → put (put images p first) q second z ≡ images z
unfolding refusal
meeting_stays images p q buffer {first = first} call e z =
    let w = meeting_refused (images p) (images q) buffer (omega (arith, ap (λ o. o.answer) call.learnt)) in
    let one = ap (λ o. o.first) call.learnt ∙ w.0 in
    put_same (put images p first) q z (ap (λ o. o.second) call.learnt ∙ w.1 ∙ sym (put_same images p q one)) ∙ put_same images p z one

-- Each call

-- all but "and change no lent byte" is the same of both forms
call_claim : {n : ℕ} {c : Called} {before : List Item} → CallClaim n (unpacked_call c) before → (c.answer ≡ refusal c.item → (p : ℕ) → c.after p ≡ c.before p)
    → CallClaim n c before
call_claim w stays =
    record {
      accepted = w.accepted;
      refused = w.refused;
      unchanged = λ e. stays (w.refused e);
      buffer_unchanged = w.buffer_unchanged;
      label = w.label;
      label_in = w.label_in;
      label_below = w.label_below;
      verdicts = w.verdicts;
    }

-- of the newest call of a list
newest : {n : ℕ} {calls : List Called} {c : Called} {images : Images} → PackedRun n (c ∷ calls) images → (c.answer ≡ refusal c.item → (p : ℕ) → c.after p ≡ c.before p)
    → CallClaim n c (history n (items calls))
newest {n} {calls} {c} run stays =
    call_claim
    (subst (λ l. CallClaim n (unpacked_call c) (history n l)) (same_items calls)
    ((Plain.claim (unpacked_run run)).each_call (unpacked_call c) (unpacked_calls calls) (record { later = []; split = refl })))
    stays

run_claim : {n : ℕ} {calls : List Called} {images : Images} → PackedRun n calls images → (c : Called) (earlier later : List Called) → calls ≡ later ++ (c ∷ earlier)
    → CallClaim n c (history n (items earlier))
run_claim (start i j buffers images calls) c earlier later e = absurd (of_none c earlier later e)
run_claim {n} (milk {calls} {images} run stall y answer image i j call) c earlier later e =
    of_newest c earlier (λ d rest. CallClaim n d (history n (items rest))) _ calls
    (newest (milk run stall y answer image i j call) (milking_stays images stall y call)) (λ rest d. run_claim run c earlier rest d) later e
run_claim {n} (meet {calls} {images} run p q answer buffer first second verdicts i j k l f call) c earlier later e =
    of_newest c earlier (λ d rest. CallClaim n d (history n (items rest))) _ calls
    (newest (meet run p q answer buffer first second verdicts i j k l f call) (meeting_stays images p q buffer call)) (λ rest d. run_claim run c earlier rest d) later e

module _ {n : ℕ} {calls : List Called} {images : Images} (run : PackedRun n calls images) where
  pub claim : PackedClaim n calls images
  claim =
      record {
        each_call = λ c earlier o. run_claim run c earlier o.later o.split;
        bytes = bytes run;
        names = Plain.run_names (kept run);
      }

  pub verdicts_are_best : VerdictsAreBest n calls
  verdicts_are_best c earlier o p q buffer e a =
      subst (λ l. BestVerdicts n l p q c.verdicts) (same_accepted earlier) (Plain.verdicts_are_best (unpacked_run run) (unpacked_call c) (unpacked_calls earlier) (call_of o) p q buffer e a)
