-- A meeting on packed images is that on their unpacked forms.
use Prim.Native.Nat.{ℕ, ◌≤◌, ◌<◌}
use mathlib.Core.Path.{◌≡◌, refl, sym, ap, subst, ◌∙◌}
use mathlib.Core.List.{List}
use native.Mathlib.Omega.{arith}
use native.Mathlib.Decide.{dec_lt}
use borrow.Author.Tests.{lt-ltb, le-ltb}
use Rattle.merge.specs.Call.{MeetingOutcome, meeting_call}
use Rattle.merge.proofs.meeting.Outcomes.{kept}
use Rattle.packed.specs.Form.{largest_packed, packed, unpacked}
use Rattle.packed.specs.Calls.{packed_after, packed_meeting_call}
use Rattle.image.proofs.Accepted.{accepted}
use Rattle.packed.proofs.Sizes.{packed_count}
use Rattle.packed.proofs.Forms.{packed_encodes}
use Rattle.packed.proofs.MetAlike.{After, meeting_after}

-- some outcome equals that of the unpacked forms
abbrev pub Same : MeetingOutcome → MeetingOutcome → Type 0
Same o m = (o.answer ≡ m.answer) × (unpacked o.first ≡ m.first) × (unpacked o.second ≡ m.second) × (o.verdicts ≡ m.verdicts)

-- heads whose unpacked forms met are those of a packed parlour
pub few_after : (s u : List ℕ) {o : MeetingOutcome} (w : After (unpacked s) (unpacked u) o) → w.n ≤ largest_packed
few_after s u w = let (l, e) = packed_count s (accepted (unpacked s) _ w.first_passes) in subst (λ n. n ≤ largest_packed) e l

module _ (s u buffer : List ℕ) where
  -- what is packed afterwards, by the answer of the plain meeting
  pub after_taken : (o : MeetingOutcome) → o.answer < 256
      → packed_after s u buffer o ≡ record { answer = o.answer; first = packed o.first; second = packed o.second; verdicts = o.verdicts }
  unfolding packed_after
  after_taken o l = rw (lt-ltb o.answer 256 l)

  pub after_kept : (o : MeetingOutcome) → 256 ≤ o.answer → packed_after s u buffer o ≡ record { answer = o.answer; first = s; second = u; verdicts = buffer }
  unfolding packed_after
  after_kept o l = rw (le-ltb o.answer 256 l)

  pub meeting_same : Same (packed_meeting_call s u buffer) (meeting_call (unpacked s) (unpacked u) buffer)
  meeting_same =
      let m = meeting_call (unpacked s) (unpacked u) buffer in
      elim (dec_lt m.answer 256) [
        | yes l ↦
            let w = meeting_after (unpacked s) (unpacked u) buffer l in
            rw (after_taken m l) (refl, packed_encodes w.first_after_lem (few_after s u w) ∙ w.first_encodes, packed_encodes w.second_after_lem (few_after s u w) ∙ w.second_encodes, refl)
        | no l ↦
            let w = kept (unpacked s) (unpacked u) buffer (omega arith) in
            rw (after_kept m (omega arith)) (refl, sym w.first_stays, sym w.second_stays, sym w.verdicts_stay)
      ]

  -- refused, it leaves every lent byte
  pub meeting_refused : let o = packed_meeting_call s u buffer in 256 ≤ o.answer → (o.first ≡ s) × (o.second ≡ u) × (o.verdicts ≡ buffer)
  meeting_refused l =
      let m = meeting_call (unpacked s) (unpacked u) buffer in
      let k : 256 ≤ m.answer = omega (arith, meeting_same.0) in
      rw (after_kept m k) (refl, refl, refl)

  -- what it leaves is packed as its unpacked form is, if that was so before
  pub meeting_exact : packed (unpacked s) ≡ s → packed (unpacked u) ≡ u
      → let o = packed_meeting_call s u buffer in (packed (unpacked o.first) ≡ o.first) × (packed (unpacked o.second) ≡ o.second)
  meeting_exact e f =
      let m = meeting_call (unpacked s) (unpacked u) buffer in
      elim (dec_lt m.answer 256) [
        | yes l ↦
            let is = after_taken m l in (
              ap packed meeting_same.1 ∙ sym (ap (λ o. o.first) is),
              ap packed meeting_same.2 ∙ sym (ap (λ o. o.second) is),
            )
        | no l ↦ rw (after_kept m (omega arith)) (e, f)
      ]
