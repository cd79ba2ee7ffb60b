-- The laws of `specs/Theory.antt` hold of every two images.
use Prim.Native.Nat.{ℕ, ◌^◌, ◌≤◌, ◌<◌}
use mathlib.Core.Path.{◌≡◌, sym, ap, ◌∙◌}
use mathlib.Core.Bool.{cond}
use mathlib.Core.Logic.{inl, inr}
use mathlib.Core.List.{List, [], ◌∷◌}
use native.Mathlib.Omega.{arith}
use lib.ListN.{length, drop, replicate, length-replicate, get_or-replicate}
use lib.Seq.{take_all}
use Rattle.image.specs.Stalls.{each}
use Rattle.image.specs.Layout.{label_limit}
use Rattle.image.specs.Check.{checked}
use Rattle.image.specs.Encode.{encode, table_of}
use Rattle.image.specs.Theory.{Passes}
use Rattle.image.proofs.NameBytes.{limit_bits, limit_five}
use Rattle.image.proofs.Accepted.{accepted, checked_accepted}
use Rattle.merge.specs.Merged.{merged}
use Rattle.merge.specs.Call.{refused_meeting, accepted_meeting, met_together, meeting_call}
use Rattle.merge.specs.Theory.{Theory}
use Rattle.merge.proofs.Heads.{Heads, accepted_heads}
use Rattle.merge.proofs.label.Counting.{count_names}
use Rattle.merge.proofs.label.TwoHeads.{label_of_two}
use Rattle.merge.proofs.label.NewLabel.{new_label_most, new_label_limit, new_label_lowest, new_label_free}
use Rattle.merge.proofs.meeting.AfterMeeting.{take_each}
use Rattle.merge.proofs.meeting.Outcomes.{Taken, taken, meeting_either}
use Rattle.merge.proofs.meeting.AfterLaws as laws

zeros : (n : ℕ) → each n (λ r. 0 ∷ []) ≡ replicate n 0
zeros n =
    sym (take_each n (replicate n 0) (λ r. 0) (omega (arith, length-replicate {A = ℕ} n 0)) (λ r i j. get_or-replicate n _ 0 0 (omega arith)))
    ∙ take_all n (replicate n 0) (omega (arith, length-replicate {A = ℕ} n 0))

-- the two heads, where both images pass
heads : (s u : List ℕ) {n p q : ℕ} → Passes s n p → Passes u n q → (p ≡ q → ⊥) → Heads n p (table_of s n) q (table_of u n)
heads s u a b differ = accepted_heads (accepted s _ a) (accepted u _ b) differ

module _ (s u buffer : List ℕ) where
  -- its label is within the limit
  limit : (meeting_call s u buffer).answer < 256 → (meeting_call s u buffer).answer ≤ label_limit (length buffer)
  limit l =
      let w = taken s u buffer l in
      rw (w.is, w.long) (new_label_limit (heads s u w.first_passes w.second_passes w.differ))

  bits : (meeting_call s u buffer).answer < 256 → ((meeting_call s u buffer).answer < 2 ^ 6) × (length buffer ≤ 8 → (meeting_call s u buffer).answer < 2 ^ 5)
  bits l =
      let w = taken s u buffer l in
      (omega (arith, limit l, limit_bits (length buffer) (omega (arith, w.long, (accepted s _ w.first_passes).frame.n_to))), λ m. omega (arith, limit l, limit_five (length buffer) m))

  two : (meeting_call s u buffer).answer < 256 → length buffer ≡ 2 → (meeting_call s u buffer).answer < label_limit 2
  two l e =
      let w = taken s u buffer l in
      rw w.is (label_of_two (sym w.long ∙ e) (heads s u w.first_passes w.second_passes w.differ) w.decided)

  -- the check says the same afterwards
  stays : (checked (meeting_call s u buffer).first ≡ checked s) × (checked (meeting_call s u buffer).second ≡ checked u)
  stays =
      elim (meeting_either s u buffer) [
        | inl w ↦ (ap checked w.first_stays, ap checked w.second_stays)
        | inr w ↦
            let (x, y) = laws.meeting_accepted (accepted s _ w.first_passes) (accepted u _ w.second_passes) w.differ w.decided in
            (ap (λ o. checked o.first) w.is ∙ checked_accepted x ∙ sym w.first_passes, ap (λ o. checked o.second) w.is ∙ checked_accepted y ∙ sym w.second_passes)
      ]

  same : (meeting_call s u buffer).answer < 256 → drop 4 (meeting_call s u buffer).first ≡ drop 4 (meeting_call s u buffer).second
  unfolding encode merged
  same l = let w = taken s u buffer l in ap (λ o. drop 4 o.first) w.is ∙ sym (ap (λ o. drop 4 o.second) w.is)

  -- a second meeting at once
  module _ (again : List ℕ) (l : (meeting_call s u buffer).answer < 256) (e : length again ≡ length buffer) where
    w : Taken s u buffer (meeting_call s u buffer)
    w = taken s u buffer l

    abbrev first : List ℕ
    first = laws.first_after s u w.n w.p w.q

    abbrev second : List ℕ
    second = laws.second_after s u w.n w.p w.q

    accepted_again : meeting_call (meeting_call s u buffer).first (meeting_call s u buffer).second again ≡ accepted_meeting first second again w.n w.p w.q
    unfolding met_together
    accepted_again =
        let a = accepted s _ w.first_passes in
        let b = accepted u _ w.second_passes in
        let (x, y) = laws.meeting_accepted a b w.differ w.decided in
        ap (λ o. meeting_call o.first o.second again) w.is
        ∙ laws.meeting_called x y w.differ again (e ∙ w.long)
        ∙ ap (λ t. cond t (refused_meeting first second again 9) (accepted_meeting first second again w.n w.p w.q)) (laws.meeting_decided a b w.differ w.decided)

    again_decided : (meeting_call (meeting_call s u buffer).first (meeting_call s u buffer).second again).answer < 256
    again_decided = rw accepted_again (omega (arith, new_label_most w.n w.p (table_of first w.n) w.q (table_of second w.n), (accepted s _ w.first_passes).frame.n_to))

    again_zeros : (meeting_call (meeting_call s u buffer).first (meeting_call s u buffer).second again).verdicts ≡ replicate (length again) 0
    again_zeros =
        ap (λ o. o.verdicts) accepted_again
        ∙ laws.meeting_zeros (accepted s _ w.first_passes) (accepted u _ w.second_passes) w.differ w.decided
        ∙ zeros w.n
        ∙ ap (λ k. replicate {A = ℕ} k 0) (sym (e ∙ w.long))

pub theory : Theory
theory =
    record {
      new_label_free = new_label_free;
      new_label_lowest = new_label_lowest;
      new_label_most = new_label_most;
      pair_names_lem = λ s u n p q a b differ t. omega (arith, count_names (heads s u a b differ) t);
      new_label_limit = λ s u n p q a b differ. new_label_limit (heads s u a b differ);
      meeting_limit = limit;
      meeting_bits = bits;
      label_of_two = two;
      nine_iff = λ s u buffer n p q a b differ long. laws.nine_iff (accepted s _ a) (accepted u _ b) differ buffer long;
      meeting_accepted = stays;
      after_same = same;
      meeting_decided = again_decided;
      meeting_zeros = again_zeros;
    }
