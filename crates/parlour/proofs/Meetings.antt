-- A meeting of a list.
use Prim.Native.Nat.{ℕ, zero, suc, ◌+◌, ◌≤◌}
use mathlib.Core.Path.{◌≡◌, refl, sym, ap, ap₂, subst, ◌∙◌}
use mathlib.Core.Bool.{Bool, true, false, cond}
use mathlib.Core.List.{List, [], ◌∷◌, ◌++◌, map, map-append}
use mathlib.Core.Logic.{◌⊎◌, inl, inr}
use native.Mathlib.Omega.{arith}
use borrow.Author.Tests.{eqb-true, eqb-false, lt-ltb, le-ltb}
use lib.Dec.{eqb, ltb}
use lib.ListN.{length}
use Rattle.causality.specs.Event.{Of}
use Rattle.causality.specs.Best as Best
use Rattle.causality.specs.Meetings as Events
use Rattle.causality.specs.Meetings.{Joins}
use Rattle.causality.proofs.Events.{of_either, of_cases}
use Rattle.labels.specs.Label as Label
use Rattle.labels.proofs.Limit.{label_bound}
use Rattle.image.specs.Stalls.{each}
use Rattle.image.specs.Layout.{label_limit}
use Rattle.image.specs.Encode.{Table, encode, table_of}
use Rattle.image.proofs.Accepted.{Accepted}
use Rattle.merge.specs.Label.{new_label}
use Rattle.merge.specs.Merged.{merged, verdict_bytes}
use Rattle.merge.specs.Verdict.{undecided}
use Rattle.merge.specs.Call.{MeetingOutcome, refused_meeting, accepted_meeting, met_together}
use Rattle.merge.proofs.pairs.PairRows.{each_agree}
use Rattle.merge.proofs.Heads.{accepted_heads}
use Rattle.merge.proofs.label.NewLabel.{new_label_most, new_label_limit}
use Rattle.merge.proofs.meeting.AfterLaws.{meeting_short, meeting_called, meeting_accepted}
use Rattle.parlour.specs.Item.{Item, meeting, counts}
use Rattle.parlour.specs.History.{meetings, events, yield_after, yield_at}
use Rattle.parlour.specs.Table.{table_at, table_after, image_after}
use Rattle.parlour.specs.Call.{MeetingCall}
use Rattle.parlour.specs.Run.{Images, put, Called}
use Rattle.parlour.specs.Claim.{refusal, is_accepted, buffer_of, CallClaim}
use Rattle.parlour.proofs.Says.{Says}
use Rattle.parlour.proofs.Verdicts.{verdict_best, decided}
use Rattle.parlour.proofs.Merging.{meeting_label, meeting_says}
use Rattle.parlour.proofs.Images.{table_says, says_agree, says_apart}
use Rattle.parlour.proofs.Histories.{joins_meeting, events_agree, events_next, yields_agree, yields_next, joins_next}
use Rattle.parlour.proofs.Kept.{Kept, is_after, kept_says, kept_current, kept_same}
use Rattle.parlour.proofs.Put.{put_same, put_each}

-- one byte a stall, as a list of the stalls
pub each_map : (n : ℕ) (f : ℕ → ℕ) → each n (λ r. f r ∷ []) ≡ map f (Best.up_to n)
unfolding each Best.up_to
each_map zero f = refl
each_map (suc n) f = ap (λ l. l ++ (f (suc n) ∷ [])) (each_map n f) ∙ sym (map-append f (Best.up_to n) (suc n ∷ []))

module _ {n : ℕ} {l : List Item} {images : Images} (w : Kept n l images) (p q answer : ℕ) (buffer first second verdicts : List ℕ)
    (p_from : 1 ≤ p) (p_to : p ≤ n) (q_from : 1 ≤ q) (q_to : q ≤ n) (differ : p ≡ q → ⊥)
    (call : MeetingCall (images p) (images q) buffer answer first second verdicts) where
  abbrev called : Called
  called = record { item = meeting p q buffer; before = images; answer = answer; after = put (put images p first) q second; verdicts = verdicts }

  abbrev outcome : MeetingOutcome
  outcome = record { answer = answer; first = first; second = second; verdicts = verdicts }

  -- the tables of the two, and the history with this meeting
  abbrev a : Table
  a = table_of (images p) n

  abbrev b : Table
  b = table_of (images q) n

  abbrev next : List Item
  next = meeting p q buffer ∷ l

  short : (length buffer ≡ n → ⊥) → outcome ≡ refused_meeting (images p) (images q) buffer 8
  short f = call.learnt ∙ meeting_short (w.good p p_from p_to) (w.good q q_from q_to) differ buffer f

  together : undecided n p a q b ≡ false
  together = decided n (events l) w.joins (meetings l) (kept_says w p p_from p_to) (kept_says w q q_from q_to) p_from p_to q_from q_to

  pub taken : length buffer ≡ n → outcome ≡ accepted_meeting (images p) (images q) buffer n p q
  unfolding met_together
  taken e =
      call.learnt
      ∙ meeting_called (w.good p p_from p_to) (w.good q q_from q_to) differ buffer e
      ∙ ap (λ t. cond t (refused_meeting (images p) (images q) buffer 9) (accepted_meeting (images p) (images q) buffer n p q)) together

  joined : (k : ℕ) → Joins n (events next k)
  joined = joins_next p q buffer l (joins_meeting p_from p_to q_from q_to differ) w.joins

  -- what a head said before the meeting, it says of the history with it
  before : (z : ℕ) → 1 ≤ z → z ≤ n → Says n (events next) (yield_at next) (meetings l) z (table_of (images z) n)
  before z i j = says_agree (events_agree p q buffer l) (yields_agree p q buffer l) (kept_says w z i j)

  label_is : new_label n p a q b ≡ Label.label n (events next) (suc (meetings l))
  label_is = meeting_label n (events next) joined (meetings l) (events_next p q buffer l) (before p p_from p_to) (before q q_from q_to)

  verdicts_are : verdict_bytes n p a q b ≡ Best.verdicts (events l) (meetings l) n p q
  unfolding verdict_bytes Best.verdicts
  verdicts_are =
      each_agree n _ (λ r. Best.best (events l) (meetings l) p q r ∷ [])
      (λ r i j. ap (λ x. x ∷ []) (verdict_best n (events l) w.joins (meetings l) (kept_says w p p_from p_to) (kept_says w q q_from q_to) p_from p_to q_from q_to r i j))
      ∙ each_map n (Best.best (events l) (meetings l) p q)

  answer_in : length buffer ≡ n → answer ≤ label_limit n
  answer_in e =
      subst (λ x. x ≤ label_limit n) (sym (ap (λ o. o.answer) (taken e))) (new_label_limit (accepted_heads (w.good p p_from p_to) (w.good q q_from q_to) differ))

  -- after it each of the two has the image of the history with the meeting
  met_image : (z : ℕ) → Of (events next) z (suc (meetings l)) → (current : ℕ) → current ≡ yield_after l z
      → encode n z (merged n p a q b current) ≡ image_after n next z
  unfolding merged meetings yield_after
  met_image z takes current c =
      is_after n next z
      (meeting_says n (events next) joined (meetings l) (events_next p q buffer l) (before p p_from p_to) (before q q_from q_to) z takes
      (yields_next p q buffer l p ∙ sym (kept_current w p p_from p_to)) (yields_next p q buffer l q ∙ sym (kept_current w q q_from q_to)) current) c

  pub meeting_claim : CallClaim n called l
  unfolding is_accepted counts refusal buffer_of meetings
  meeting_claim =
      record {
        accepted = go (eqb (length buffer) n) refl;
        refused = λ e. ap (λ o. o.answer) (short (eqb-false _ n e));
        unchanged = λ e z.
            let d = short (eqb-false _ n e) in
            let one = ap (λ o. o.first) d in
            put_same (put images p first) q z (ap (λ o. o.second) d ∙ sym (put_same images p q one)) ∙ put_same images p z one;
        buffer_unchanged = λ e. ap (λ o. o.verdicts) (short (eqb-false _ n e));
        label = λ x y k e c. ap (λ o. o.answer) (taken (eqb-true _ n c)) ∙ label_is;
        label_in = λ x y k e c. answer_in (eqb-true _ n c);
        label_below = λ x y k e c.
            omega (arith, ap (λ o. o.answer) (taken (eqb-true _ n c)), label_is, label_bound n (events next) joined (meetings l));
        verdicts = λ x y k e c.
            let i : p ≡ x = cc in
            let j : q ≡ y = cc in
            ap (λ o. o.verdicts) (taken (eqb-true _ n c)) ∙ verdicts_are ∙ ap₂ (Best.verdicts (events l) (meetings l) n) i j;
      }
    where
      go : (t : Bool) → eqb (length buffer) n ≡ t → ltb answer 256 ≡ t
      go true e = lt-ltb answer 256 (omega (arith, ap (λ o. o.answer) (taken (eqb-true _ n e)), new_label_most n p a q b, w.n_to))
      go false e = let d : answer ≡ 256 + 8 = ap (λ o. o.answer) (short (eqb-false _ n e)) in le-ltb answer 256 (omega arith)

  -- who takes part in it
  takes_part : {z : ℕ} → (p ≡ z) ⊎ (q ≡ z) → Of (events next) z (suc (meetings l))
  unfolding Events.meeting
  takes_part (inl e) = of_either (inl (ap (λ x. x.first) (events_next p q buffer l) ∙ e))
  takes_part (inr e) = of_either (inr (ap (λ x. x.second) (events_next p q buffer l) ∙ e))

  apart : {z : ℕ} → (z ≡ p → ⊥) → (z ≡ q → ⊥) → Of (events next) z (suc (meetings l)) → ⊥
  unfolding Events.meeting
  apart f g o =
      elim (of_cases o) [
        | inl e ↦ f (sym e ∙ ap (λ x. x.first) (events_next p q buffer l))
        | inr e ↦ g (sym e ∙ ap (λ x. x.second) (events_next p q buffer l))
      ]

  apart_image : (z : ℕ) → (z ≡ p → ⊥) → (z ≡ q → ⊥) → image_after n l z ≡ image_after n next z
  unfolding image_after table_after table_at meetings yield_after
  apart_image z f g =
      is_after n next z
      (says_apart (apart f g) (says_agree (events_agree p q buffer l) (yields_agree p q buffer l) (table_says n (events l) (yield_at l) (meetings l) z (yield_after l z)))) refl

  counted : length buffer ≡ n → Kept n next (put (put images p first) q second)
  counted e =
      let o = taken e in
      let (x, y) = meeting_accepted (w.good p p_from p_to) (w.good q q_from q_to) differ together in
      record {
        n_from = w.n_from;
        n_to = w.n_to;
        joins = joined;
        good = λ z i j.
            put_each (λ r s. Accepted s n r) (put images p first) q z (subst (λ s. Accepted s n q) (sym (ap (λ o. o.second) o)) y)
            (λ g. put_each (λ r s. Accepted s n r) images p z (subst (λ s. Accepted s n p) (sym (ap (λ o. o.first) o)) x) (λ f. w.good z i j));
        is = λ z i j.
            put_each (λ r s. s ≡ image_after n next r) (put images p first) q z
            (ap (λ o. o.second) o ∙ met_image q (takes_part (inr refl)) b.current (kept_current w q q_from q_to))
            (λ g. put_each (λ r s. s ≡ image_after n next r) images p z
            (ap (λ o. o.first) o ∙ met_image p (takes_part (inl refl)) a.current (kept_current w p p_from p_to))
            (λ f. w.is z i j ∙ apart_image z f g));
      }

  -- the next history and its images
  pub meeting_kept : Kept n (cond (counts n (meeting p q buffer)) next l) (put (put images p first) q second)
  unfolding counts
  meeting_kept = go (eqb (length buffer) n) refl
    where
      go : (t : Bool) → eqb (length buffer) n ≡ t → Kept n (cond t next l) (put (put images p first) q second)
      go true e = counted (eqb-true _ n e)
      go false e = kept_same w (λ z. meeting_claim.unchanged e z)
