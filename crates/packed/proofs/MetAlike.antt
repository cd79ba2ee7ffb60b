-- A plain meeting, as the calls on packed images use it: lists of which the check says the same meet alike, and what an accepted one leaves.
use Prim.Native.Nat.{ℕ, ◌<◌}
use mathlib.Core.Path.{◌≡◌, refl, sym, ap, ap₂, subst}
use mathlib.Core.List.{List}
use native.Mathlib.Omega.{arith}
use Rattle.image.specs.Encode.{encode, table_of}
use Rattle.image.specs.Check.{checked}
use Rattle.image.specs.Theory.{Passes}
use Rattle.image.specs.declared.Header.{Header}
use Rattle.image.specs.declared.Checked.{Checked}
use Rattle.image.specs.declared.Checked.TheVariants.{Good, Refused}
use Rattle.image.proofs.Accepted.{Accepted, accepted}
use Rattle.image.proofs.MadeAccepted.{encode_again}
use Rattle.merge.specs.Merged.{merged}
use Rattle.merge.specs.Call.{MeetingOutcome, met_good, met_checked, meeting_call}
use Rattle.merge.proofs.meeting.AfterLaws.{met_first, met_second, merged_made, meets, meeting_accepted}
use Rattle.merge.proofs.meeting.Outcomes.{taken}

-- Lists of which the check says the same, and which are the same where it is good

abbrev pub Alike : MeetingOutcome → MeetingOutcome → Type 0
Alike o m = (o.answer ≡ m.answer) × (o.verdicts ≡ m.verdicts) × (o.answer < 256 → o ≡ m)

pub met_alike : (s s' u u' buffer : List ℕ) → checked s ≡ checked s' → checked u ≡ checked u'
    → ((h : Header) → checked s ≡ Good h → s ≡ s') → ((g : Header) → checked u ≡ Good g → u ≡ u') → Alike (meeting_call s u buffer) (meeting_call s' u' buffer)
unfolding meeting_call met_checked
met_alike s s' u u' buffer e f first second = rw (sym e, sym f) (go (checked s) refl (checked u) refl)
  where
    go : (x : Checked) → checked s ≡ x → (y : Checked) → checked u ≡ y → Alike (met_checked s u buffer x y) (met_checked s' u' buffer x y)
    go (Refused number) i y j = (refl, refl, λ l. absurd (omega arith))
    go (Good h) i (Refused number) j = (refl, refl, λ l. absurd (omega arith))
    go (Good h) i (Good g) j =
        let d = ap₂ (λ a b. met_good a b buffer h g) (first h i) (second g j) in
        (ap (λ o. o.answer) d, ap (λ o. o.verdicts) d, λ l. d)

-- Accepted: both images pass afterwards, and are then the images of what they say

pub record After (s u : List ℕ) (o : MeetingOutcome) : Type 0 where
  pub n : ℕ
  pub p : ℕ
  pub q : ℕ
  pub first_passes : Passes s n p
  pub second_passes : Passes u n q
  pub first_after_lem : Accepted o.first n p
  pub second_after_lem : Accepted o.second n q
  pub first_encodes : encode n p (table_of o.first n) ≡ o.first
  pub second_encodes : encode n q (table_of o.second n) ≡ o.second

pub meeting_after : (s u buffer : List ℕ) → (meeting_call s u buffer).answer < 256 → After s u (meeting_call s u buffer)
meeting_after s u buffer l =
    let w = taken s u buffer l in
    let n = w.n in
    let p = w.p in
    let q = w.q in
    let a = table_of s n in
    let b = table_of u n in
    let v = accepted s _ w.first_passes in
    let x = accepted u _ w.second_passes in
    let f = v.frame in
    let m = meets v x w.differ w.decided in
    let after = meeting_accepted v x w.differ w.decided in
    subst (After s u) (sym w.is) (record {
      n = n;
      p = p;
      q = q;
      first_passes = w.first_passes;
      second_passes = w.second_passes;
      first_after_lem = after.0;
      second_after_lem = after.1;
      first_encodes = encode_again n p (merged n p a q b a.current) f.n_from f.n_to m.heads.p_from m.heads.p_to
          (merged_made m p a.current (met_first n p a q b) m.heads.first.current_in);
      second_encodes = encode_again n q (merged n p a q b b.current) f.n_from f.n_to m.heads.q_from m.heads.q_to
          (merged_made m q b.current (met_second n p a q b) m.heads.second.current_in);
    })
