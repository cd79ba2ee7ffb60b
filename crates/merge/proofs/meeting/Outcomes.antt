-- A meeting as a call is one of two: refused, with every lent byte as before, or a meeting of these two heads.
use Prim.Native.Nat.{ℕ, ◌≤◌, ◌<◌}
use mathlib.Core.Path.{◌≡◌, refl, sym, ap, ◌∙◌}
use mathlib.Core.Bool.{Bool, false, not, ◌||◌}
use mathlib.Core.Logic.{◌⊎◌, inl, inr}
use mathlib.Core.List.{List}
use native.Mathlib.Omega.{arith}
use borrow.Author.Tests.{eqb-true, eqb-false, not-false}
use lib.Dec.{eqb}
use lib.ListN.{length}
use Rattle.image.specs.Check.{checked}
use Rattle.image.specs.Encode.{table_of}
use Rattle.image.specs.Theory.{Passes}
use Rattle.image.specs.declared.Header.{Header}
use Rattle.image.specs.declared.Checked.{Checked}
use Rattle.image.specs.declared.Checked.TheVariants.{Good, Refused}
use Rattle.image.proofs.Accepted.{accepted, not_either}
use Rattle.merge.specs.Verdict.{undecided}
use Rattle.merge.specs.Call.{MeetingOutcome, refused_meeting, accepted_meeting, met_together, met_good, met_checked, meeting_call}
use Rattle.merge.proofs.label.NewLabel.{new_label_most}
use Rattle.merge.proofs.meeting.AfterLaws.{either}

-- two images "differ in N or have one stall"
abbrev apart : Header → Header → Bool
apart h g = not (eqb h.n g.n) || eqb h.stall g.stall

-- two that do not
one_parlour : (u : List ℕ) (h g : Header) → apart h g ≡ false → checked u ≡ Good g → checked u ≡ Good (record { n = h.n; stall = g.stall })
one_parlour u h g e f =
    let same = eqb-true h.n g.n (not-false (eqb h.n g.n) (not_either (not (eqb h.n g.n)) (eqb h.stall g.stall) e).0) in
    f ∙ ap (λ n. Good (record { n = n; stall = g.stall })) (sym same)

module _ (s u buffer : List ℕ) where
  -- refused: every lent byte as before
  pub record Kept (o : MeetingOutcome) : Type 0 where
    pub first_stays : o.first ≡ s
    pub second_stays : o.second ≡ u
    pub verdicts_stay : o.verdicts ≡ buffer
    pub number : 256 ≤ o.answer

  -- accepted, as a meeting of these two heads
  pub record Taken (o : MeetingOutcome) : Type 0 where
    pub n : ℕ
    pub p : ℕ
    pub q : ℕ
    pub first_passes : Passes s n p
    pub second_passes : Passes u n q
    pub differ : p ≡ q → ⊥
    pub long : length buffer ≡ n
    pub decided : undecided n p (table_of s n) q (table_of u n) ≡ false
    pub is : o ≡ accepted_meeting s u buffer n p q

  abbrev pub Either : MeetingOutcome → Type 0
  Either o = Kept o ⊎ Taken o

  refused_kept : (number : ℕ) → Either (refused_meeting s u buffer number)
  refused_kept number = inl (record { first_stays = refl; second_stays = refl; verdicts_stay = refl; number = omega arith })

  pair_either : (h g : Header) → checked s ≡ Good h → checked u ≡ Good g → Either (met_good s u buffer h g)
  unfolding met_good met_together
  pair_either h g e f =
      either Either (apart h g) _ _ (λ x. refused_kept 7) (λ x.
      either Either (not (eqb (length buffer) h.n)) _ _ (λ y. refused_kept 8) (λ y.
      either Either (undecided h.n h.stall (table_of s h.n) g.stall (table_of u h.n)) _ _ (λ z. refused_kept 9) (λ z.
      inr (record {
        n = h.n;
        p = h.stall;
        q = g.stall;
        first_passes = e;
        second_passes = one_parlour u h g x f;
        differ = eqb-false h.stall g.stall (not_either (not (eqb h.n g.n)) (eqb h.stall g.stall) x).1;
        long = eqb-true (length buffer) h.n (not-false _ y);
        decided = z;
        is = refl;
      }))))

  pub meeting_either : Either (meeting_call s u buffer)
  unfolding meeting_call met_checked
  meeting_either = go (checked s) refl (checked u) refl
    where
      go : (x : Checked) → checked s ≡ x → (y : Checked) → checked u ≡ y → Either (met_checked s u buffer x y)
      go (Refused number) e y f = refused_kept number
      go (Good h) e (Refused number) f = refused_kept number
      go (Good h) e (Good g) f = pair_either h g e f

  pub taken : (meeting_call s u buffer).answer < 256 → Taken (meeting_call s u buffer)
  taken l = elim meeting_either [ inl w ↦ absurd (omega (arith, w.number)) | inr w ↦ w ]

  -- labels are below 256
  pub kept : 256 ≤ (meeting_call s u buffer).answer → Kept (meeting_call s u buffer)
  kept l =
      elim meeting_either [
        | inl w ↦ w
        | inr w ↦
            absurd (omega (arith, ap (λ o. o.answer) w.is, new_label_most w.n w.p (table_of s w.n) w.q (table_of u w.n), (accepted s _ w.first_passes).frame.n_to))
      ]
