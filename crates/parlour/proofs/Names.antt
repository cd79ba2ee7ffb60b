-- What the names of a history tell: whether there is a meeting, which one, and whether it is one of a pair with a label.
use Prim.Native.Nat.{ℕ, zero, suc, ◌<◌}
use mathlib.Core.Path.{◌≡◌, refl, sym, subst}
use mathlib.Core.Bool.{true, ◌&&◌, ◌||◌, false≢true}
use mathlib.Core.Logic.{◌↔◌, ◌⊎◌, inl, inr}
use native.Mathlib.Omega.{arith}
use borrow.Author.Tests.{eq-eqb, ne_eqb, eqb-true}
use lib.Dec.{eqb}
use Rattle.causality.specs.Event.{History}
use Rattle.causality.specs.Clock.{latest}
use Rattle.causality.specs.Meetings.{Joins}
use Rattle.labels.specs.Label.{label}
use Rattle.labels.specs.Name.{partner_of, name_of, SamePair, in_order, exchanged, SameName}
use Rattle.labels.proofs.Unique.{names_agree}
use Rattle.image.proofs.Passing.{and_holds, or_holds}
use Rattle.merge.specs.Known.{same_meeting}
use Rattle.image.specs.Row.{is_never}
use Rattle.merge.specs.Verdict.{same_name}
use Rattle.merge.specs.Label.{is_meeting}
use Rattle.parlour.specs.Table.{name_in}

module _ (n : ℕ) (h : History) where
  pub never_is : (r k : ℕ) → is_never (name_in n h r k) ≡ eqb k 0
  unfolding name_in
  never_is r zero = refl
  never_is r (suc k) = sym (ne_eqb (suc k) 0 (λ e. omega arith))

  -- the name in column r of place k is the meeting with this partner and this label
  pub meeting_is : (r k partner x : ℕ) → (is_meeting partner x (name_in n h r k) ≡ true) ↔ ((0 < k) × (partner_of h k r ≡ partner) × (label n h k ≡ x))
  unfolding name_in
  meeting_is r zero partner x = (λ e. absurd (false≢true e), λ w. absurd (omega (arith, w.0)))
  meeting_is r (suc k) partner x =
      let both = and_holds (eqb (partner_of h (suc k) r) partner) (eqb (label n h (suc k)) x) in (
        λ e. let (a, b) = both.0 e in (omega arith, eqb-true _ partner a, eqb-true _ x b),
        λ w. both.1 (eq-eqb _ partner w.1, eq-eqb _ x w.2),
      )

  -- two names are the same pair and label, by the test of a meeting
  same_test : (r j s k : ℕ)
      → (same_meeting r (name_in n h r (suc j)) s (name_in n h s (suc k)) ≡ true) ↔ SameName (name_of n h r (suc j)) (name_of n h s (suc k))
  unfolding name_in name_of
  same_test r j s k =
      let b = partner_of h (suc j) r in
      let d = partner_of h (suc k) s in
      let both = and_holds (eqb (label n h (suc j)) (label n h (suc k))) (eqb r s && eqb b d || eqb r d && eqb b s) in
      let either = or_holds (eqb r s && eqb b d) (eqb r d && eqb b s) in
      let straight = and_holds (eqb r s) (eqb b d) in
      let crossed = and_holds (eqb r d) (eqb b s) in (
        λ e.
            let (u, v) = both.0 e in
            record {
              pair = elim (either.0 v) [
                | inl w ↦ let (x, y) = straight.0 w in in_order (eqb-true r s x) (eqb-true b d y)
                | inr w ↦ let (x, y) = crossed.0 w in exchanged (eqb-true r d x) (eqb-true b s y)
              ];
              label = eqb-true _ _ u;
            },
        λ w. both.1 (eq-eqb _ _ w.label, either.1 (pair_test w.pair)),
      )
    where
      pair_test : {a b c d : ℕ} → SamePair a b c d → ((eqb a c && eqb b d) ≡ true) ⊎ ((eqb a d && eqb b c) ≡ true)
      pair_test (in_order x y) = inl ((and_holds _ _).1 (eq-eqb _ _ x, eq-eqb _ _ y))
      pair_test (exchanged x y) = inr ((and_holds _ _).1 (eq-eqb _ _ x, eq-eqb _ _ y))

  pub same_self : (r k : ℕ) → same_name (name_in n h r k) (name_in n h r k) ≡ true
  unfolding name_in
  same_self r zero = refl
  same_self r (suc k) = (and_holds _ _).1 (eq-eqb (partner_of h (suc k) r) (partner_of h (suc k) r) refl, eq-eqb (label n h (suc k)) (label n h (suc k)) refl)

  -- in own rows the same meeting is the same place
  pub same_place : ((k : ℕ) → Joins n (h k)) → (m p r q s : ℕ)
      → (same_meeting r (name_in n h r (latest h m p r)) s (name_in n h s (latest h m q s)) ≡ true)
      ↔ ((0 < latest h m p r) × (latest h m p r ≡ latest h m q s))
  unfolding name_in
  same_place joins m p r q s = go (latest h m p r) (latest h m q s) refl refl
    where
      go : (x y : ℕ) → latest h m p r ≡ x → latest h m q s ≡ y → (same_meeting r (name_in n h r x) s (name_in n h s y) ≡ true) ↔ ((0 < x) × (x ≡ y))
      go zero y e f = (λ z. absurd (false≢true z), λ w. absurd (omega (arith, w.0)))
      go (suc j) zero e f = (λ z. absurd (false≢true z), λ w. absurd (omega (arith, w.1)))
      go (suc j) (suc k) e f =
          let agree : SameName (name_of n h r (suc j)) (name_of n h s (suc k)) ↔ (suc j ≡ suc k) =
          subst (λ x. SameName (name_of n h r x) (name_of n h s (suc k)) ↔ (x ≡ suc k)) e
          (subst (λ y. SameName (name_of n h r (latest h m p r)) (name_of n h s y) ↔ (latest h m p r ≡ y)) f
          (names_agree n h joins m p r q s (omega arith) (omega arith))) in (
            λ z. (omega arith, agree.0 ((same_test r j s k).0 z)),
            λ w. (same_test r j s k).1 (agree.1 w.1),
          )
