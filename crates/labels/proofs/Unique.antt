-- Uniqueness: in own rows a pair and a label stand for one meeting.
use Prim.Native.Nat.{ℕ, zero, suc, ◌≤◌, ◌<◌}
use mathlib.Core.Path.{◌≡◌, refl, sym, subst}
use mathlib.Core.Logic.{◌↔◌, ◌⊎◌, inl, inr}
use native.Mathlib.Omega.{arith}
use native.Mathlib.Decide.{dec_lt}
use Rattle.causality.specs.Event.{History, Of}
use Rattle.causality.specs.Clock.{latest}
use Rattle.causality.specs.Meetings.{Joins}
use Rattle.causality.proofs.Events.{of_pos, of_cases}
use Rattle.causality.proofs.Clocks.{latest_le, latest_of, latest_in_le}
use Rattle.causality.proofs.Knowledge as Knowledge
use Rattle.labels.specs.Label.{label}
use Rattle.labels.specs.Name.{Name, SameName, SamePair, in_order, exchanged, name_of, partner_of}
use Rattle.labels.specs.Theory.{Names, secondary, Taken}
use Rattle.labels.proofs.Pairs.{pair_sym, pair_trans, partner_pair, pair_between, one_pair}
use Rattle.labels.proofs.Rule.{label_free}

module _ (N : ℕ) (h : History) (joins : (k : ℕ) → Joins N (h k)) where
  -- who takes part is one of 1 to N
  pub of_range : {r k : ℕ} → Of h r k → (1 ≤ r) × (r ≤ N)
  of_range {k = zero} o = absurd (omega (arith, of_pos o))
  of_range {k = suc k} o =
      let j = joins k in
      elim (of_cases o) [
        | inl e ↦ (omega (arith, j.first_from), omega (arith, j.first_to))
        | inr e ↦ (omega (arith, j.second_from), omega (arith, j.second_to))
      ]

  -- whatever is a latest of s, of anybody, is named by s
  named_by_own : (n y s : ℕ) → 0 < latest h n y s → Names N h n s (latest h n y s)
  named_by_own n y s l =
      let (t, e) = Knowledge.secondary h n y s l in
      let (a, b) = of_range (latest_of h n y s l) in
      let (c, d) = of_range (latest_of h n s t (omega (arith, latest_in_le h (latest h n s t) s))) in
      subst (Names N h n s) e (secondary t s c d a b)

  -- a meeting of the pair that is still a latest of somebody has its label taken when the pair meets again
  taken_again : (n z s m t : ℕ) → 0 < latest h n z s → latest h n z s ≤ m → m ≤ n → Of h t (suc m)
      → SamePair s (partner_of h (latest h n z s) s) t (partner_of h (suc m) t) → Taken N h m (label N h (latest h n z s))
  taken_again n z s m t l a b o p =
      let (y, e) = Knowledge.was_latest h n m z s l a b in
      record {
        place = latest h n z s;
        is_named = one_of_two (pair_trans p (pair_sym (partner_pair o))) (subst (Names N h m s) e (named_by_own m y s (omega arith)));
        same_two = pair_between (latest h n z s) (latest_of h n z s l) o p;
        has_label_lem = refl;
      }
    where
      one_of_two : {c e : ℕ} → SamePair s c (h m).first (h m).second → Names N h m s e
          → Names N h m (h m).first e ⊎ Names N h m (h m).second e
      one_of_two {e = e} (in_order i j) w = inl (subst (λ v. Names N h m v e) i w)
      one_of_two {e = e} (exchanged i j) w = inr (subst (λ v. Names N h m v e) i w)

  -- so the older of two meetings with one name is no latest any more
  not_older : (n z s t : ℕ) (f : ℕ) → 0 < latest h n z s → latest h n z s < f → f ≤ n → Of h t f
      → SameName (name_of N h s (latest h n z s)) (name_of N h t f) → ⊥
  unfolding name_of
  not_older n z s t zero l a b o w = omega arith
  not_older n z s t (suc m) l a b o w =
      label_free N h m (subst (Taken N h m) w.label (taken_again n z s m t l (omega arith) (omega arith) o w.pair))

  same_sym : {a b : Name} → SameName a b → SameName b a
  same_sym w = record { pair = pair_sym w.pair; label = sym w.label }

  same_place : (n z s y t : ℕ) → 0 < latest h n z s → 0 < latest h n y t
      → SameName (name_of N h s (latest h n z s)) (name_of N h t (latest h n y t)) → latest h n z s ≡ latest h n y t
  same_place n z s y t k l w =
      elim (dec_lt (latest h n z s) (latest h n y t)) [
        | yes a ↦ absurd (not_older n z s t _ k a (latest_le h n y t) (latest_of h n y t l) w)
        | no c ↦ elim (dec_lt (latest h n y t) (latest h n z s)) [
          | yes a ↦ absurd (not_older n y t s _ l a (latest_le h n z s) (latest_of h n z s k) (same_sym w))
          | no d ↦ omega arith
        ]
      ]

  same_name : {s t e f : ℕ} → Of h s e → Of h t f → e ≡ f → SameName (name_of N h s e) (name_of N h t f)
  unfolding name_of
  same_name {s} {t} {e} {f} o q i =
      subst (λ v. SameName (name_of N h s e) (name_of N h t v)) i
      (record { pair = one_pair e o (subst (Of h t) (sym i) q); label = refl })

  pub names_agree : (n z s y t : ℕ) → 0 < latest h n z s → 0 < latest h n y t
      → SameName (name_of N h s (latest h n z s)) (name_of N h t (latest h n y t)) ↔ (latest h n z s ≡ latest h n y t)
  names_agree n z s y t k l = (same_place n z s y t k l, same_name (latest_of h n z s k) (latest_of h n y t l))
