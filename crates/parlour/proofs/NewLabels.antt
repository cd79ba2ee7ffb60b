-- For two tables of one history the label that no row has is the label of the history.
use Prim.Native.Nat.{ℕ, zero, suc, ◌≤◌}
use mathlib.Core.Path.{◌≡◌, refl, sym, ap, subst, ◌∙◌}
use mathlib.Core.Bool.{Bool, true, ◌||◌, true≢false}
use mathlib.Core.Logic.{◌⊎◌, inl, inr}
use native.Mathlib.Omega.{arith}
use native.Mathlib.Decide.{dec_lt}
use lib.Dec.{T}
use Rattle.causality.specs.Event.{History, Of}
use Rattle.causality.specs.Clock.{latest, latest_in}
use Rattle.causality.specs.Meetings.{Joins}
use Rattle.causality.proofs.Events.{of_first, of_second}
use Rattle.causality.proofs.Clocks.{latest_self, latest_in_of}
use Rattle.labels.specs.Label.{between, label}
use Rattle.labels.specs.Name.{partner_of, SamePair, in_order, exchanged}
use Rattle.labels.specs.Theory.{Names, primary, secondary, Taken}
use Rattle.labels.proofs.Pairs.{pair_trans, pair_of_test, partner_pair, pair_between, partner_first, partner_second}
use Rattle.labels.proofs.Rule.{label_free, label_lowest}
use Rattle.image.specs.Encode.{Table}
use Rattle.image.proofs.Passing.{or_holds, some_holds}
use Rattle.merge.specs.Label.{is_meeting, row_has, label_used, new_label}
use Rattle.merge.proofs.label.NewLabel.{new_label_lowest, new_label_free}
use Rattle.parlour.specs.Table.{name_in}
use Rattle.parlour.proofs.Names.{meeting_is}
use Rattle.parlour.proofs.Says.{Says}

module _ (n : ℕ) (h : History) (m k : ℕ) where
  abbrev p : ℕ
  p = (h m).first

  abbrev q : ℕ
  q = (h m).second

  -- a name of the pair in a row of one of the two takes its label
  entry_taken : {at : ℕ → ℕ → ℕ} {z : ℕ} {t : Table} → Says n h at m z t → ((x : ℕ) → Names n h m z x → Names n h m p x ⊎ Names n h m q x)
      → (s c d : ℕ) → 1 ≤ s → s ≤ n → 1 ≤ c → c ≤ n → Of h c (suc m) → partner_of h (suc m) c ≡ d → is_meeting d k (t.names s c) ≡ true → Taken n h m k
  entry_taken {z = z} {t = t} w side s c d i j u v o e f =
      let (l, x, y) = (meeting_is n h c (latest_in h (latest h m z s) c) d k).0 (ap (is_meeting d k) (sym (w.names s c i j u v)) ∙ f) in
      record {
        place = latest_in h (latest h m z s) c;
        is_named = side _ (secondary s c i j u v);
        same_two = pair_between _ (latest_in_of h _ c l) o (in_order refl (x ∙ sym e));
        has_label_lem = y;
      }

  row_taken : Joins n (h m) → {at : ℕ → ℕ → ℕ} {z : ℕ} {t : Table} → Says n h at m z t → ((x : ℕ) → Names n h m z x → Names n h m p x ⊎ Names n h m q x)
      → (s : ℕ) → 1 ≤ s → s ≤ n → row_has p q t k s ≡ true → Taken n h m k
  row_taken w {t = t} v side s i j e =
      elim ((or_holds (is_meeting q k (t.names s p)) (is_meeting p k (t.names s q))).0 e) [
        | inl f ↦ entry_taken v side s p q i j w.first_from w.first_to (of_first h m) (partner_first h m) f
        | inr f ↦ entry_taken v side s q p i j w.second_from w.second_to (of_second h m) (partner_second h m w.different) f
      ]

  -- and whatever takes a label stands in a row
  row_has_lem : {at : ℕ → ℕ → ℕ} {z : ℕ} {t : Table} → Says n h at m z t → (s r x : ℕ) → x ≡ latest_in h (latest h m z s) r → 1 ≤ s → s ≤ n → 1 ≤ r → r ≤ n
      → T (between h (h m) x) → label n h x ≡ k → row_has p q t k s ≡ true
  unfolding between
  row_has_lem w s r zero e i j u v b l = absurd b
  row_has_lem {z = z} {t = t} w s r (suc x) e i j u v b l =
      let o : Of h r (suc x) = subst (Of h r) (sym e) (latest_in_of h _ r (omega (arith, e))) in
      go (pair_trans (pair_of_test (h m) (h x) b) (partner_pair o))
    where
      found : (d : ℕ) → partner_of h (suc x) r ≡ d → is_meeting d k (t.names s r) ≡ true
      found d f = ap (is_meeting d k) (w.names s r i j u v ∙ ap (name_in n h r) (sym e)) ∙ (meeting_is n h r (suc x) d k).1 (omega arith, f, l)

      go : SamePair p q r (partner_of h (suc x) r) → row_has p q t k s ≡ true
      go (in_order a c) = (or_holds (is_meeting q k (t.names s p)) _).1 (inl (subst (λ y. is_meeting q k (t.names s y) ≡ true) (sym a) (found q (sym c))))
      go (exchanged a c) = (or_holds (is_meeting q k (t.names s p)) _).1 (inr (subst (λ y. is_meeting p k (t.names s y) ≡ true) (sym c) (found p (sym a))))

  named_row : {at : ℕ → ℕ → ℕ} {z : ℕ} {t : Table} → Says n h at m z t → 1 ≤ z → z ≤ n → {x : ℕ} → Names n h m z x → T (between h (h m) x) → label n h x ≡ k
      → (s : ℕ) × (1 ≤ s) × (s ≤ n) × (row_has p q t k s ≡ true)
  named_row {z = z} w i j (primary r a c) b l = (z, i, j, row_has_lem w z r _ (latest_self h m z r) i j a c b l)
  named_row w i j (secondary s r a c d e) b l = (s, a, c, row_has_lem w s r _ refl a c d e b l)

module _ (n : ℕ) (h : History) (joins : (k : ℕ) → Joins n (h k)) (m : ℕ) {at : ℕ → ℕ → ℕ} {a b : Table}
    (v : Says n h at m (h m).first a) (w : Says n h at m (h m).second b) where
  -- a row of the first or of the second has the label
  abbrev has : ℕ → Table → ℕ → Bool
  has k t s = row_has (h m).first (h m).second t k s

  used_taken : (k : ℕ) → label_used n (h m).first a (h m).second b k ≡ true → Taken n h m k
  unfolding label_used
  used_taken k e =
      let (s, i, j, f) = (some_holds n _).0 e in
      elim ((or_holds (has k a s) (has k b s)).0 f) [
        | inl g ↦ row_taken n h m k (joins m) v (λ x. inl) s i j g
        | inr g ↦ row_taken n h m k (joins m) w (λ x. inr) s i j g
      ]

  taken_used : (k : ℕ) → Taken n h m k → label_used n (h m).first a (h m).second b k ≡ true
  unfolding label_used
  taken_used k t =
      let e = joins m in
      elim t.is_named [
        | inl x ↦
            let (s, i, j, f) = named_row n h m k v e.first_from e.first_to x t.same_two t.has_label_lem in
            (some_holds n (λ r. has k a r || has k b r)).1 (s, i, j, (or_holds (has k a s) (has k b s)).1 (inl f))
        | inr x ↦
            let (s, i, j, f) = named_row n h m k w e.second_from e.second_to x t.same_two t.has_label_lem in
            (some_holds n (λ r. has k a r || has k b r)).1 (s, i, j, (or_holds (has k a s) (has k b s)).1 (inr f))
      ]

  pub new_label_label : new_label n (h m).first a (h m).second b ≡ label n h (suc m)
  new_label_label =
      let new = new_label n (h m).first a (h m).second b in
      elim (dec_lt new (label n h (suc m))) [
        | yes l ↦ absurd (true≢false (sym (taken_used new (label_lowest n h m new l)) ∙ new_label_free n (h m).first a (h m).second b))
        | no f ↦ elim (dec_lt (label n h (suc m)) new) [
          | yes l ↦ absurd (label_free n h m (used_taken (label n h (suc m)) (new_label_lowest n (h m).first a (h m).second b _ l)))
          | no g ↦ omega arith
        ]
      ]
