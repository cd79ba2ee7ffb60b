-- Tables that say what a history says, and their images.
use Prim.Native.Nat.{ℕ, zero, suc, ◌≤◌}
use mathlib.Core.Path.{◌≡◌, refl, sym, ap, ap₂, subst, ◌∙◌}
use mathlib.Core.Bool.{Bool, true, false, ◌&&◌, cond}
use native.Mathlib.Omega.{arith}
use native.Mathlib.Decide.{ℕ_discrete}
use borrow.Author.Tests.{eq-eqb, ne_eqb, le-leb}
use lib.Dec.{eqb, leb}
use Rattle.causality.specs.Event.{History, Of}
use Rattle.causality.specs.Clock.{latest, latest_in, in_past}
use Rattle.causality.specs.Meetings.{Joins, Agree}
use Rattle.causality.proofs.Clocks.{latest_apart, latest_self, latest_le, latest_in_le}
use Rattle.causality.proofs.Agreement.{agree_less, latest_agree, latest_in_agree}
use Rattle.labels.specs.Name.{partner_of}
use Rattle.labels.proofs.Rule.{label_agree}
use Rattle.image.specs.Encode.{Table, encode, table_of}
use Rattle.image.specs.declared.Name.TheVariants.{With}
use Rattle.image.proofs.Encoding.{Proper, name_encode, yield_encode, mark_encode, encode_agree}
use Rattle.parlour.specs.Table.{name_in, named, table_at}
use Rattle.parlour.proofs.Says.{Says}

-- the table of a history says it
pub table_says : (n : ℕ) (h : History) (at : ℕ → ℕ → ℕ) (m p current : ℕ) → Says n h at m p (table_at n h at m p current)
unfolding table_at named
table_says n h at m p current =
    record { names = λ s r i j k l. ap (name_in n h r) (row s r); yields = λ r i j. refl; order = λ r s i j k l. refl }
  where
    row : (s r : ℕ) → cond (eqb s p) (latest h m p r) (latest_in h (latest h m p s) r) ≡ latest_in h (latest h m p s) r
    row s r =
        elim (ℕ_discrete s p) [
          | yes e ↦ rw (eq-eqb s p e) (latest_self h m p r ∙ ap (λ x. latest_in h (latest h m p x) r) (sym e))
          | no f ↦ rw (ne_eqb s p f)
        ]

-- two tables that say the same have one image
pub says_one : {n : ℕ} {h : History} {at : ℕ → ℕ → ℕ} {m p : ℕ} {t u : Table} → Says n h at m p t → Says n h at m p u → t.current ≡ u.current
    → encode n p t ≡ encode n p u
says_one {n} {p = p} {t = t} {u = u} v w e =
    encode_agree n p t u e
    (λ r c i j k l. v.names r c i j k l ∙ sym (w.names r c i j k l))
    (λ r i j. v.yields r i j ∙ sym (w.yields r i j))
    (λ r s i j k l. v.order r s i j k l ∙ sym (w.order r s i j k l))

-- a name of a history has a partner
proper : (n : ℕ) (h : History) → ((k : ℕ) → Joins n (h k)) → (r k : ℕ) → Proper (name_in n h r k)
unfolding name_in partner_of
proper n h joins r zero = tt
proper n h joins r (suc k) = go (eqb (h k).first r)
  where
    go : (t : Bool) → cond t (h k).second (h k).first ≡ 0 → ⊥
    go true e = omega (arith, (joins k).second_from, e)
    go false e = omega (arith, (joins k).first_from, e)

-- an image says what its table says
pub image_says : {n : ℕ} {h : History} → ((k : ℕ) → Joins n (h k)) → {at : ℕ → ℕ → ℕ} {m p : ℕ} {t : Table} → Says n h at m p t
    → Says n h at m p (table_of (encode n p t) n)
unfolding table_of
image_says {n} {h} joins {m = m} {p = p} {t = t} w =
    record {
      names = λ s r i j k l. name_encode n p t s r i j k l (subst Proper (sym (w.names s r i j k l)) (proper n h joins r _)) ∙ w.names s r i j k l;
      yields = λ r i j. yield_encode n p t r i j ∙ w.yields r i j;
      order = λ r s i j k l. mark_encode n p t r i j s k ∙ ap (λ x. x && t.order r s) (le-leb s n l) ∙ w.order r s i j k l;
    }

-- What comes later changes nothing

module _ {h g : History} {m : ℕ} (a : Agree h g m) where
  name_agree : (n r k : ℕ) → k ≤ m → name_in n h r k ≡ name_in n g r k
  unfolding name_in partner_of
  name_agree n r zero l = refl
  name_agree n r (suc k) l =
      ap₂ (λ x y. With (record { partner = x; label = y })) (ap (λ e. cond (eqb e.first r) e.second e.first) (a.same k l))
      (label_agree n (suc k) (agree_less l a))

  past_agree : (x y : ℕ) → x ≤ m → y ≤ m → in_past h x y ≡ in_past g x y
  unfolding in_past
  past_agree zero y i j = refl
  past_agree (suc k) y i j = ap (leb (suc k)) (latest_in_agree a y (h k).first j ∙ ap (λ e. latest_in g y e.first) (a.same k i))

  pub says_agree : {n : ℕ} {at given : ℕ → ℕ → ℕ} {p : ℕ} {t : Table} → ((k r : ℕ) → k ≤ m → at k r ≡ given k r) → Says n h at m p t → Says n g given m p t
  says_agree {n} {at} {given} {p} {t} e w =
      let same : (r : ℕ) → latest h m p r ≡ latest g m p r = λ r. latest_agree a p r in
      record {
        names = λ s r i j k l.
            w.names s r i j k l
            ∙ name_agree n r (latest_in h (latest h m p s) r) (omega (arith, latest_in_le h (latest h m p s) r, latest_le h m p s))
            ∙ ap (name_in n g r) (latest_in_agree a (latest h m p s) r (latest_le h m p s) ∙ ap (λ x. latest_in g x r) (same s));
        yields = λ r i j. w.yields r i j ∙ e _ r (latest_le h m p r) ∙ ap (λ x. given x r) (same r);
        order = λ r s i j k l. w.order r s i j k l ∙ past_agree _ _ (latest_le h m p r) (latest_le h m p s) ∙ ap₂ (in_past g) (same r) (same s);
      }

-- and a meeting changes nothing for whoever takes no part
pub says_apart : {n : ℕ} {h : History} {at : ℕ → ℕ → ℕ} {m z : ℕ} {t : Table} → (Of h z (suc m) → ⊥) → Says n h at m z t → Says n h at (suc m) z t
says_apart {n} {h} {at} {m} {z} f w =
    let same : (r : ℕ) → latest h m z r ≡ latest h (suc m) z r = λ r. sym (latest_apart h m z r f) in
    record {
      names = λ s r i j k l. w.names s r i j k l ∙ ap (λ x. name_in n h r (latest_in h x r)) (same s);
      yields = λ r i j. w.yields r i j ∙ ap (λ x. at x r) (same r);
      order = λ r s i j k l. w.order r s i j k l ∙ ap₂ (in_past h) (same r) (same s);
    }
