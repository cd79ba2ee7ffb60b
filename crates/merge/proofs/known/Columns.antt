-- A column of an own row as the code sees it: by partner and label of its name, and of the other own row's names in that column and in the partner's.
use Prim.Native.Nat.{ℕ, ◌+◌, ◌-◌, ◌*◌, ◌≤◌}
use mathlib.Core.Path.{◌≡◌, refl, sym, ap, ◌∙◌}
use mathlib.Core.Bool.{Bool, true, false, ◌&&◌, ◌||◌, not}
use mathlib.Core.List.{List}
use native.Mathlib.Omega.{arith}
use borrow.Author.Tests.{ne_eqb, le-leb}
use lib.Dec.{eqb, leb}
use lib.ListN.{get_or}
use Rattle.image.specs.Row.{is_never}
use Rattle.image.specs.declared.Name.{Name}
use Rattle.image.specs.declared.Name.TheVariants.{Never, With}
use Rattle.image.proofs.Encoding.{Proper, proper_from}
use Rattle.merge.specs.Known.{common}
use Rattle.merge.specs.Verdict.{same_name}
use Rattle.merge.specs.Views.{partner_in, label_in, name_in, row_name, across, shared}
use Rattle.merge.proofs.known.Commons.{shared_common}

proper_at : (s : List ℕ) (at : ℕ) → Proper (name_in s at)
proper_at s at = proper_from (get_or s at 0) (get_or s (at + 1) 0)

never_partner : (x : Name) → Proper x → eqb (partner_in x) 0 ≡ is_never x
never_partner Never w = refl
never_partner (With m) w = ne_eqb m.partner 0 w

same_partner : (x y : Name) → Proper x → Proper y → (eqb (partner_in x) (partner_in y) && eqb (label_in x) (label_in y)) ≡ same_name x y
same_partner Never Never v w = refl
same_partner Never (With k) v w = ap (λ t. t && eqb 0 k.label) (ne_eqb 0 k.partner (λ i. w (sym i)))
same_partner (With m) Never v w = ap (λ t. t && eqb m.label 0) (ne_eqb m.partner 0 v)
same_partner (With m) (With k) v w = refl

-- The place of the partner's column

-- it is looked at only where there is a name whose partner's column is there
crossed : (x : Name) (same : Bool) (n : ℕ) (f : ℕ → Bool) → Proper x
    → (not (is_never x) && (same || leb (partner_in x) n && f (across n (partner_in x)))) ≡ (not (is_never x) && (same || leb (partner_in x) n && f ((partner_in x - 1) * 2)))
crossed Never same n f w = refl
crossed (With m) same n f w = go (leb m.partner n) refl
  where
    go : (t : Bool) → leb m.partner n ≡ t → (same || t && f (across n m.partner)) ≡ (same || t && f ((m.partner - 1) * 2))
    go true e = ap (λ k. same || f k) (rw (le-leb 1 m.partner (omega (arith, w)), e))
    go false e = refl

-- What is seen: x and y are the names at i and j, z that in the partner's column of the row at row

module _ (s u : List ℕ) (i j : ℕ) {x y : Name} (x_is : x ≡ name_in s i) (y_is : y ≡ name_in u j) {d k e l : ℕ} (d_is : d ≡ partner_in x) (k_is : k ≡ label_in x)
    (e_is : e ≡ partner_in y) (l_is : l ≡ label_in y) where
  pub seen_heard : not (eqb d 0) ≡ not (is_never (name_in s i))
  seen_heard = rw (d_is, x_is) (ap not (never_partner (name_in s i) (proper_at s i)))

  pub seen_same : (eqb d e && eqb k l) ≡ same_name (name_in s i) (name_in u j)
  seen_same = rw (d_is, e_is, k_is, l_is, x_is, y_is) (same_partner (name_in s i) (name_in u j) (proper_at s i) (proper_at u j))

  pub seen_common : (n c row o : ℕ) → o ≡ across n d → {z : Name} → z ≡ name_in u (row + o) → {f m : ℕ} → f ≡ partner_in z → m ≡ label_in z
      → (not (eqb d 0) && ((eqb d e && eqb k l) || (leb d n && (eqb c f && eqb k m)))) ≡ shared n c (name_in s i) (name_in u j) (row_name u row)
  unfolding shared
  seen_common n c row o o_is z_is f_is m_is =
      rw (seen_heard, seen_same, f_is, m_is, z_is, o_is, k_is, d_is, x_is)
      (crossed (name_in s i) (same_name (name_in s i) (name_in u j)) n (λ h. eqb c (partner_in (name_in u (row + h))) && eqb (label_in (name_in s i)) (label_in (name_in u (row + h)))) (proper_at s i))

-- the same, column by column
pub seen_next : (s u : List ℕ) (a b n c here there : ℕ) → 1 ≤ c → c ≤ n → here ≡ a + (c - 1) * 2 → there ≡ b + (c - 1) * 2 → {t : Bool}
    → t ≡ shared n c (name_in s here) (name_in u there) (row_name u b) → t ≡ common n (row_name s a) (row_name u b) c
seen_next s u a b n c here there l m e f g = g ∙ rw (e, f) (shared_common n c (row_name s a) (row_name u b) l m (proper_at s (a + (c - 1) * 2)))
