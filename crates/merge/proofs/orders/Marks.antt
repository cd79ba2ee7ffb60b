-- The order marks that are put together from sets are those of the merged table.
use Prim.Native.Nat.{ℕ, ◌≤◌}
use mathlib.Core.Path.{◌≡◌, refl, sym, ap₂, ◌∙◌}
use mathlib.Core.Bool.{Bool, true, false, ◌&&◌, ◌||◌, not, cond, or-false, and_comm}
use native.Mathlib.Omega.{arith}
use borrow.Author.Tests.{eqb-true}
use lib.Bits.{bit_and, bit_or}
use lib.Dec.{eqb}
use Rattle.image.specs.Stalls.{bits, has, without, bit_of}
use Rattle.image.specs.Layout.{largest}
use Rattle.image.specs.Encode.{Table}
use Rattle.image.specs.Row.{is_never}
use Rattle.image.proofs.Bits.{bits_agree}
use Rattle.image.proofs.StallSets.{has_at, pick_bits, choice_bits, mask_bits, and_bits, or_bits, without_bits, one_bits}
use Rattle.merge.specs.declared.Decided.{Decided}
use Rattle.merge.specs.declared.Sets.{Sets}
use Rattle.merge.specs.Verdict.{verdict}
use Rattle.merge.specs.Merged.{is_met, latest_name, merged_order}
use Rattle.merge.specs.Views.{heard_from, Decides}
use Rattle.merge.proofs.Latests.{not_never, latest_met, latest_other}
use Rattle.merge.specs.Orders.{Sorted, apart, Sorts, from_second, order_of}

-- The mark (r, s): m says that r met, f and g whether the verdict on r is 2 and 1, o, h and k the same of s, a and b whether the first and the second have the mark,
-- and d whether r is heard

abbrev from_sets : Bool → Bool → Bool → Bool → Bool → Bool → Bool → Bool → Bool → Bool
from_sets m f g o h k a b d =
    (o && d) || ((((not m && not f) && (not o && not h)) && a) || (cond (not m && f) (not o && not k) ((not m && not g) && (not o && h)) && b))

abbrev from_rule : Bool → Bool → Bool → Bool → Bool → Bool → Bool → Bool → Bool → Bool
from_rule m f g o h k a b d = cond o d (not m && (not f && not h && a || not (not f && not h) && (not g && not k) && b))

marks_test : (m f g o h k a b d : Bool) → (f ≡ true → g ≡ true → ⊥) → (h ≡ true → k ≡ true → ⊥) → from_sets m f g o h k a b d ≡ from_rule m f g o h k a b d
marks_test true f g true h k a b d v w = or-false d
marks_test false true g true h k a b d v w = or-false d
marks_test false false true true h k a b d v w = or-false d
marks_test false false false true h k a b d v w = or-false d
marks_test true f g false h k a b d v w = refl
marks_test false true true false h k a b d v w = absurd (v refl refl)
marks_test false true false false h true a b d v w = refl
marks_test false true false false h false a b d v w = refl
marks_test false false true false true k a b d v w = refl
marks_test false false true false false k a b d v w = refl
marks_test false false false false true true a b d v w = absurd (w refl refl)
marks_test false false false false true false a b d v w = refl
marks_test false false false false false k a b d v w = refl

not_both : (x : ℕ) → eqb x 2 ≡ true → eqb x 1 ≡ true → ⊥
not_both x e f = omega (arith, eqb-true x 2 e, eqb-true x 1 f)

module _ (n p : ℕ) (a : Table) (q : ℕ) (b : Table) (x : Sets) (w : Sorted n p a q b x) where
  abbrev two : ℕ → Bool
  two s = eqb (verdict n p a q b s) 2

  abbrev one : ℕ → Bool
  one s = eqb (verdict n p a q b s) 1

  abbrev in_first : ℕ → Bool
  in_first s = not (is_met p q s) && not (two s)

  abbrev in_second : ℕ → Bool
  in_second s = not (is_met p q s) && not (one s)

  abbrev in_alone : ℕ → Bool
  in_alone s = not (is_met p q s) && two s

  module _ (r : ℕ) (from : 1 ≤ r) (to : r ≤ n) (mine theirs : ℕ) where
    abbrev heard : Bool
    heard = not (is_never (latest_name n p a q b r))

    from_pair : cond (has x.heard r) x.pair 0 ≡ bits n (λ s. is_met p q s && heard)
    from_pair =
        rw (has_at n _ w.heard_is r from to, w.pair_is)
        (pick_bits heard n (is_met p q) ∙ bits_agree n _ _ (λ s c d. and_comm heard (is_met p q s)))

    from_first : bit_and (cond (has x.first r) x.first 0) mine ≡ bits n (λ s. (in_first r && in_first s) && has mine s)
    from_first = rw (has_at n _ w.first_is r from to, w.first_is, pick_bits (in_first r) n in_first) (mask_bits n _ mine)

    from_second_lem : bit_and (from_second x r) theirs ≡ bits n (λ s. cond (in_alone r) (in_second s) (in_second r && in_alone s) && has theirs s)
    from_second_lem =
        rw (has_at n _ w.alone_is r from to, has_at n _ w.second_is r from to, w.alone_is, w.second_is, pick_bits (in_second r) n in_alone, choice_bits (in_alone r) n in_second (λ s. in_second r && in_alone s))
        (mask_bits n _ theirs)

    pub order_is : ((s : ℕ) → 1 ≤ s → s ≤ n → has mine s ≡ a.order r s) → ((s : ℕ) → 1 ≤ s → s ≤ n → has theirs s ≡ b.order r s)
        → order_of x r mine theirs ≡ bits n (merged_order n p a q b r)
    unfolding merged_order
    order_is hm ht =
        ap₂ bit_or from_pair (ap₂ bit_or from_first from_second_lem ∙ or_bits n _ _) ∙ or_bits n _ _
        ∙ bits_agree n _ _ (λ s c d.
        ap₂ (λ j k. from_sets (is_met p q r) (two r) (one r) (is_met p q s) (two s) (one s) j k heard) (hm s c d) (ht s c d)
        ∙ marks_test (is_met p q r) (two r) (one r) (is_met p q s) (two s) (one s) (a.order r s) (b.order r s) heard (not_both (verdict n p a q b r)) (not_both (verdict n p a q b s)))

-- Which stalls are heard afterwards: the two that met, and those that the head they come from has heard

heard_after : (n p : ℕ) (a : Table) (q : ℕ) (b : Table) (r : ℕ)
    → (is_met p q r || heard_from (verdict n p a q b r) (a.names p r) (b.names q r)) ≡ not (is_never (latest_name n p a q b r))
heard_after n p a q b r = go (is_met p q r) refl
  where
    from : (t : Bool) → cond t (not (is_never (b.names q r))) (not (is_never (a.names p r))) ≡ not (is_never ((cond (not t) a b).names (cond (not t) p q) r))
    from true = refl
    from false = refl

    go : (m : Bool) → is_met p q r ≡ m → (m || heard_from (verdict n p a q b r) (a.names p r) (b.names q r)) ≡ not (is_never (latest_name n p a q b r))
    go true e = sym (not_never _ (latest_met n p a q b r e))
    go false e = rw (latest_other n p a q b r e) (from (eqb (verdict n p a q b r) 2))

-- The stalls by who has them

pub pair_bits : (n p q : ℕ) → (n ≤ largest) × (1 ≤ p) × (p ≤ n) × (1 ≤ q) × (q ≤ n) → {x y : ℕ} → x ≡ bit_of p → y ≡ bit_of q → bit_or x y ≡ bits n (is_met p q)
pair_bits n p q w e f =
    rw (e, f, one_bits n p w.1 w.2 (omega (arith, w.0)), one_bits n q w.3 w.4 (omega (arith, w.0))) (or_bits n (λ s. eqb s p) (λ s. eqb s q))

pub apart_bits : (n p q : ℕ) {all pair others : ℕ} → all ≡ bits n (λ s. true) → pair ≡ bits n (is_met p q) → others ≡ without all pair → others ≡ apart n p q
apart_bits n p q e f g = g ∙ rw (e, f) (without_bits n (λ s. true) (is_met p q))

pub sorted_is : (n p : ℕ) (a : Table) (q : ℕ) (b : Table) (d : Decided) (x : Sets) → Decides n p a q b d → Sorts n p q d x → Sorted n p a q b x
sorted_is n p a q b d x w v =
    record {
      pair_is = v.pair_is;
      first_is = v.first_is ∙ rw w.two_is (without_bits n _ _);
      second_is = v.second_is ∙ rw w.one_is (without_bits n _ _);
      alone_is = v.alone_is ∙ rw w.two_is (and_bits n _ _);
      heard_is = v.heard_is ∙ rw (v.pair_is, w.heard_is) (or_bits n _ _ ∙ bits_agree n _ _ (λ r i j. heard_after n p a q b r));
    }
