-- The test of an order entry by masks is the one of document 01, mark by mark.
use Prim.Native.Nat.{ℕ, suc, ◌-◌, ◌^◌, ◌≤◌, ◌<◌}
use mathlib.Core.Path.{◌≡◌, refl, sym, ap, ap₂, ◌∙◌}
use mathlib.Core.Bool.{Bool, true, false, ◌&&◌, ◌||◌, not, cond, or-false, not-not}
use mathlib.Core.List.{List}
use native.Mathlib.Omega.{arith}
use native.Mathlib.Decide.{ℕ_discrete}
use borrow.Author.Tests.{eq-eqb, ne_eqb}
use lib.Bits.{bit_and, and_zero_r}
use lib.Dec.{eqb, leb}
use lib.Pow.{pow_pos}
use Rattle.image.specs.Stalls.{some, bits, has}
use Rattle.image.specs.Layout.{largest, order_at, mark_at, heard_at}
use Rattle.image.specs.Check.{bad_order}
use Rattle.image.proofs.Bits.{has_zero, has_bits, part_test, bit_test, bit_left}
use Rattle.image.proofs.Search.{some_agree}
use Rattle.image.proofs.StallSets.{has_at}

-- the stalls that a heard stall may be marked to; none for a stall never heard
allowed : (n : ℕ) (f : ℕ → Bool) (heard : Bool) (t : ℕ) → 1 ≤ t → has (cond heard (bits n f) 0) t ≡ (heard && (leb t n && f t))
allowed n f true t l = has_bits n f t l
allowed n f false t l = has_zero t

-- a mark is missing
lacks : (b t one : ℕ) → 1 ≤ t → one ≡ 2 ^ (t - 1) → not (eqb (bit_and b one) one) ≡ not (has b t)
lacks b t one l e =
    let i : suc (t - 1) ≡ t = omega arith in
    rw e (ap (λ x. not (eqb x (2 ^ (t - 1)))) (bit_left b (t - 1)) ∙ go (has b (suc (t - 1))) ∙ ap (λ k. not (has b k)) i)
  where
    go : (h : Bool) → not (eqb (cond h (2 ^ (t - 1)) 0) (2 ^ (t - 1))) ≡ not h
    go true = ap not (eq-eqb (2 ^ (t - 1)) (2 ^ (t - 1)) refl)
    go false = ap not (ne_eqb 0 (2 ^ (t - 1)) (λ e. omega (arith, pow_pos (t - 1))))

-- some mark, where none is allowed
marked_none : (b : ℕ) → not (eqb b 0) ≡ not (eqb (bit_and b 0) b)
marked_none b = elim (ℕ_discrete b 0) [
  | yes e ↦ rw e (ap (λ x. not (eqb x 0)) (sym (and_zero_r 0)))
  | no f ↦ ap not (ne_eqb b 0 f ∙ sym (ap (λ x. eqb x b) (and_zero_r b) ∙ ne_eqb 0 b (λ e. f (sym e))))
]

module _ (s : List ℕ) (n own r b one mine set : ℕ) (r_from : 1 ≤ r) (r_to : r ≤ n) (own_from : 1 ≤ own) (b_in : b < 2 ^ largest) (b_is : b ≡ order_at s n r)
    (set_is : set ≡ bits n (heard_at s n own)) (one_is : one ≡ 2 ^ (r - 1)) (mine_is : mine ≡ 2 ^ (own - 1)) where
  -- by whether the stall is heard
  by_heard : (h : Bool) → cond (not h) (not (eqb b 0)) (not (eqb (bit_and b set) b) || (not (eqb (bit_and b one) one) || not (eqb (bit_and b mine) mine)))
      ≡ (not (eqb (bit_and b (cond h set 0)) b) || h && not (has b r && has b own))
  by_heard true = ap (λ t. not (eqb (bit_and b set) b) || t) (ap₂ ◌||◌ (lacks b r one r_from one_is) (lacks b own mine own_from mine_is) ∙ go (has b r) (has b own))
    where
      go : (x y : Bool) → (not x || not y) ≡ not (x && y)
      go true y = refl
      go false y = refl
  by_heard false = marked_none b ∙ sym (or-false _)

  one_mark : (t : ℕ) → 1 ≤ t → t ≤ largest → (has b t && not (has (cond (heard_at s n own r) set 0) t)) ≡ (has (order_at s n r) t && not (heard_at s n own r && (leb t n && heard_at s n own t)))
  one_mark t p q =
      ap₂ (λ x y. x && not y) (ap (λ y. has y t) b_is) (ap (λ y. has (cond (heard_at s n own r) y 0) t) set_is ∙ allowed n (heard_at s n own) (heard_at s n own r) t p)

  outside : not (eqb (bit_and b (cond (heard_at s n own r) set 0)) b) ≡ some largest (λ t. has (order_at s n r) t && not (heard_at s n own r && (leb t n && heard_at s n own t)))
  outside = ap not (part_test largest (cond (heard_at s n own r) set 0) b b_in) ∙ not-not _ ∙ some_agree largest _ _ one_mark

  heard_is : eqb (bit_and set one) 0 ≡ not (heard_at s n own r)
  heard_is =
      sym (not-not (eqb (bit_and set one) 0))
      ∙ ap not (ap (λ x. not (eqb (bit_and set x) 0)) one_is ∙ bit_test set r ∙ has_at n (heard_at s n own) set_is r r_from r_to)

  pub order_test : cond (eqb (bit_and set one) 0) (not (eqb b 0)) (not (eqb (bit_and b set) b) || (not (eqb (bit_and b one) one) || not (eqb (bit_and b mine) mine)))
      ≡ bad_order s n own r
  unfolding bad_order mark_at
  order_test =
      ap (λ t. cond t (not (eqb b 0)) (not (eqb (bit_and b set) b) || (not (eqb (bit_and b one) one) || not (eqb (bit_and b mine) mine)))) heard_is
      ∙ by_heard (heard_at s n own r)
      ∙ ap₂ ◌||◌ outside (ap (λ x. heard_at s n own r && not (has x r && has x own)) b_is)
