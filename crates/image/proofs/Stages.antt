-- The check, stage by stage: the first number that applies is the answer.
use Prim.Native.Nat.{ℕ, ◌≤◌}
use mathlib.Core.Path.{◌≡◌, refl, ap, ◌∙◌}
use mathlib.Core.Bool.{Bool, true, false, ◌&&◌, not, cond, true≢false}
use mathlib.Core.List.{List}
use native.Mathlib.Omega.{arith}
use native.Mathlib.Nat.{mul-le-mul}
use borrow.Author.Tests.{leb-true, eq-eqb, ne_eqb}
use lib.Dec.{leb}
use lib.ListN.{length, get_or}
use Rattle.image.specs.Layout.{largest, longest, length_of, order_width}
use Rattle.image.specs.Frame.{Sized, Framed}
use Rattle.image.specs.Check.{bad_count, bad_length, bad_stall, bad_yields, bad_names, bad_marks, check_body, checked, number_of}
use Rattle.image.specs.declared.Checked.{Checked}
use Rattle.image.specs.declared.Checked.TheVariants.{Good, Refused}
use Rattle.image.proofs.OrderEntry.{order_wide, orders_short, length_is}

-- within which bounds the length of an image lies
pub length_range : (n : ℕ) → 2 ≤ n → n ≤ largest → (18 ≤ length_of n) × (length_of n ≤ longest)
length_range n a b =
    let e = length_is n a b in
    (omega (arith, mul-le-mul a a, mul-le-mul a (order_wide n)), omega (arith, mul-le-mul b b, orders_short n))

-- the largest parlour has the longest
pub length_longest : length_of largest ≡ longest
unfolding order_width
length_longest = refl

-- a range test that did not fail
pub in_range : (a b x : ℕ) → not (leb a x && leb x b) ≡ false → (a ≤ x) × (x ≤ b)
in_range a b x e = go (leb a x) (leb x b) refl refl e
  where
    go : (s t : Bool) → leb a x ≡ s → leb x b ≡ t → not (s && t) ≡ false → (a ≤ x) × (x ≤ b)
    go true true p q d = (leb-true a x p, leb-true x b q)
    go true false p q d = absurd (true≢false d)
    go false t p q d = absurd (true≢false d)

pub framed : {s : List ℕ} {n own : ℕ} → Sized s n → bad_stall n own ≡ false → Framed s n own
framed {n = n} {own = own} z e =
    let (a, b) = in_range 1 n own e in
    record { n_from = z.n_from; n_to = z.n_to; own_from = a; own_to = b; long = z.long }

pub sized : {s : List ℕ} → not (leb 2 (get_or s 0 0) && leb (get_or s 0 0) largest) ≡ false → length s ≡ length_of (get_or s 0 0) → Sized s (get_or s 0 0)
sized {s} e d =
    let n = get_or s 0 0 in
    let (a, b) = in_range 2 largest n e in
    record { n_from = a; n_to = b; long = d ∙ length_is n a b }

-- Which number applies first

module _ (s : List ℕ) (n own : ℕ) where
  -- where 3 and 4 do not apply
  abbrev pub later : Checked
  later = cond (bad_names s n own) (Refused 5) (cond (bad_marks s n own) (Refused 6) (Good (record { n = n; stall = own })))

  pub later_5 : bad_names s n own ≡ true → Refused 5 ≡ later
  later_5 a = rw a

  pub later_good : bad_names s n own ≡ false → bad_marks s n own ≡ false → Good (record { n = n; stall = own }) ≡ later
  later_good a b = rw (a, b)

  pub later_body : {r : Checked} → r ≡ later → bad_stall n own ≡ false → bad_yields s n ≡ false → r ≡ check_body s n own
  unfolding check_body
  later_body e a b = e ∙ rw (a, b)

  pub refused_5 : bad_stall n own ≡ false → bad_yields s n ≡ false → bad_names s n own ≡ true → Refused 5 ≡ check_body s n own
  refused_5 a b c = later_body (later_5 c) a b

  pub good_body : bad_stall n own ≡ false → bad_yields s n ≡ false → bad_names s n own ≡ false → bad_marks s n own ≡ false
      → Good (record { n = n; stall = own }) ≡ check_body s n own
  good_body a b c d = later_body (later_good c d) a b

module _ (s : List ℕ) where
  pub refused_empty : length s ≡ 0 → Refused 1 ≡ checked s
  unfolding checked bad_count
  refused_empty a = rw (eq-eqb (length s) 0 a)

  pub refused_2 : (length s ≡ 0 → ⊥) → not (leb 2 (get_or s 0 0) && leb (get_or s 0 0) largest) ≡ false → (length s ≡ length_of (get_or s 0 0) → ⊥) → Refused 2 ≡ checked s
  unfolding checked bad_count bad_length
  refused_2 a b c = rw (ne_eqb (length s) 0 a, b, ne_eqb (length s) (length_of (get_or s 0 0)) c)

  pub checked_body : (length s ≡ 0 → ⊥) → not (leb 2 (get_or s 0 0) && leb (get_or s 0 0) largest) ≡ false → length s ≡ length_of (get_or s 0 0)
      → check_body s (get_or s 0 0) (get_or s 1 0) ≡ checked s
  unfolding checked bad_count bad_length
  checked_body a b c = rw (ne_eqb (length s) 0 a, b, eq-eqb (length s) (length_of (get_or s 0 0)) c)

-- No number is above 6

number_cond : (b : Bool) (x y : Checked) → number_of x ≤ 6 → number_of y ≤ 6 → number_of (cond b x y) ≤ 6
number_cond true x y p q = p
number_cond false x y p q = q

body_number : (s : List ℕ) (n own : ℕ) → number_of (check_body s n own) ≤ 6
unfolding check_body
body_number s n own =
    number_cond (bad_stall n own) _ _ (omega arith)
    (number_cond (bad_yields s n) _ _ (omega arith)
    (number_cond (bad_names s n own) _ _ (omega arith) (number_cond (bad_marks s n own) _ _ (omega arith) (omega arith))))

pub number_le : (s : List ℕ) → number_of (checked s) ≤ 6
unfolding checked
number_le s =
    number_cond (bad_count s) _ _ (omega arith)
    (number_cond (bad_length s) _ _ (omega arith) (body_number s (get_or s 0 0) (get_or s 1 0)))

pub refused_le : (s : List ℕ) {k : ℕ} → checked s ≡ Refused k → k ≤ 6
refused_le s {k} e = omega (arith, number_le s, ap number_of e)
