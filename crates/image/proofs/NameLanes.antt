-- Four names in a word, a partner byte and a label byte each: the word's test finds a bad one exactly where there is one.
use Prim.Native.Nat.{ℕ, zero, suc, ◌+◌, ◌-◌, ◌*◌, ◌/◌, ◌%◌, ◌^◌, ◌≤◌, ◌<◌}
use mathlib.Core.Path.{◌≡◌, refl, sym, ap, ap₂, ◌∙◌}
use mathlib.Core.Bool.{Bool, false, ◌&&◌, ◌||◌, not, and_comm, or_assoc, or_comm, or-false, or-true}
use native.Mathlib.Omega.{arith}
use native.Mathlib.Decide.{dec_le, dec_lt}
use borrow.Author.Tests.{lt-ltb, le-ltb, le-leb, lt-leb, ne_eqb}
use lib.Bits.{bit_and, bit_or, bit_xor, and_mask, and_zero_r, and_le_l, and_le_r, xor_lt, or_lt}
use lib.Dec.{eqb, leb, ltb}
use Rattle.image.specs.Stalls.{some}
use Rattle.image.specs.Lanes.{lanes, lane, pairs}
use Rattle.image.specs.Check.{bad_name}
use Rattle.image.specs.Columns.{Low, columns_from}
use Rattle.image.proofs.NameBytes.{limit_bits}
use Rattle.image.proofs.Search.{some_agree}
use Rattle.image.proofs.Bits.{has_and, has_or, bit_test, has_top}
use Rattle.image.proofs.Lanes.{sevens_lane, eighths_lane, lane_and, lane_or, lane_xor, lane_next, lane_lt, lane_add, sum_lt, lane_sub, sub_le, lane_test, pairs_lt, pair_lt, pair_first, pair_second, some_pairs, or_test, xor_none}

-- One byte

-- sums that reach 128 exactly above a limit, and differences exactly at 0
over_test : (x m : ℕ) → m ≤ 127 → leb 128 (x + (127 - m)) ≡ ltb m x
over_test x m l = elim (dec_lt m x) [
  | yes a ↦ le-leb 128 (x + (127 - m)) (omega arith) ∙ sym (lt-ltb m x a)
  | no a ↦ lt-leb 128 (x + (127 - m)) (omega arith) ∙ sym (le-ltb m x (omega arith))
]

pub some_test : (x : ℕ) → leb 128 (x + 127) ≡ not (eqb x 0)
some_test zero = refl
some_test (suc x) = le-leb 128 (suc x + 127) (omega arith) ∙ sym (ap not (ne_eqb (suc x) 0 (λ e. omega arith)))

none_test : (x : ℕ) → leb 128 (128 - x) ≡ eqb x 0
none_test zero = refl
none_test (suc x) = lt-leb 128 (128 - suc x) (omega arith) ∙ sym (ne_eqb (suc x) 0 (λ e. omega arith))

-- One name: what the word's test says of its two bytes

module _ (n limit c p l : ℕ) (n_to : n ≤ 127) (limit_to : limit ≤ 127) where
  partner_flag : Bool
  partner_flag =
      (leb 128 p || leb 128 (p % 128 + (127 - n)))
      || (leb 128 (128 - bit_xor (p % 128) c) || leb 128 (l % 128 + 127) && leb 128 (128 - p % 128))

  label_flag : Bool
  label_flag = leb 128 l || leb 128 (l % 128 + (127 - limit))

  shuffle : (over other none labelled high : Bool) → ((over || (other || labelled && none)) || high) ≡ (none && labelled || over || other || high)
  shuffle over other none labelled high =
      ap (λ t. t || high)
      (sym (or_assoc over other (labelled && none)) ∙ or_comm (over || other) (labelled && none) ∙ ap (λ t. t || (over || other)) (and_comm labelled none)
      ∙ sym (or_assoc (none && labelled) over other))

  name_test : (partner_flag || label_flag) ≡ bad_name n limit c p l
  unfolding partner_flag label_flag
  name_test = elim (dec_le 128 p) [
    | yes a ↦
        rw (le-leb 128 p a, lt-ltb n p (omega arith), or-true (eqb p 0 && not (eqb l 0))) refl
    | no a ↦ elim (dec_le 128 l) [
      | yes b ↦
          rw (le-leb 128 l b, lt-ltb limit l (omega arith)) (or-true partner_flag ∙ sym (or-true (eqb p 0 && not (eqb l 0) || ltb n p || eqb p c)))
      | no b ↦
          let i : p % 128 ≡ p = omega arith in
          let j : l % 128 ≡ l = omega arith in
          rw (i, j, lt-leb 128 p (omega arith), lt-leb 128 l (omega arith), over_test p n n_to, over_test l limit limit_to, some_test l, none_test p, none_test (bit_xor p c), xor_none p c)
          (shuffle (ltb n p) (eqb p c) (eqb p 0) (not (eqb l 0)) (ltb limit l))
    ]
  ]

-- One byte's eighth bit, by itself and of two bytes put together

top_bit : (y : ℕ) → y < 256 → not (eqb (bit_and y 128) 0) ≡ leb 128 y
top_bit y l = bit_test y 8 ∙ has_top 7 y l

top_or : (a b : ℕ) → a < 256 → b < 256 → leb 128 (bit_or a b) ≡ (leb 128 a || leb 128 b)
top_or a b p q =
    sym (has_top 7 (bit_or a b) (or_lt 8 a b p q)) ∙ has_or a b 8 (omega arith) ∙ ap₂ ◌||◌ (has_top 7 a p) (has_top 7 b q)

top_and : (a b : ℕ) → a < 256 → b < 256 → leb 128 (bit_and a b) ≡ (leb 128 a && leb 128 b)
top_and a b p q =
    sym (has_top 7 (bit_and a b) (omega (arith, and_le_l a b))) ∙ has_and a b 8 (omega arith) ∙ ap₂ ◌&&◌ (has_top 7 a p) (has_top 7 b q)

-- the eighth bit of the partner bytes alone
partner_eighths : 0x0080008000800080 ≡ pairs (λ j. 128) (λ j. 0)
unfolding pairs lanes
partner_eighths = refl

partner_mask : (s : ℕ) → 1 ≤ s → s ≤ 4 → lane 8 0x0080008000800080 (s * 2 - 2) ≡ 128
partner_mask s a b = ap (λ x. lane 8 x (s * 2 - 2)) partner_eighths ∙ pair_first (λ j. 128) (λ j. 0) (λ j l. omega arith) (λ j l. omega arith) s a b

label_mask : (s : ℕ) → 1 ≤ s → s ≤ 4 → lane 8 0x0080008000800080 (s * 2 - 1) ≡ 0
label_mask s a b = ap (λ x. lane 8 x (s * 2 - 1)) partner_eighths ∙ pair_second (λ j. 128) (λ j. 0) (λ j l. omega arith) (λ j l. omega arith) s a b

-- Four names

module _ (w n limit columns : ℕ) (w_in : w < 2 ^ 64) (n_to : n ≤ 127) (limit_to : limit ≤ 127) (columns_low : Low columns) where
  abbrev low : ℕ
  low = bit_and w 0x7f7f7f7f7f7f7f7f

  abbrev limits : ℕ
  limits = pairs (λ j. 127 - n) (λ j. 127 - limit)

  -- the column of a name
  abbrev column : ℕ → ℕ
  column s = lane 8 columns (s * 2 - 2)

  low_in : low < 2 ^ 64
  low_in = omega (arith, and_le_l w 0x7f7f7f7f7f7f7f7f)

  low_lane : (i : ℕ) → i < 8 → lane 8 low i ≡ lane 8 w i % 128
  low_lane i l = lane_and 8 w 0x7f7f7f7f7f7f7f7f i ∙ ap (bit_and (lane 8 w i)) (sevens_lane i l) ∙ and_mask (lane 8 w i) 7

  low_lt : (i : ℕ) → i < 8 → lane 8 low i < 128
  low_lt i l = omega (arith, low_lane i l)

  -- the sum that is 128 and above where a byte, without its eighth bit, is over its limit
  limits_in : limits < 2 ^ 64
  limits_in = pairs_lt (λ j. 127 - n) (λ j. 127 - limit) (λ j l. omega arith) (λ j l. omega arith)

  partner_limit : (s : ℕ) → 1 ≤ s → s ≤ 4 → lane 8 limits (s * 2 - 2) ≡ 127 - n
  partner_limit = pair_first (λ j. 127 - n) (λ j. 127 - limit) (λ j l. omega arith) (λ j l. omega arith)

  label_limit_lem : (s : ℕ) → 1 ≤ s → s ≤ 4 → lane 8 limits (s * 2 - 1) ≡ 127 - limit
  label_limit_lem = pair_second (λ j. 127 - n) (λ j. 127 - limit) (λ j l. omega arith) (λ j l. omega arith)

  limits_lt : (i : ℕ) → i < 8 → lane 8 limits i < 128
  limits_lt = pair_lt (λ j. 127 - n) (λ j. 127 - limit) (λ j l. omega arith) (λ j l. omega arith) 128 (λ j l. omega arith) (λ j l. omega arith)

  pub over_in : low + limits < 2 ^ 64
  over_in = sum_lt 8 8 low limits low_in limits_in (λ i l. omega (arith, low_lt i l, limits_lt i l))

  over_lane : (i : ℕ) → i < 8 → lane 8 (low + limits) i ≡ lane 8 w i % 128 + lane 8 limits i
  over_lane i l =
      lane_add 8 8 low limits low_in limits_in (λ j p. omega (arith, low_lt j p, limits_lt j p)) i l
      ∙ ap (λ x. x + lane 8 limits i) (low_lane i l)

  -- the difference that is 128 exactly where the partner is the column
  unlike_in : bit_xor low columns < 2 ^ 64
  unlike_in = xor_lt 64 low columns low_in columns_low.word

  unlike_lt : (i : ℕ) → i < 8 → lane 8 (bit_xor low columns) i < 128
  unlike_lt i l = rw (lane_xor 8 low columns i) (xor_lt 7 (lane 8 low i) (lane 8 columns i) (low_lt i l) (columns_low.bytes i l))

  unlike_le : (i : ℕ) → i < 8 → lane 8 (bit_xor low columns) i ≤ lane 8 0x8080808080808080 i
  unlike_le i l = omega (arith, unlike_lt i l, eighths_lane i l)

  pub unlike_fits : bit_xor low columns ≤ 0x8080808080808080
  unlike_fits = sub_le 8 8 0x8080808080808080 (bit_xor low columns) (omega arith) unlike_in unlike_le

  own_lane : (i : ℕ) → i < 8 → lane 8 (0x8080808080808080 - bit_xor low columns) i ≡ 128 - bit_xor (lane 8 w i % 128) (lane 8 columns i)
  own_lane i l =
      lane_sub 8 8 0x8080808080808080 (bit_xor low columns) (omega arith) unlike_in unlike_le i l
      ∙ ap₂ ◌-◌ (eighths_lane i l) (lane_xor 8 low columns i ∙ ap (λ x. bit_xor x (lane 8 columns i)) (low_lane i l))

  -- and exactly where there is no partner
  low_le : (i : ℕ) → i < 8 → lane 8 low i ≤ lane 8 0x8080808080808080 i
  low_le i l = omega (arith, low_lt i l, eighths_lane i l)

  pub low_fits : low ≤ 0x8080808080808080
  low_fits = sub_le 8 8 0x8080808080808080 low (omega arith) low_in low_le

  none_lane : (i : ℕ) → i < 8 → lane 8 (0x8080808080808080 - low) i ≡ 128 - lane 8 w i % 128
  none_lane i l =
      lane_sub 8 8 0x8080808080808080 low (omega arith) low_in low_le i l ∙ ap₂ ◌-◌ (eighths_lane i l) (low_lane i l)

  -- the sum that is 128 and above where a byte, without its eighth bit, is not 0
  given_room : (i : ℕ) → i < 8 → lane 8 low i + lane 8 0x7f7f7f7f7f7f7f7f i < 256
  given_room i l = omega (arith, low_lt i l, sevens_lane i l)

  pub given_in : low + 0x7f7f7f7f7f7f7f7f < 2 ^ 64
  given_in = sum_lt 8 8 low 0x7f7f7f7f7f7f7f7f low_in (omega arith) given_room

  given_lane : (i : ℕ) → i < 8 → lane 8 (low + 0x7f7f7f7f7f7f7f7f) i ≡ lane 8 w i % 128 + 127
  given_lane i l =
      lane_add 8 8 low 0x7f7f7f7f7f7f7f7f low_in (omega arith) given_room i l ∙ ap₂ ◌+◌ (low_lane i l) (sevens_lane i l)

  -- The word's test, a bit for each byte

  abbrev over_bits : ℕ
  over_bits = bit_and (bit_or w (low + limits)) 0x8080808080808080

  abbrev partner_bits : ℕ
  partner_bits =
      bit_and (bit_or (0x8080808080808080 - bit_xor low columns) (bit_and ((low + 0x7f7f7f7f7f7f7f7f) / 256) (0x8080808080808080 - low))) 0x0080008000800080

  over_flag : (i : ℕ) → i < 8 → not (eqb (lane 8 over_bits i) 0) ≡ (leb 128 (lane 8 w i) || leb 128 (lane 8 w i % 128 + lane 8 limits i))
  over_flag i l =
      let b = lane 8 w i in
      let u = lane_lt 8 w i in
      let v : b % 128 + lane 8 limits i < 256 = omega (arith, limits_lt i l) in
      ap (λ x. not (eqb x 0))
      (lane_and 8 (bit_or w (low + limits)) 0x8080808080808080 i ∙ ap₂ bit_and (lane_or 8 w (low + limits) i ∙ ap (bit_or b) (over_lane i l)) (eighths_lane i l))
      ∙ top_bit (bit_or b (b % 128 + lane 8 limits i)) (or_lt 8 b (b % 128 + lane 8 limits i) u v)
      ∙ top_or b (b % 128 + lane 8 limits i) u v

  partner_flags : (s : ℕ) → 1 ≤ s → s ≤ 4 → not (eqb (lane 8 partner_bits (s * 2 - 2)) 0)
      ≡ (leb 128 (128 - bit_xor (lane 8 w (s * 2 - 2) % 128) (column s)) || leb 128 (lane 8 w (s * 2 - 1) % 128 + 127) && leb 128 (128 - lane 8 w (s * 2 - 2) % 128))
  partner_flags s a b =
      let i = s * 2 - 2 in
      let l : i < 8 = omega arith in
      let next : suc (s * 2 - 2) ≡ s * 2 - 1 = omega arith in
      let p = lane 8 w (s * 2 - 2) in
      let q = lane 8 w (s * 2 - 1) in
      let own : lane 8 (0x8080808080808080 - bit_xor low columns) i ≡ 128 - bit_xor (p % 128) (column s) = own_lane i l in
      let labelled : lane 8 ((low + 0x7f7f7f7f7f7f7f7f) / 256) i ≡ q % 128 + 127 =
      sym (lane_next 8 (low + 0x7f7f7f7f7f7f7f7f) i) ∙ ap (lane 8 (low + 0x7f7f7f7f7f7f7f7f)) next ∙ given_lane (s * 2 - 1) (omega arith) in
      let x = 128 - bit_xor (p % 128) (column s) in
      let y = bit_and (q % 128 + 127) (128 - p % 128) in
      let x_in : x < 256 = omega arith in
      let y_in : y < 256 = omega (arith, and_le_r (q % 128 + 127) (128 - p % 128)) in
      ap (λ z. not (eqb z 0))
      (lane_and 8 (bit_or (0x8080808080808080 - bit_xor low columns) (bit_and ((low + 0x7f7f7f7f7f7f7f7f) / 256) (0x8080808080808080 - low))) 0x0080008000800080 i
      ∙ ap₂ bit_and
      (lane_or 8 (0x8080808080808080 - bit_xor low columns) (bit_and ((low + 0x7f7f7f7f7f7f7f7f) / 256) (0x8080808080808080 - low)) i
      ∙ ap₂ bit_or own (lane_and 8 ((low + 0x7f7f7f7f7f7f7f7f) / 256) (0x8080808080808080 - low) i ∙ ap₂ bit_and labelled (none_lane i l)))
      (partner_mask s a b))
      ∙ top_bit (bit_or x y) (or_lt 8 x y x_in y_in)
      ∙ top_or x y x_in y_in
      ∙ ap (λ t. leb 128 x || t) (top_and (q % 128 + 127) (128 - p % 128) (omega arith) (omega arith))

  -- of a label byte there is no more to say
  label_flags : (s : ℕ) → 1 ≤ s → s ≤ 4 → not (eqb (lane 8 partner_bits (s * 2 - 1)) 0) ≡ false
  label_flags s a b =
      let o = bit_or (0x8080808080808080 - bit_xor low columns) (bit_and ((low + 0x7f7f7f7f7f7f7f7f) / 256) (0x8080808080808080 - low)) in
      ap (λ z. not (eqb z 0))
      (lane_and 8 o 0x0080008000800080 (s * 2 - 1) ∙ ap (bit_and (lane 8 o (s * 2 - 1))) (label_mask s a b) ∙ and_zero_r (lane 8 o (s * 2 - 1)))

  flag : ℕ → Bool
  flag i = not (eqb (lane 8 (bit_or over_bits partner_bits) i) 0)

  flag_is : (i : ℕ) → flag i ≡ (not (eqb (lane 8 over_bits i) 0) || not (eqb (lane 8 partner_bits i) 0))
  unfolding flag
  flag_is i = ap (λ z. not (eqb z 0)) (lane_or 8 over_bits partner_bits i) ∙ or_test (lane 8 over_bits i) (lane 8 partner_bits i)

  name_flags : (s : ℕ) → 1 ≤ s → s ≤ 4 → (flag (s * 2 - 2) || flag (s * 2 - 1)) ≡ bad_name n limit (column s) (lane 8 w (s * 2 - 2)) (lane 8 w (s * 2 - 1))
  unfolding partner_flag label_flag
  name_flags s a b =
      let p = lane 8 w (s * 2 - 2) in
      let q = lane 8 w (s * 2 - 1) in
      ap₂ ◌||◌
      (flag_is (s * 2 - 2) ∙ ap₂ ◌||◌ (over_flag (s * 2 - 2) (omega arith) ∙ ap (λ x. leb 128 p || leb 128 (p % 128 + x)) (partner_limit s a b)) (partner_flags s a b))
      (flag_is (s * 2 - 1)
      ∙ ap₂ ◌||◌ (over_flag (s * 2 - 1) (omega arith) ∙ ap (λ x. leb 128 q || leb 128 (q % 128 + x)) (label_limit_lem s a b)) (label_flags s a b)
      ∙ or-false (leb 128 q || leb 128 (q % 128 + (127 - limit))))
      ∙ name_test n limit (column s) p q n_to limit_to

  bits_in : bit_or over_bits partner_bits < 2 ^ 64
  bits_in =
      or_lt 64 over_bits partner_bits
      (omega (arith, and_le_r (bit_or w (low + limits)) 0x8080808080808080))
      (omega (arith, and_le_r (bit_or (0x8080808080808080 - bit_xor low columns) (bit_and ((low + 0x7f7f7f7f7f7f7f7f) / 256) (0x8080808080808080 - low))) 0x0080008000800080))

  pub four_test : not (eqb (bit_or over_bits partner_bits) 0)
      ≡ some 4 (λ j. bad_name n limit (column j) (lane 8 w (j * 2 - 2)) (lane 8 w (j * 2 - 1)))
  unfolding flag
  four_test =
      lane_test 8 8 (bit_or over_bits partner_bits) bits_in
      ∙ some_pairs 4 (λ j. flag (j - 1))
      ∙ some_agree 4 (λ j. flag (j * 2 - 1 - 1) || flag (j * 2 - 1)) (λ j. bad_name n limit (column j) (lane 8 w (j * 2 - 2)) (lane 8 w (j * 2 - 1)))
      (λ s a b. let e : s * 2 - 1 - 1 ≡ s * 2 - 2 = omega arith in ap (λ i. flag i || flag (s * 2 - 1)) e ∙ name_flags s a b)

-- Columns

module _ (c : ℕ) (c_to : c ≤ 123) where
  pub columns_low : Low (columns_from c)
  columns_low =
      record {
        word = pairs_lt (λ j. c + suc j) (λ j. 0) (λ j l. omega arith) (λ j l. omega arith);
        bytes = pair_lt (λ j. c + suc j) (λ j. 0) (λ j l. omega arith) (λ j l. omega arith) 128 (λ j l. omega arith) (λ j l. omega arith);
      }

  pub column_is : (s : ℕ) → 1 ≤ s → s ≤ 4 → lane 8 (columns_from c) (s * 2 - 2) ≡ c + s
  column_is s a b =
      let e : c + suc (s - 1) ≡ c + s = omega arith in
      pair_first (λ j. c + suc j) (λ j. 0) (λ j l. omega arith) (λ j l. omega arith) s a b ∙ e

pub first_columns : 0x0004000300020001 ≡ columns_from 0
unfolding pairs lanes
first_columns = refl

-- m columns on
pub columns_on : (c m : ℕ) → columns_from c + 0x0001000100010001 * m ≡ columns_from (c + m)
unfolding pairs lanes
columns_on c m = omega arith

pub ruleset four_names = (over_in, unlike_fits, given_in, low_fits, four_test, limit_bits)
