-- Yields in the lanes of a word, four at a time: the word's test finds a bad one exactly where there is one.
use Prim.Native.Nat.{ℕ, ◌+◌, ◌-◌, ◌*◌, ◌%◌, ◌^◌, ◌≤◌, ◌<◌, min}
use mathlib.Core.Path.{◌≡◌, sym, ap, ap₂, ◌∙◌}
use mathlib.Core.Bool.{Bool, ◌&&◌, ◌||◌, not, cond, or_comm}
use mathlib.Core.List.{List}
use native.Mathlib.Omega.{arith}
use native.Mathlib.Decide.{dec_le, ℕ_discrete}
use borrow.Author.Tests.{le-leb, lt-leb, ne_eqb}
use lib.Bits.{bit_and, bit_or, and_mask, and_le_r}
use lib.Dec.{eqb, leb}
use lib.ListN.{get_or}
use Rattle.image.specs.Stalls.{some}
use Rattle.image.specs.Lanes.{lanes, lane, fours}
use Rattle.image.specs.Layout.{word, is_yield, no_yield}
use Rattle.image.proofs.Search.{some_agree}
use Rattle.image.proofs.Bits.{has_and, has_or, has_top, bit_left}
use Rattle.image.proofs.Windows.{some_reversed, one_window, some_split, two_windows}
use Rattle.image.proofs.Lanes.{same_lane, same_lt, lane_of, lane_lt, lane_and, lane_or, lane_add, sum_lt, lane_differ, lane_within, lane_behind}
use Rattle.image.proofs.YieldRange.{yield_in}

abbrev bad : ℕ → Bool
bad x = not (is_yield x)

-- One number

-- the sixteenth bit where a number is above 999, and where it is the one for not milked
over : ℕ → ℕ
over x = bit_and (bit_or x (x % 0x8000 + 0x7c18)) 0x8000

none : ℕ → ℕ
none x = bit_and (bit_and x (x % 0x8000 + 1)) 0x8000

module _ (x : ℕ) (x_in : x < 2 ^ 16) where
  over_is : over x ≡ cond (leb 0x8000 x || leb 0x8000 (x % 0x8000 + 0x7c18)) 0x8000 0
  unfolding over
  over_is =
      bit_left _ 15
      ∙ ap (λ b. cond b 0x8000 0) (has_or x (x % 0x8000 + 0x7c18) 16 (omega arith) ∙ ap₂ ◌||◌ (has_top 15 x x_in) (has_top 15 (x % 0x8000 + 0x7c18) (omega arith)))

  none_is : none x ≡ cond (leb 0x8000 x && leb 0x8000 (x % 0x8000 + 1)) 0x8000 0
  unfolding none
  none_is =
      bit_left _ 15
      ∙ ap (λ b. cond b 0x8000 0) (has_and x (x % 0x8000 + 1) 16 (omega arith) ∙ ap₂ ◌&&◌ (has_top 15 x x_in) (has_top 15 (x % 0x8000 + 1) (omega arith)))

  -- the two are the same where the number is a yield: neither, or both
  yield_test : eqb (over x) (none x) ≡ is_yield x
  unfolding is_yield no_yield
  yield_test = ap₂ eqb over_is none_is ∙ elim (ℕ_discrete x 0xffff) [
    | yes e ↦ rw e
    | no f ↦ elim (dec_le 0x8000 x) [
      | yes a ↦ rw (le-leb 0x8000 x a, lt-leb 0x8000 (x % 0x8000 + 1) (omega arith), lt-leb x 999 (omega arith), ne_eqb x 0xffff f)
      | no a ↦ elim (dec_le x 999) [
        | yes b ↦ rw (lt-leb 0x8000 x (omega arith), lt-leb 0x8000 (x % 0x8000 + 0x7c18) (omega arith), le-leb x 999 b)
        | no b ↦ rw (lt-leb 0x8000 x (omega arith), le-leb 0x8000 (x % 0x8000 + 0x7c18) (omega arith), lt-leb x 999 (omega arith), ne_eqb x 0xffff f)
      ]
    ]
  ]

-- Four numbers

-- the same in each lane
abbrev four : ℕ → ℕ
four x = lanes 16 4 (λ i. x)

-- some of the first k lanes of a word is bad
abbrev pub bad_in : ℕ → ℕ → Bool
bad_in w k = some k (λ j. bad (lane 16 w (j - 1)))

module _ (w : ℕ) where
  abbrev low : ℕ
  low = bit_and w 0x7fff7fff7fff7fff

  low_in : low < 2 ^ 64
  low_in = omega (arith, and_le_r w 0x7fff7fff7fff7fff)

  lane_low : (i : ℕ) → i < 4 → lane 16 low i ≡ lane 16 w i % 0x8000
  unfolding lanes
  lane_low i l = lane_and 16 w (four 0x7fff) i ∙ ap (bit_and (lane 16 w i)) (same_lane 16 4 0x7fff (omega arith) i l) ∙ and_mask (lane 16 w i) 15

  module _ (x : ℕ) (x_to : x ≤ 0x8000) where
    room : (i : ℕ) → i < 4 → lane 16 low i + lane 16 (four x) i < 2 ^ 16
    room i l = omega (arith, lane_low i l, same_lane 16 4 x (omega arith) i l)

    plus_lt : low + four x < 2 ^ 64
    plus_lt = sum_lt 16 4 low (four x) low_in (same_lt 16 4 x (omega arith)) room

    lane_plus : (i : ℕ) → i < 4 → lane 16 (low + four x) i ≡ lane 16 w i % 0x8000 + x
    lane_plus i l = lane_add 16 4 low (four x) low_in (same_lt 16 4 x (omega arith)) room i l ∙ ap₂ ◌+◌ (lane_low i l) (same_lane 16 4 x (omega arith) i l)

  abbrev low_over : ℕ
  low_over = low + 0x7c187c187c187c18

  abbrev low_none : ℕ
  low_none = low + 0x0001000100010001

  pub over_fits : low_over < 2 ^ 64
  unfolding lanes
  over_fits = plus_lt 0x7c18 (omega arith)

  pub none_fits : low_none < 2 ^ 64
  unfolding lanes
  none_fits = plus_lt 1 (omega arith)

  abbrev tops : ℕ → ℕ
  tops x = bit_and x 0x8000800080008000

  tops_in : (x : ℕ) → tops x < 2 ^ 64
  tops_in x = omega (arith, and_le_r x 0x8000800080008000)

  lane_tops : (x i : ℕ) → i < 4 → lane 16 (tops x) i ≡ bit_and (lane 16 x i) 0x8000
  unfolding lanes
  lane_tops x i l = lane_and 16 x (four 0x8000) i ∙ ap (bit_and (lane 16 x i)) (same_lane 16 4 0x8000 (omega arith) i l)

  lane_overs : (i : ℕ) → i < 4 → lane 16 (tops (bit_or w low_over)) i ≡ over (lane 16 w i)
  unfolding lanes over
  lane_overs i l =
      lane_tops (bit_or w low_over) i l
      ∙ ap (λ y. bit_and y 0x8000) (lane_or 16 w low_over i ∙ ap (bit_or (lane 16 w i)) (lane_plus 0x7c18 (omega arith) i l))

  lane_nones : (i : ℕ) → i < 4 → lane 16 (tops (bit_and w low_none)) i ≡ none (lane 16 w i)
  unfolding lanes none
  lane_nones i l =
      lane_tops (bit_and w low_none) i l
      ∙ ap (λ y. bit_and y 0x8000) (lane_and 16 w low_none i ∙ ap (bit_and (lane 16 w i)) (lane_plus 1 (omega arith) i l))

  pub four_test : not (eqb (tops (bit_or w low_over)) (tops (bit_and w low_none))) ≡ bad_in w 4
  four_test =
      lane_differ 16 4 (tops (bit_or w low_over)) (tops (bit_and w low_none)) (tops_in (bit_or w low_over)) (tops_in (bit_and w low_none))
      (λ i. over (lane 16 w i)) (λ i. none (lane 16 w i)) lane_overs lane_nones
      ∙ some_agree 4 _ _ (λ j a b. ap not (yield_test (lane 16 w (j - 1)) (lane_lt 16 w (j - 1))))

-- of the first m alone: the others become 0, which is a yield
first_test : (w m : ℕ) → m ≤ 4 → bad_in (bit_and w (2 ^ (16 * m) - 1)) 4 ≡ bad_in w m
first_test w m l =
    ap (λ x. bad_in x 4) (and_mask w (16 * m))
    ∙ one_window m 4 (λ j. bad (lane 16 (w % 2 ^ (16 * m)) (j - 1))) l (λ j a b. ap bad (lane_behind 16 m w (j - 1) (omega arith)) ∙ ap not (yield_in 0 (omega arith)))
    ∙ some_agree m _ _ (λ j a b. ap bad (lane_within 16 m w (j - 1) (omega arith)))

-- Numbers of two bytes

-- some of k from a place on is bad
abbrev pub bad_from : List ℕ → ℕ → ℕ → Bool
bad_from s at k = some k (λ j. bad (word s (at + (j - 1) * 2)))

-- four in a word, the last the lowest
abbrev pub four_from : List ℕ → ℕ → ℕ
four_from s at = lanes 16 4 (λ i. word s (at + 6 - i * 2))

module _ (s : List ℕ) (bytes : (k : ℕ) → get_or s k 0 < 256) (at : ℕ) where
  lane_from : (j : ℕ) → 1 ≤ j → j ≤ 4 → lane 16 (four_from s at) (j - 1) ≡ word s (at + 8 - j * 2)
  lane_from j a b =
      let e : at + 6 - (j - 1) * 2 ≡ at + 8 - j * 2 = omega arith in
      lane_of 16 4 (λ i. word s (at + 6 - i * 2)) (record { below = λ i p. omega (arith, bytes (at + 6 - i * 2), bytes (at + 6 - i * 2 + 1)) }) (j - 1) (omega arith)
      ∙ ap (word s) e

  -- the last m of them
  from_test : (m : ℕ) → m ≤ 4 → bad_in (four_from s at) m ≡ bad_from s (at + 8 - m * 2) m
  from_test m l =
      some_agree m _ (λ j. bad (word s (at + 8 - j * 2))) (λ j a b. ap bad (lane_from j a (omega arith)))
      ∙ sym (some_reversed m (λ j. bad (word s (at + 8 - j * 2))))
      ∙ some_agree m _ _ (λ j a b. let e : at + 8 - (m + 1 - j) * 2 ≡ at + 8 - m * 2 + (j - 1) * 2 = omega arith in ap (λ k. bad (word s k)) e)

-- four more behind those from a place on
pub fours_next : (s : List ℕ) → ((k : ℕ) → get_or s k 0 < 256) → (at seen place : ℕ) {w : ℕ} {here found : Bool} → place ≡ at + seen * 2 → w ≡ four_from s place
    → here ≡ bad_in w 4 → found ≡ bad_from s at seen → (here || found) ≡ bad_from s at (seen + 4)
fours_next s bytes at seen place p d i j =
    let e : place + 8 - 8 ≡ at + seen * 2 = omega arith in
    ap₂ ◌||◌
    (i ∙ ap (λ w. bad_in w 4) d ∙ from_test s bytes place 4 (omega arith) ∙ ap (λ k. bad_from s k 4) e
    ∙ some_agree 4 _ (λ j. bad (word s (at + (seen + j - 1) * 2))) (λ j a b. let e : at + seen * 2 + (j - 1) * 2 ≡ at + (seen + j - 1) * 2 = omega arith in ap (λ k. bad (word s k)) e))
    j
    ∙ some_split seen 4 (λ j. bad (word s (at + (j - 1) * 2)))

-- those from a place on that end at another: the last four, and a first part that leaves none between
windows_test : (s : List ℕ) (at n m : ℕ) → 4 ≤ n → m ≤ n → n ≤ m + 4 → (bad_from s at m || bad_from s (at + (n - 4) * 2) 4) ≡ bad_from s at n
windows_test s at n m a b c =
    or_comm (bad_from s at m) (bad_from s (at + (n - 4) * 2) 4)
    ∙ ap (λ t. t || bad_from s at m)
    (some_agree 4 _ _ (λ j c d. let e : at + (n - 4) * 2 + (j - 1) * 2 ≡ at + (n - 4 + j - 1) * 2 = omega arith in ap (λ k. bad (word s k)) e))
    ∙ two_windows n 4 m (λ j. bad (word s (at + (j - 1) * 2))) a b c

-- of n that end at a place, the last four, or all where there are fewer, and then those from the first on
module _ (s : List ℕ) (bytes : (k : ℕ) → get_or s k 0 < 256) (n end : ℕ) (end_from : 8 ≤ end) where
  pub last_found : {w mask : ℕ} {last : Bool} (m : ℕ) → min n 4 ≡ m → w ≡ four_from s (end - 8) → mask ≡ 2 ^ (16 * min n 4) - 1
      → last ≡ bad_in (bit_and w mask) 4 → last ≡ bad_from s (end - m * 2) m
  last_found m e d f i =
      i
      ∙ ap₂ (λ w mask. bad_in (bit_and w mask) 4) d (f ∙ ap (λ k. 2 ^ (16 * k) - 1) e)
      ∙ first_test (four_from s (end - 8)) m (omega arith)
      ∙ from_test s bytes (end - 8) m (omega arith)
      ∙ (let p : end - 8 + 8 - m * 2 ≡ end - m * 2 = omega arith in ap (λ k. bad_from s k m) p)

  pub both_found : {first last : Bool} → 4 < n → n * 2 ≤ end → first ≡ bad_from s (end - n - n) (fours (n - 4)) → last ≡ bad_from s (end - 8) 4 → (first || last) ≡ bad_from s (end - n * 2) n
  both_found a l i j =
      ap₂ ◌||◌
      (i ∙ (let p : end - n - n ≡ end - n * 2 = omega arith in ap (λ k. bad_from s k (fours (n - 4))) p))
      (j ∙ (let p : end - 8 ≡ end - n * 2 + (n - 4) * 2 = omega arith in ap (λ k. bad_from s k 4) p))
      ∙ windows_test s (end - n * 2) n (fours (n - 4)) (omega arith) (omega arith) (omega arith)

-- for the test of four yields
pub ruleset four_lanes = (over_fits, none_fits, four_test)

pub ruleset parts = (last_found, both_found)
