-- The names of a row by words of four, what stands behind the row cut off; and the rows one after the other.
use Prim.Native.Nat.{ℕ, min, ◌+◌, ◌-◌, ◌*◌, ◌%◌, ◌^◌, ◌≤◌, ◌<◌}
use mathlib.Core.Path.{◌≡◌, refl, sym, ap, ap₂, ◌∙◌}
use mathlib.Core.Bool.{Bool, false, ◌||◌}
use mathlib.Core.List.{List}
use native.Mathlib.Omega.{arith}
use borrow.Author.Tests.{le-ltb, ne_eqb}
use lib.Bits.{bit_and, and_mask}
use lib.ListN.{length, get_or}
use Rattle.image.specs.Stalls.{some}
use Rattle.image.specs.Lanes.{lanes, lane}
use Rattle.image.specs.Layout.{label_limit, row_place}
use Rattle.image.specs.Frame.{Sized}
use Rattle.image.specs.Check.{bad_name}
use Rattle.image.specs.Columns.{columns_from, bad_at}
use Rattle.image.proofs.Search.{some_agree}
use Rattle.image.proofs.Windows.{one_window, some_split}
use Rattle.image.proofs.Places.{row_within}
use Rattle.image.proofs.OrderEntry.{orders_long}
use Rattle.image.proofs.Lanes.{lane_of, lane_within, lane_behind}
use Rattle.image.proofs.NameLanes.{column_is, columns_on}

-- no name is not a bad one
none_good : (n limit c : ℕ) → 1 ≤ c → bad_name n limit c 0 0 ≡ false
none_good n limit c l = rw (le-ltb n 0 (omega arith), ne_eqb 0 c (λ e. omega arith), le-ltb limit 0 (omega arith))

module _ (s : List ℕ) (bytes : (k : ℕ) → get_or s k 0 < 256) where
  abbrev word_at : ℕ → ℕ
  word_at at = lanes 8 8 (λ i. get_or s (at + i) 0)

  byte_lane : (at i : ℕ) → i < 8 → lane 8 (word_at at) i ≡ get_or s (at + i) 0
  byte_lane at i l = lane_of 8 8 (λ i. get_or s (at + i) 0) (record { below = λ j p. bytes (at + j) }) i l

  module _ (n limit at : ℕ) where
    abbrev bad : ℕ → Bool
    bad c = bad_name n limit c (get_or s (at + (c - 1) * 2) 0) (get_or s (at + (c - 1) * 2 + 1) 0)

    -- four names behind column c, in the word w, in whose lanes the bytes stand
    abbrev of_word : ℕ → ℕ → ℕ → Bool
    of_word w c j = bad_name n limit (c + j) (lane 8 w (j * 2 - 2)) (lane 8 w (j * 2 - 1))

    named : (w c j : ℕ) → 1 ≤ j → lane 8 w (j * 2 - 2) ≡ get_or s (at + c * 2 + (j * 2 - 2)) 0 → lane 8 w (j * 2 - 1) ≡ get_or s (at + c * 2 + (j * 2 - 1)) 0
        → of_word w c j ≡ bad (c + j)
    named w c j l p q =
        let x : at + c * 2 + (j * 2 - 2) ≡ at + (c + j - 1) * 2 = omega arith in
        let y : at + c * 2 + (j * 2 - 1) ≡ at + (c + j - 1) * 2 + 1 = omega arith in
        ap₂ (bad_name n limit (c + j)) (p ∙ ap (λ k. get_or s k 0) x) (q ∙ ap (λ k. get_or s k 0) y)

    -- the first m of four, the rest cut off
    module _ (c m place : ℕ) (m_to : m ≤ 4) (place_is : place ≡ at + c * 2) where
      cut : ℕ
      cut = bit_and (word_at place) (2 ^ (16 * m) - 1)

      cut_is : cut ≡ word_at place % 2 ^ (8 * (m * 2))
      unfolding cut
      cut_is = let e : 16 * m ≡ 8 * (m * 2) = omega arith in and_mask (word_at place) (16 * m) ∙ ap (λ k. word_at place % 2 ^ k) e

      kept : (i : ℕ) → i < m * 2 → lane 8 cut i ≡ get_or s (at + c * 2 + i) 0
      kept i l =
          ap (λ x. lane 8 x i) cut_is ∙ lane_within 8 (m * 2) (word_at place) i l ∙ byte_lane place i (omega arith) ∙ ap (λ k. get_or s (k + i) 0) place_is

      cut_off : (i : ℕ) → m * 2 ≤ i → lane 8 cut i ≡ 0
      cut_off i l = ap (λ x. lane 8 x i) cut_is ∙ lane_behind 8 (m * 2) (word_at place) i l

      cut_word : some 4 (of_word (bit_and (word_at place) (2 ^ (16 * m) - 1)) c) ≡ some m (λ j. bad (c + j))
      unfolding cut
      cut_word =
          one_window m 4 (of_word cut c) m_to
          (λ j a b. ap₂ (bad_name n limit (c + j)) (cut_off (j * 2 - 2) (omega arith)) (cut_off (j * 2 - 1) (omega arith)) ∙ none_good n limit (c + j) (omega arith))
          ∙ some_agree m (of_word cut c) (λ j. bad (c + j)) (λ j a b. named cut c j a (kept (j * 2 - 2) (omega arith)) (kept (j * 2 - 1) (omega arith)))

    -- the test of a word, its columns in another
    abbrev pub tested : ℕ → ℕ → Bool
    tested w columns = some 4 (λ j. bad_name n limit (lane 8 columns (j * 2 - 2)) (lane 8 w (j * 2 - 2)) (lane 8 w (j * 2 - 1)))

    word_test : (c m : ℕ) {place columns w mask : ℕ} → m ≤ 4 → c ≤ 123 → place ≡ at + c * 2 → columns ≡ columns_from c → w ≡ word_at place → mask ≡ 2 ^ (16 * m) - 1
        → tested (bit_and w mask) columns ≡ some m (λ j. bad (c + j))
    word_test c m {place} a b p e d f =
        ap₂ tested (ap₂ bit_and d f) e
        ∙ some_agree 4 _ (of_word (bit_and (word_at place) (2 ^ (16 * m) - 1)) c) (λ j k l.
        let w = bit_and (word_at place) (2 ^ (16 * m) - 1) in ap (λ x. bad_name n limit x (lane 8 w (j * 2 - 2)) (lane 8 w (j * 2 - 1))) (column_is c b j k l))
        ∙ cut_word c m place a p

    -- the eight names behind column c, as far as some are left, in a word, or in two
    module _ (c left : ℕ) {columns w : ℕ} (c_to : c ≤ 119) (columns_is : columns ≡ columns_from c) (w_is : w ≡ word_at (at + c + c)) where
      pub short_row : {mask : ℕ} → mask ≡ 2 ^ (16 * min left 4) - 1 → left ≤ 4 → tested (bit_and w mask) columns ≡ some (min left 8) (λ j. bad (c + j))
      short_row f l =
          let e : min left 4 ≡ min left 8 = omega arith in
          word_test c (min left 8) (omega arith) (omega arith) (omega arith) columns_is w_is (f ∙ ap (λ k. 2 ^ (16 * k) - 1) e)

      -- nothing cut off the first
      first_word : w < 2 ^ 64 → tested w columns ≡ some 4 (λ j. bad (c + j))
      first_word l =
          let e : w % 2 ^ 64 ≡ w = omega (arith, l) in
          ap (λ x. tested x columns) (sym (and_mask w 64 ∙ e)) ∙ word_test c 4 (omega arith) (omega arith) (omega arith) columns_is w_is refl

      pub long_row : {v cut : ℕ} → w < 2 ^ 64 → 4 < left → v ≡ word_at (at + c + c + 8) → cut ≡ 2 ^ (16 * min (left - 4) 4) - 1
          → (tested (bit_and v cut) (columns + 0x0004000400040004) || tested w columns) ≡ some (min left 8) (λ j. bad (c + j))
      long_row small l d f =
          let m = min (left - 4) 4 in
          let k : 4 + m ≡ min left 8 = omega arith in
          let behind = word_test (c + 4) m (omega arith) (omega arith) (omega arith) (ap (λ x. x + 0x0004000400040004) columns_is ∙ columns_on c 4) d f in
          ap₂ ◌||◌
          (behind ∙ some_agree m (λ j. bad (c + 4 + j)) (λ j. bad (c + (4 + j))) (λ j p q. let e : c + 4 + j ≡ c + (4 + j) = omega arith in ap bad e))
          (first_word small)
          ∙ some_split 4 m (λ j. bad (c + j)) ∙ ap (λ i. some i (λ j. bad (c + j))) k

-- The row behind the first k, at its place

module _ (s : List ℕ) (n k : ℕ) {at : ℕ} (stands : at ≡ 4 + k * (n + n)) where
  -- it has room, and the yields and the marks behind it
  pub row_room : Sized s n → k < n → at + n * 5 ≤ length s
  row_room z l =
      let e : k + 1 - 1 ≡ k = omega arith in
      omega (arith, stands, z.long, orders_long n, ap (λ j. j * (n + n)) e, row_within {n = n} {r = k + 1} (omega arith) (omega arith))

  -- and names at their places
  pub row_names : (c m : ℕ) {bad : Bool}
      → bad ≡ some m (λ j. bad_name n (label_limit n) (c + j) (get_or s (at + (c + j - 1) * 2) 0) (get_or s (at + (c + j - 1) * 2 + 1) 0))
      → bad ≡ some m (λ j. bad_at s n (k + 1) (c + j))
  row_names c m e =
      let d : k + 1 - 1 ≡ k = omega arith in
      let i : at ≡ row_place n (k + 1) = stands ∙ ap (λ j. 4 + j * (n + n)) (sym d) in
      e ∙ ap (λ k. some m (λ j. bad_name n (label_limit n) (c + j) (get_or s (k + (c + j - 1) * 2) 0) (get_or s (k + (c + j - 1) * 2 + 1) 0))) i
