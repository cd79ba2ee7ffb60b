-- A fresh image: that it is accepted, its bytes, and that it stands at the front of a run with room for it.
use Prim.Native.Nat.{ℕ, suc, ◌+◌, ◌-◌, ◌*◌, ◌≤◌}
use mathlib.Core.Path.{◌≡◌, sym, ap, ap₂, ◌∙◌}
use mathlib.Core.List.{List, ◌∷◌, ◌++◌, append-nil}
use native.Mathlib.Omega.{arith}
use borrow.Author.Tests.{le-leb}
use lib.ListN.{length, take, drop, set, replicate, length-append, length-replicate}
use Rattle.image.specs.Stalls.{each}
use Rattle.image.specs.Layout.{largest, no_yield, image_length, length_of, order_width, yields_place, yields_from}
use Rattle.image.specs.Fresh.{fresh_image, fresh_in}
use Rattle.image.specs.Encode.{nothing, word_bytes, order_bytes, encode}
use Rattle.image.proofs.Bits.{bits_none}
use Rattle.image.proofs.YieldRange.{no_yield_bytes}
use Rattle.image.proofs.Zeros.{drop_zeros, zeros_parted, zeros_between, each_zeros}
use Rattle.image.proofs.Places.{yields_from_lem}
use Rattle.image.proofs.Encoding.{length_encode}
use Rattle.image.proofs.OrderEntry.{length_is, order_zeros}
use Rattle.image.proofs.Accepted.{Accepted}
use Rattle.image.proofs.Made.{nothing_made}
use Rattle.image.proofs.MadeAccepted.{made_accepted}

pub fresh_accepted : (n own : ℕ) → 2 ≤ n → n ≤ largest → 1 ≤ own → own ≤ n → Accepted (fresh_image n own) n own
unfolding fresh_image
fresh_accepted n own n_from n_to own_from own_to = made_accepted n own nothing n_from n_to own_from own_to (nothing_made n own)

-- every byte: "names and marks are still zeros"
pub fresh_bytes : (n own : ℕ) → fresh_image n own ≡ (n ∷ own ∷ word_bytes no_yield) ++ replicate (n * (n + n)) 0 ++ each n no_yield_bytes ++ replicate (n * order_width n) 0
unfolding fresh_image encode nothing
fresh_bytes n own =
    let front : List ℕ = n ∷ own ∷ word_bytes no_yield in
    let e : n * 2 ≡ n + n = omega arith in
    let rows = ap (λ l. each n (λ r. l)) (each_zeros n 2 ∙ ap (λ j. replicate j 0) e) ∙ each_zeros n (n + n) in
    let marks = ap (λ l. each n (λ r. l)) (ap (order_bytes n) (bits_none n) ∙ sym (order_zeros n)) ∙ each_zeros n (order_width n) in
    ap₂ (λ a b. front ++ a ++ each n no_yield_bytes ++ b) rows marks

module _ (n own : ℕ) (n_from : 2 ≤ n) (n_to : n ≤ largest) where
  pub length_fresh : length (fresh_image n own) ≡ length_of n
  unfolding fresh_image
  length_fresh = length_encode n own nothing ∙ sym (length_is n n_from n_to)

  -- at the front of a run that has room for it
  module _ (long : ℕ) (fits : length_of n ≤ long) where
    pub fresh_in_lem : fresh_in long n own ≡ fresh_image n own ++ replicate (long - length_of n) 0
    unfolding fresh_in
    fresh_in_lem = rw (le-leb (length_of n) long fits, le-leb 2 n n_from, le-leb n largest n_to)

    pub length_in : length (fresh_in long n own) ≡ long
    length_in =
        ap length fresh_in_lem
        ∙ length-append (fresh_image n own) (replicate (long - length_of n) 0)
        ∙ omega (arith, length_fresh, length-replicate {A = ℕ} (long - length_of n) 0)

  -- in a run of its length it stands alone
  pub fresh_alone : fresh_in (length_of n) n own ≡ fresh_image n own
  fresh_alone =
      let e : length_of n - length_of n ≡ 0 = omega arith in
      fresh_in_lem (length_of n) (omega arith) ∙ ap (λ k. fresh_image n own ++ replicate k 0) e ∙ append-nil (fresh_image n own)

-- at the front of more zeros
pub fresh_front : (n own : ℕ) (zeros : List ℕ) → 2 ≤ n → n ≤ largest → length_of n ≤ length zeros → zeros ≡ replicate (length zeros) 0
    → fresh_in (length_of n) n own ++ drop (length_of n) zeros ≡ fresh_in (length zeros) n own
fresh_front n own zeros a b l e =
    ap₂ ◌++◌ (fresh_alone n own a b) (ap (drop (length_of n)) e ∙ drop_zeros (length_of n) (length zeros)) ∙ sym (fresh_in_lem n own a b (length zeros) l)

-- as it is written over zeros: N, the stall and the current yield, then the yields of m stalls in their place
module _ (zeros begun : List ℕ) (n own m at : ℕ)
    (asked : (2 ≤ n) × (n ≤ largest) × (length zeros ≡ length_of n) × (zeros ≡ replicate (length zeros) 0)) (m_is : m ≡ n)
    (begun_is : begun ≡ take 2 (set (set zeros 0 n) 1 own) ++ each 1 no_yield_bytes ++ drop 4 (set (set zeros 0 n) 1 own)) (at_is : at ≡ yields_from (length begun) m) where
  abbrev front : List ℕ
  front = n ∷ own ∷ word_bytes no_yield

  whole : length zeros ≡ image_length n
  whole = asked.2 ∙ length_is n asked.0 asked.1

  front_is : begun ≡ front ++ replicate (length zeros - 4) 0
  unfolding each
  front_is =
      let e : length zeros ≡ suc (suc (suc (suc (length zeros - 4)))) = omega (arith, whole) in
      begun_is ∙ ap (λ z. take 2 (set (set z 0 n) 1 own) ++ word_bytes no_yield ++ drop 4 (set (set z 0 n) 1 own)) (asked.3 ∙ ap (λ j. replicate j 0) e)

  begun_whole : length begun ≡ image_length n
  begun_whole = ap length front_is ∙ length-append front (replicate (length zeros - 4) 0) ∙ omega (arith, whole, length-replicate {A = ℕ} (length zeros - 4) 0)

  place_is : at ≡ yields_place n
  place_is = yields_from_lem begun_whole m_is at_is

  pub fresh_written : take at begun ++ each m no_yield_bytes ++ drop (at + m * 2) begun ≡ fresh_in (length zeros) n own
  fresh_written =
      let rows = n * (n + n) in
      let rest = length zeros - length_of n in
      ap₂ (λ j k. take j begun ++ each k no_yield_bytes ++ drop (j + k * 2) begun) place_is m_is
      ∙ ap (λ l. take (yields_place n) l ++ each n no_yield_bytes ++ drop (yields_place n + n * 2) l) front_is
      ∙ zeros_between front (each n no_yield_bytes) (length zeros - 4) rows (n * 2) (omega (arith, whole))
      ∙ zeros_parted (front ++ replicate rows 0 ++ each n no_yield_bytes) (length zeros - 4 - (rows + n * 2)) (n * order_width n) rest (omega (arith, whole, asked.2))
      ∙ ap (λ l. l ++ replicate rest 0) (sym (fresh_bytes n own))
      ∙ sym (fresh_in_lem n own asked.0 asked.1 (length zeros) (omega (arith, asked.2)))

pub ruleset written = (fresh_written, fresh_front)
