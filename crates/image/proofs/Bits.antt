-- Sets of stalls as numbers: which stalls a set has, and what `&` and `|` do to it.
use Prim.Native.Nat.{ℕ, zero, suc, ◌+◌, ◌-◌, ◌*◌, ◌/◌, ◌%◌, ◌^◌, ◌≤◌, ◌<◌, min, max}
use mathlib.Core.Path.{◌≡◌, refl, sym, ap, ap₂, ◌∙◌}
use mathlib.Core.Bool.{Bool, true, false, ◌&&◌, ◌||◌, not, cond, true≢false, false≢true}
use native.Mathlib.Omega.{arith}
use native.Mathlib.Nat.{add_comm, pow-succ', div-div-eq-div-mul, mod-lt, mod-one, zero-div}
use native.Mathlib.Decide.{dec_le, dec_lt, ℕ_discrete}
use borrow.Author.Tests.{eq-eqb, ne_eqb, le-leb, lt-leb}
use lib.Dec.{eqb, leb}
use lib.Bits.{bit_and, bit_or, and_step, or_step, and_le_l, and_le_r, and_high, block_half, block_odd}
use lib.Arith.{mod-mul}
use lib.Count.{ones, ones_cat}
use lib.Pow.{pow_pos, pow-add, split}
use Rattle.image.specs.Stalls.{some, count, count_stalls, bits, has, bit_of}

-- Digits

digit : ℕ → ℕ → ℕ
digit b k = b / 2 ^ k % 2

digit_zero : (b : ℕ) → digit b 0 ≡ b % 2
unfolding digit
digit_zero b = let e : b / 1 ≡ b = omega arith in ap (λ x. x % 2) e

digit_suc : (b k : ℕ) → digit b (suc k) ≡ digit (b / 2) k
unfolding digit
digit_suc b k = ap (λ x. b / x % 2) (pow-succ' 2 k) ∙ ap (λ x. x % 2) (sym (div-div-eq-div-mul b 2 (2 ^ k)))

digit_lt : (b k : ℕ) → digit b k < 2
unfolding digit
digit_lt b k = omega arith

-- of two numbers put together
digit_low : (n k a r : ℕ) → k < n → digit (a * 2 ^ n + r) k ≡ digit r k
digit_low zero k a r l = absurd (omega arith)
digit_low (suc n) zero a r l = digit_zero _ ∙ block_odd a n r ∙ sym (digit_zero r)
digit_low (suc n) (suc k) a r l =
    digit_suc _ k ∙ ap (λ x. digit x k) (block_half a n r) ∙ digit_low n k a (r / 2) (omega arith) ∙ sym (digit_suc r k)

digit_high : (n k a r : ℕ) → r < 2 ^ n → digit (a * 2 ^ n + r) (n + k) ≡ digit a k
digit_high zero k a r l =
    let e : a * 1 + r ≡ a = omega arith in
    let i : 0 + k ≡ k = omega arith in
    ap₂ digit e i
digit_high (suc n) k a r l =
    let i : suc n + k ≡ suc (n + k) = omega arith in
    let b : r / 2 < 2 ^ n = omega (arith, pow-succ' 2 n) in
    ap (digit _) i ∙ digit_suc _ (n + k) ∙ ap (λ x. digit x (n + k)) (block_half a n r) ∙ digit_high n k a (r / 2) b

-- numbers with the same digits are the same
digit_ext : (n x y : ℕ) → x < 2 ^ n → y < 2 ^ n → ((k : ℕ) → k < n → digit x k ≡ digit y k) → x ≡ y
digit_ext zero x y a b e = omega arith
digit_ext (suc n) x y a b e =
    let i = digit_ext n (x / 2) (y / 2) (omega (arith, pow-succ' 2 n)) (omega (arith, pow-succ' 2 n))
    (λ k l. sym (digit_suc x k) ∙ e (suc k) (omega arith) ∙ digit_suc y k) in
    let j : x % 2 ≡ y % 2 = sym (digit_zero x) ∙ e 0 (omega arith) ∙ digit_zero y in
    omega arith

-- an operation that goes digit by digit
module _ (op f : ℕ → ℕ → ℕ) (step : (a b : ℕ) → op a b ≡ op (a / 2) (b / 2) * 2 + f (a % 2) (b % 2)) (small : (x y : ℕ) → x < 2 → y < 2 → f x y < 2) where
  digit_op : (k a b : ℕ) → digit (op a b) k ≡ f (digit a k) (digit b k)
  digit_op zero a b =
      let l = small (a % 2) (b % 2) (omega arith) (omega arith) in
      let e : op a b % 2 ≡ f (a % 2) (b % 2) = omega (arith, step a b) in
      digit_zero _ ∙ e ∙ ap₂ f (sym (digit_zero a)) (sym (digit_zero b))
  digit_op (suc k) a b =
      let l = small (a % 2) (b % 2) (omega arith) (omega arith) in
      let e : op a b / 2 ≡ op (a / 2) (b / 2) = omega (arith, step a b) in
      digit_suc _ k ∙ ap (λ x. digit x k) e ∙ digit_op k (a / 2) (b / 2) ∙ ap₂ f (sym (digit_suc a k)) (sym (digit_suc b k))

-- Which stalls a set has

has_digit : (b k : ℕ) → has b (suc k) ≡ eqb (digit b k) 1
unfolding has digit
has_digit b k = let e : suc k - 1 ≡ k = omega arith in ap (λ j. eqb (b / 2 ^ j % 2) 1) e

-- a digit is 0 or 1, so the test tells it
digit_of_test : {x y : ℕ} → x < 2 → y < 2 → eqb x 1 ≡ eqb y 1 → x ≡ y
digit_of_test {x = zero} {y = zero} a b e = refl
digit_of_test {x = zero} {y = suc zero} a b e = absurd (false≢true e)
digit_of_test {x = zero} {y = suc (suc y)} a b e = absurd (omega arith)
digit_of_test {x = suc zero} {y = zero} a b e = absurd (true≢false e)
digit_of_test {x = suc zero} {y = suc zero} a b e = refl
digit_of_test {x = suc zero} {y = suc (suc y)} a b e = absurd (omega arith)
digit_of_test {x = suc (suc x)} a b e = absurd (omega arith)

-- two sets with the same stalls of 1 to n are the same
pub has_ext : (n x y : ℕ) → x < 2 ^ n → y < 2 ^ n → ((s : ℕ) → 1 ≤ s → s ≤ n → has x s ≡ has y s) → x ≡ y
has_ext n x y a b e =
    digit_ext n x y a b (λ k l. digit_of_test (digit_lt x k) (digit_lt y k) (sym (has_digit x k) ∙ e (suc k) (omega arith) (omega arith) ∙ has_digit y k))

min_test : (x y : ℕ) → x < 2 → y < 2 → eqb (min x y) 1 ≡ (eqb x 1 && eqb y 1)
min_test zero zero a b = refl
min_test zero (suc zero) a b = refl
min_test zero (suc (suc y)) a b = absurd (omega arith)
min_test (suc zero) zero a b = refl
min_test (suc zero) (suc zero) a b = refl
min_test (suc zero) (suc (suc y)) a b = absurd (omega arith)
min_test (suc (suc x)) y a b = absurd (omega arith)

pub has_and : (a b s : ℕ) → 1 ≤ s → has (bit_and a b) s ≡ (has a s && has b s)
has_and a b zero l = absurd (omega arith)
has_and a b (suc k) l =
    has_digit _ k ∙ ap (λ x. eqb x 1) (digit_op bit_and min and_step (λ x y p q. omega arith) k a b)
    ∙ min_test _ _ (digit_lt a k) (digit_lt b k) ∙ ap₂ ◌&&◌ (sym (has_digit a k)) (sym (has_digit b k))

max_test : (x y : ℕ) → x < 2 → y < 2 → eqb (max x y) 1 ≡ (eqb x 1 || eqb y 1)
max_test zero zero a b = refl
max_test zero (suc zero) a b = refl
max_test zero (suc (suc y)) a b = absurd (omega arith)
max_test (suc zero) zero a b = refl
max_test (suc zero) (suc zero) a b = refl
max_test (suc zero) (suc (suc y)) a b = absurd (omega arith)
max_test (suc (suc x)) y a b = absurd (omega arith)

pub has_or : (a b s : ℕ) → 1 ≤ s → has (bit_or a b) s ≡ (has a s || has b s)
has_or a b zero l = absurd (omega arith)
has_or a b (suc k) l =
    has_digit _ k ∙ ap (λ x. eqb x 1) (digit_op bit_or max or_step (λ x y p q. omega arith) k a b)
    ∙ max_test _ _ (digit_lt a k) (digit_lt b k) ∙ ap₂ ◌||◌ (sym (has_digit a k)) (sym (has_digit b k))

pub has_zero : (s : ℕ) → has 0 s ≡ false
unfolding has
has_zero s = rw (zero-div (2 ^ (s - 1)))

-- the highest that there is room for
pub has_top : (k b : ℕ) → b < 2 ^ suc k → has b (suc k) ≡ leb (2 ^ k) b
unfolding digit
has_top k b l = has_digit b k ∙ go (b / 2 ^ k) (split b k)
  where
    go : (d : ℕ) → d * 2 ^ k + b % 2 ^ k ≡ b → eqb (d % 2) 1 ≡ leb (2 ^ k) b
    go zero e = sym (lt-leb (2 ^ k) b (omega (arith, mod-lt b (pow_pos k))))
    go (suc zero) e = sym (le-leb (2 ^ k) b (omega arith))
    go (suc (suc d)) e = absurd (omega (arith, pow-succ' 2 k))

-- The set that a test picks

pub bits_lt : (n : ℕ) (f : ℕ → Bool) → bits n f < 2 ^ n
unfolding bits
bits_lt zero f = omega arith
bits_lt (suc n) f = go (f (suc n)) (bits_lt n f)
  where
    go : (b : Bool) → bits n f < 2 ^ n → bits n f + cond b (2 ^ n) 0 < 2 ^ suc n
    go true l = omega (arith, pow-succ' 2 n)
    go false l = omega (arith, pow-succ' 2 n)

-- two tests that agree on 1 to n pick the same
pub bits_agree : (n : ℕ) (f g : ℕ → Bool) → ((s : ℕ) → 1 ≤ s → s ≤ n → f s ≡ g s) → bits n f ≡ bits n g
unfolding bits
bits_agree zero f g e = refl
bits_agree (suc n) f g e =
    ap₂ (λ b t. b + cond t (2 ^ n) 0) (bits_agree n f g (λ s a b. e s a (omega arith))) (e (suc n) (omega arith) (omega arith))

-- a test that nothing passes picks nothing
pub bits_none : (n : ℕ) → bits n (λ s. false) ≡ 0
unfolding bits
bits_none zero = refl
bits_none (suc n) = omega (arith, bits_none n)

digit_none : (k : ℕ) → digit 0 k ≡ 0
unfolding digit
digit_none k = rw (zero-div (2 ^ k))

bits_block : (n : ℕ) (f : ℕ → Bool) → bits (suc n) f ≡ cond (f (suc n)) 1 0 * 2 ^ n + bits n f
unfolding bits
bits_block n f = go (f (suc n))
  where
    go : (b : Bool) → bits n f + cond b (2 ^ n) 0 ≡ cond b 1 0 * 2 ^ n + bits n f
    go true = omega arith
    go false = omega arith

-- the digit that a test gives, and none above it
test_digit : (b : Bool) → eqb (digit (cond b 1 0) 0) 1 ≡ b
unfolding digit
test_digit true = refl
test_digit false = refl

test_above : (b : Bool) (j : ℕ) → digit (cond b 1 0) (suc j) ≡ 0
test_above true j = digit_suc 1 j ∙ digit_none j
test_above false j = digit_none (suc j)

has_block : (n : ℕ) (f : ℕ → Bool) (k : ℕ) → has (bits (suc n) f) (suc k) ≡ eqb (digit (cond (f (suc n)) 1 0 * 2 ^ n + bits n f) k) 1
has_block n f k = has_digit _ k ∙ ap (λ x. eqb (digit x k) 1) (bits_block n f)

bits_below : (n : ℕ) (f : ℕ → Bool) (k : ℕ) → k < n → has (bits (suc n) f) (suc k) ≡ has (bits n f) (suc k)
bits_below n f k l = has_block n f k ∙ ap (λ x. eqb x 1) (digit_low n k _ (bits n f) l) ∙ sym (has_digit (bits n f) k)

bits_top : (n : ℕ) (f : ℕ → Bool) → has (bits (suc n) f) (suc n) ≡ f (suc n)
bits_top n f =
    let i : n ≡ n + 0 = omega arith in
    has_block n f n ∙ ap (λ k. eqb (digit (cond (f (suc n)) 1 0 * 2 ^ n + bits n f) k) 1) i ∙ ap (λ x. eqb x 1) (digit_high n 0 _ (bits n f) (bits_lt n f)) ∙ test_digit (f (suc n))

bits_above : (n : ℕ) (f : ℕ → Bool) (j : ℕ) → has (bits (suc n) f) (suc (n + suc j)) ≡ false
bits_above n f j =
    has_block n f (n + suc j) ∙ ap (λ x. eqb x 1) (digit_high n (suc j) _ (bits n f) (bits_lt n f) ∙ test_above (f (suc n)) j)

pub has_bits : (n : ℕ) (f : ℕ → Bool) (s : ℕ) → 1 ≤ s → has (bits n f) s ≡ (leb s n && f s)
unfolding bits
has_bits n f zero l = absurd (omega arith)
has_bits zero f (suc k) l = has_zero (suc k) ∙ sym (ap (λ b. b && f (suc k)) (lt-leb (suc k) 0 (omega arith)))
has_bits (suc n) f (suc k) l =
    elim (dec_lt k n) [
      | yes a ↦
          bits_below n f k a ∙ has_bits n f (suc k) l
          ∙ ap (λ b. b && f (suc k)) (le-leb (suc k) n a ∙ sym (le-leb (suc k) (suc n) (omega arith)))
      | no a ↦ elim (ℕ_discrete k n) [
        | yes e ↦ rw (e, le-leb (suc n) (suc n) (omega arith)) (bits_top n f)
        | no b ↦
            let i : k ≡ n + suc (k - n - 1) = omega arith in
            ap (λ j. has (bits (suc n) f) (suc j)) i ∙ bits_above n f (k - n - 1)
            ∙ sym (ap (λ b. b && f (suc k)) (lt-leb (suc k) (suc n) (omega arith)))
      ]
    ]

-- What is found by `&`

-- some of 1 to n is found, or none is
pub data Found (n : ℕ) (f : ℕ → Bool) : Bool → Type 0 where
  at : (s : ℕ) → 1 ≤ s → s ≤ n → f s ≡ true → Found n f true
  nowhere : ((s : ℕ) → 1 ≤ s → s ≤ n → f s ≡ false) → Found n f false

pub some_found : (n : ℕ) (f : ℕ → Bool) → Found n f (some n f)
unfolding some
some_found zero f = nowhere (λ s a b. absurd (omega arith))
some_found (suc n) f = go (f (suc n)) refl (some n f) (some_found n f)
  where
    go : (t : Bool) → f (suc n) ≡ t → (b : Bool) → Found n f b → Found (suc n) f (t || b)
    go true e b w = at (suc n) (omega arith) (omega arith) e
    go false e b (at s p q i) = at s p (omega arith) i
    go false e b (nowhere g) =
        nowhere (λ s p q. elim (dec_le s n) [ yes l ↦ g s p l | no l ↦ let i : s ≡ suc n = omega arith in ap f i ∙ e ])

in_and_out : (x y : Bool) → (x && not y) ≡ true → (x && y) ≡ x → ⊥
in_and_out true true e d = false≢true e
in_and_out true false e d = false≢true d
in_and_out false y e d = false≢true e

both_of_in : (x y : Bool) → (x && not y) ≡ false → (x && y) ≡ x
both_of_in true true e = refl
both_of_in true false e = sym e
both_of_in false y e = refl

-- a set is part of another exactly where no stall is missing
pub part_test : (n a b : ℕ) → b < 2 ^ n → eqb (bit_and b a) b ≡ not (some n (λ s. has b s && not (has a s)))
part_test n a b l = go (some n (λ s. has b s && not (has a s))) (some_found n (λ s. has b s && not (has a s)))
  where
    go : (t : Bool) → Found n (λ s. has b s && not (has a s)) t → eqb (bit_and b a) b ≡ not t
    go t (at s p q e) =
        ne_eqb (bit_and b a) b (λ i. in_and_out (has b s) (has a s) e (sym (has_and b a s p) ∙ ap (λ x. has x s) i))
    go t (nowhere g) =
        eq-eqb (bit_and b a) b
        (has_ext n (bit_and b a) b (omega (arith, and_le_l b a)) l (λ s p q. has_and b a s p ∙ both_of_in (has b s) (has a s) (g s p q)))

-- two sets have a stall in common exactly where some is found in both
pub common_test : (n b : ℕ) (f : ℕ → Bool) → not (eqb (bit_and b (bits n f)) 0) ≡ some n (λ s. has b s && f s)
common_test n b f = go (some n (λ s. has b s && f s)) (some_found n (λ s. has b s && f s))
  where
    shared : (s : ℕ) → 1 ≤ s → s ≤ n → has (bit_and b (bits n f)) s ≡ (has b s && f s)
    shared s p q = has_and b (bits n f) s p ∙ ap (λ x. has b s && x) (has_bits n f s p ∙ ap (λ x. x && f s) (le-leb s n q))

    go : (t : Bool) → Found n (λ s. has b s && f s) t → not (eqb (bit_and b (bits n f)) 0) ≡ t
    go t (at s p q e) =
        ap not (ne_eqb (bit_and b (bits n f)) 0 (λ i. true≢false (sym e ∙ sym (shared s p q) ∙ ap (λ x. has x s) i ∙ has_zero s)))
    go t (nowhere g) =
        ap not (eq-eqb (bit_and b (bits n f)) 0
        (has_ext n (bit_and b (bits n f)) 0 (omega (arith, and_le_r b (bits n f), bits_lt n f)) (pow_pos n)
        (λ s p q. shared s p q ∙ g s p q ∙ sym (has_zero s))))

-- a set has a stall exactly where `&` with its bit leaves something
and_one : (b k : ℕ) → bit_and b (2 ^ k) ≡ digit b k * 2 ^ k
unfolding digit
and_one b k =
    let i : 2 ^ k ≡ 2 ^ (1 + k) - 2 ^ k = omega (arith, pow-add 2 1 k) in
    ap (bit_and b) i ∙ and_high b 1 k

one_test : (d k : ℕ) → d < 2 → not (eqb (d * 2 ^ k) 0) ≡ eqb d 1
one_test zero k l = ap not (eq-eqb (0 * 2 ^ k) 0 (omega arith))
one_test (suc zero) k l = ap not (ne_eqb (1 * 2 ^ k) 0 (λ e. omega (arith, pow_pos k)))
one_test (suc (suc d)) k l = absurd (omega arith)

pub bit_test : (b s : ℕ) → not (eqb (bit_and b (2 ^ (s - 1))) 0) ≡ has b s
unfolding has digit
bit_test b s = ap (λ x. not (eqb x 0)) (and_one b (s - 1)) ∙ one_test (digit b (s - 1)) (s - 1) (digit_lt b (s - 1))

-- what is left by `&` with it
pub bit_left : (b k : ℕ) → bit_and b (2 ^ k) ≡ cond (has b (suc k)) (2 ^ k) 0
bit_left b k = and_one b k ∙ go (digit b k) (digit_lt b k) ∙ ap (λ t. cond t (2 ^ k) 0) (sym (has_digit b k))
  where
    go : (d : ℕ) → d < 2 → d * 2 ^ k ≡ cond (eqb d 1) (2 ^ k) 0
    go zero l = omega arith
    go (suc zero) l = omega arith
    go (suc (suc d)) l = absurd (omega arith)

pub bit_of_is : {s : ℕ} → 1 ≤ s → s ≤ 64 → bit_of s ≡ 2 ^ (s - 1)
unfolding bit_of
bit_of_is {s} a b = rw (le-leb 1 s a, le-leb s 64 b)

-- How many stalls of 1 to n a set has, by its digits

ones_digit : (d : ℕ) → d < 2 → ones d ≡ cond (eqb d 1) 1 0
unfolding ones
ones_digit zero l = refl
ones_digit (suc zero) l = refl
ones_digit (suc (suc d)) l = absurd (omega arith)

pub ones_count : (n b : ℕ) → ones (b % 2 ^ n) ≡ count_stalls n (has b)
unfolding count digit
ones_count zero b = ap ones (mod-one b) ∙ ones_digit 0 (omega arith)
ones_count (suc n) b =
    ap (λ m. ones (b % m)) (pow-succ' 2 n) ∙ ap ones (mod-mul b (omega arith) (pow_pos n))
    ∙ ones_cat n (digit b n) (b % 2 ^ n) (mod-lt b (pow_pos n)) ∙ add_comm (ones (digit b n)) _
    ∙ ap₂ ◌+◌ (ones_count n b) (ones_digit (digit b n) (digit_lt b n) ∙ ap (λ t. cond t 1 0) (sym (has_digit b n)))
