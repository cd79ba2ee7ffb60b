-- An order entry: how many bytes it has, what they say, and where it stands. All that depends on its width is here, in src/orders.rt and its proofs.
use Prim.Native.Nat.{ℕ, zero, suc, ◌+◌, ◌-◌, ◌*◌, ◌/◌, ◌%◌, ◌^◌, ◌≤◌, ◌<◌}
use mathlib.Core.Path.{◌≡◌, refl, sym, ap, ap₂, ◌∙◌}
use mathlib.Core.Bool.{Bool, true, false, cond}
use mathlib.Core.List.{List, [], ◌∷◌, ◌++◌}
use native.Mathlib.Omega.{arith}
use native.Mathlib.Nat.{add-mul, mul_comm, mul-le-mul, mul-le-mul_right, mod-eq_of_lt}
use borrow.Author.Tests.{le-leb, leb-true}
use lib.Dec.{leb}
use lib.ListN.{length, get_or, take, drop, replicate, length-append, replicate-append-replicate}
use lib.Pow.{pow-add, pow_mono}
use lib.Seq.{sets, sets-eq}
use Rattle.image.specs.Layout.{largest, length_of, order_width, number_at, order_from, order_place, image_length}
use Rattle.image.specs.Encode.{word_bytes, number_bytes, order_bytes}
use Rattle.image.proofs.Search.{times_step}
use Rattle.image.proofs.Has.{Has, has_first, has_one, has_left, has_right, has_both, has_place}

-- Its width

-- one byte or two, and a bit for each stall of the largest parlour: nothing else is known of the width anywhere
record Wide (n width : ℕ) : Type 0 where
  some_byte : 1 ≤ width
  two_bytes : width ≤ 2
  bit_each : n ≤ largest → n ≤ 8 * width

wide : (n : ℕ) → Wide n (order_width n)
unfolding order_width
wide n = go (leb n 8) refl
  where
    go : (b : Bool) → leb n 8 ≡ b → Wide n (cond b 1 2)
    go true e = record { some_byte = omega arith; two_bytes = omega arith; bit_each = λ l. omega (arith, leb-true n 8 e) }
    go false e = record { some_byte = omega arith; two_bytes = omega arith; bit_each = λ l. omega arith }

pub order_wide : (n : ℕ) → 1 ≤ order_width n
order_wide n = (wide n).some_byte

pub order_two : (n : ℕ) → order_width n ≤ 2
order_two n = (wide n).two_bytes

pub order_single : (n : ℕ) → n ≤ 8 → order_width n ≡ 1
unfolding order_width
order_single n l = rw (le-leb n 8 l)

-- a byte at least for each stall
pub orders_long : (n : ℕ) → n ≤ n * order_width n
orders_long n = omega (arith, mul-le-mul {n₁ = n} {m₁ = 1} {n₂ = n} {m₂ = order_width n} (omega arith) (order_wide n))

-- and two at most
pub orders_short : (n : ℕ) → n * order_width n ≤ n * 2
orders_short n = mul-le-mul {n₁ = n} {m₁ = order_width n} {n₂ = n} {m₂ = 2} (omega arith) (order_two n)

-- the length of an image, by its places
pub length_is : (n : ℕ) → 2 ≤ n → n ≤ largest → length_of n ≡ image_length n
length_is n a b = rw (le-leb 2 n a, le-leb n largest b) (omega (arith, add-mul 2 (order_width n) n, mul_comm (order_width n) n))

-- A number of so many bytes, high first

length_number : (width x : ℕ) → length (number_bytes width x) ≡ width
unfolding number_bytes
length_number zero x = refl
length_number (suc zero) x = refl
length_number (suc (suc width)) x =
    length-append (number_bytes (suc width) (x / 256)) (x % 256 ∷ []) ∙ omega (arith, length_number (suc width) (x / 256))

number_back : {s : List ℕ} {at : ℕ} (width x : ℕ) → Has s at (number_bytes (suc width) x) → number_at s at (suc width) ≡ x
unfolding number_at number_bytes
number_back {s} {at} zero x h = let e : at + 0 ≡ at = omega arith in omega (arith, ap (λ k. get_or s k 0) e, has_first h (omega arith))
number_back {s} {at} (suc width) x h =
    let front = number_bytes (suc width) (x / 256) in
    let last = has_first (has_right front (x % 256 ∷ []) h) (omega arith) in
    let e : at + length front ≡ at + suc width = omega (arith, length_number (suc width) (x / 256)) in
    ap₂ (λ a b. a * 256 + b) (number_back width (x / 256) (has_left front (x % 256 ∷ []) h)) (ap (λ k. get_or s k 0) (sym e) ∙ last)
    ∙ omega arith

number_lt : (s : List ℕ) (at width : ℕ) → ((k : ℕ) → get_or s k 0 < 256) → number_at s at width < 2 ^ (8 * width)
unfolding number_at
number_lt s at zero bytes = omega arith
number_lt s at (suc width) bytes =
    let e : 8 * suc width ≡ 8 * width + 8 = omega arith in
    rw (e, pow-add 2 (8 * width) 8) (omega (arith, number_lt s at width bytes, bytes (at + width)))

number_has : (s : List ℕ) (at width : ℕ) → at + suc width ≤ length s → ((k : ℕ) → get_or s k 0 < 256) → Has s at (number_bytes (suc width) (number_at s at (suc width)))
unfolding number_at number_bytes
number_has s at zero l bytes = has_one _ (omega arith) (let e : at + 0 ≡ at = omega arith in omega (arith, ap (λ k. get_or s k 0) e))
number_has s at (suc width) l bytes =
    let high = number_at s at (suc width) in
    let low = get_or s (at + suc width) 0 in
    let d : (high * 256 + low) / 256 ≡ high = omega (arith, bytes (at + suc width)) in
    let m : (high * 256 + low) % 256 ≡ low = omega (arith, bytes (at + suc width)) in
    rw (d, m) (has_both (number_has s at width (omega arith) bytes)
    (has_place (ap (λ k. at + k) (sym (length_number (suc width) high))) (has_one low (omega arith) refl)))

number_zeros : (width : ℕ) → replicate (suc width) 0 ≡ number_bytes (suc width) 0
unfolding number_bytes
number_zeros zero = refl
number_zeros (suc width) =
    let e : suc (suc width) ≡ suc width + 1 = omega arith in
    ap (λ k. replicate {A = ℕ} k 0) e ∙ sym (replicate-append-replicate (suc width) 1 0) ∙ ap (λ l. l ++ (0 ∷ [])) (number_zeros width)

number_same : (s u : List ℕ) (at width : ℕ) → ((k : ℕ) → at ≤ k → get_or u k 0 ≡ get_or s k 0) → number_at u at width ≡ number_at s at width
unfolding number_at
number_same s u at zero same = refl
number_same s u at (suc width) same = ap₂ (λ a b. a * 256 + b) (number_same s u at width same) (same (at + width) (omega arith))

-- What its bytes say

-- a width is that of some byte and those before it
last_of : {width : ℕ} → 1 ≤ width → suc (width - 1) ≡ width
last_of l = omega arith

pub length_order : (n x : ℕ) → length (order_bytes n x) ≡ order_width n
unfolding order_bytes
length_order n x = length_number (order_width n) x

pub order_back : {s : List ℕ} {at : ℕ} (n x : ℕ) → Has s at (order_bytes n x) → order_from s n at ≡ x
unfolding order_bytes order_from
order_back {s} {at} n x h =
    let e = last_of (order_wide n) in
    ap (number_at s at) (sym e) ∙ number_back (order_width n - 1) x (rw e h)

pub order_bound : (s : List ℕ) (n at : ℕ) → ((k : ℕ) → get_or s k 0 < 256) → order_from s n at < 2 ^ largest
unfolding order_from
order_bound s n at bytes = omega (arith, number_lt s at (order_width n) bytes, pow_mono {i = 8 * order_width n} {j = largest} (omega (arith, order_two n)))

-- and they are those of the number that they say
pub order_has : (s : List ℕ) (n at : ℕ) → at + order_width n ≤ length s → ((k : ℕ) → get_or s k 0 < 256) → Has s at (order_bytes n (order_from s n at))
unfolding order_from order_bytes
order_has s n at l bytes = rw (← last_of (order_wide n)) (number_has s at (order_width n - 1) (omega (arith, order_wide n)) bytes)

-- the entry of a stall with no marks is zeros
pub order_zeros : (n : ℕ) → replicate (order_width n) 0 ≡ order_bytes n 0
unfolding order_bytes
order_zeros n = rw (← last_of (order_wide n)) (number_zeros (order_width n - 1))

-- only the bytes from its place on count
pub entry_same : (s u : List ℕ) (n at : ℕ) → ((k : ℕ) → at ≤ k → get_or u k 0 ≡ get_or s k 0) → order_from u n at ≡ order_from s n at
unfolding order_from
entry_same s u n at same = number_same s u at (order_width n) same

-- one byte, or two
pub bytes_one : (n x : ℕ) → order_width n ≡ 1 → order_bytes n x ≡ x ∷ []
unfolding order_bytes number_bytes
bytes_one n x e = ap (λ width. number_bytes width x) e

pub bytes_two : (n x : ℕ) → order_width n ≡ 2 → order_bytes n x ≡ word_bytes x
unfolding order_bytes number_bytes
bytes_two n x e = ap (λ width. number_bytes width x) e

-- A set of 1 to n, written

order_fits : (n x : ℕ) → n ≤ largest → x < 2 ^ n → x % 2 ^ (8 * order_width n) ≡ x
order_fits n x a b = mod-eq_of_lt (omega (arith, pow_mono {i = n} {j = 8 * order_width n} ((wide n).bit_each a)))

pub order_put : (s : List ℕ) (n at x : ℕ) → at + order_width n ≤ length s → n ≤ largest → x < 2 ^ n
    → sets s at (order_bytes n (x % 2 ^ (8 * order_width n))) ≡ take at s ++ order_bytes n x ++ drop (at + order_width n) s
order_put s n at x l a b =
    ap (λ y. sets s at (order_bytes n y)) (order_fits n x a b)
    ∙ sets-eq (order_bytes n x) s at (omega (arith, length_order n x))
    ∙ ap (λ k. take at s ++ order_bytes n x ++ drop (at + k) s) (length_order n x)

-- Where it stands

pub order_next : (n r : ℕ) → 1 ≤ r → order_place n (r + 1) ≡ order_place n r + order_width n
order_next n r l = let a : r + 1 - 1 ≡ r = omega arith in rw a (omega (arith, times_step r (order_width n) l))

pub order_within : {n r : ℕ} → 1 ≤ r → r ≤ n → order_place n r + order_width n ≤ image_length n
order_within {n} {r} a b = omega (arith, times_step r (order_width n) a, mul-le-mul_right (order_width n) b)

-- the entry behind r others, where the code has m for n
pub entry_within : (n m r : ℕ) {long at : ℕ} → long ≡ image_length n → m ≡ n → at ≡ order_place n (r + 1) → r < m → at + order_width m ≤ long
entry_within n m r e i a l = omega (arith, ap order_width i, order_within {n = n} {r = r + 1} (omega arith) (omega arith))

pub entry_next : (n m r : ℕ) {width at : ℕ} → m ≡ n → width ≡ order_width m → at ≡ order_place n (r + 1) → at + width ≡ order_place n (r + 1 + 1)
entry_next n m r i w a = omega (arith, ap order_width i, order_next n (r + 1) (omega arith))
