-- Laws of lanes: what sums, `&`, `|`, `^`, tests for 0 and for equality do to each lane by itself.
use Prim.Native.Nat.{ℕ, zero, suc, ◌+◌, ◌-◌, ◌*◌, ◌/◌, ◌%◌, ◌^◌, ◌≤◌, ◌<◌}
use mathlib.Core.Path.{◌≡◌, refl, sym, ap, ap₂, subst, ◌∙◌}
use mathlib.Core.Bool.{Bool, true, false, ◌||◌, not, cond, or_assoc, or_comm, not-not, true≢false}
use native.Mathlib.Omega.{arith}
use native.Mathlib.Nat.{add-mul, mul-add, mul_assoc, mul-le-mul_right, div-div-eq-div-mul, mod-lt, zero-div, zero-mod}
use native.Mathlib.Decide.{ℕ_discrete}
use borrow.Author.Tests.{eq-eqb, ne_eqb, eqb-true, not-false}
use lib.Bits.{bit_and, bit_or, bit_xor, or_add_and, and_le_l, and_le_r, and_shr, and_mod, or_shr, or_mod, xor_shr, xor_mod, or_shifted_r, xor_add_and, xor_self}
use lib.Dec.{eqb}
use lib.Pow.{pow_pos, pow-add, high, low, split, shr_lt, shl_exact, field, mod-mod-pow}
use Rattle.image.specs.Stalls.{some}
use Rattle.image.specs.Lanes.{lanes, lane, pairs}
use Rattle.image.proofs.Search.{some_agree, some_suc}
use Rattle.image.proofs.Bits.{Found, at, nowhere, some_found}

-- every one of the first k lanes has room in its width
pub record Fits (width k : ℕ) (f : ℕ → ℕ) : Type 0 where
  pub below : (i : ℕ) → i < k → f i < 2 ^ width

fits_next : {width k : ℕ} {f : ℕ → ℕ} → Fits width (suc k) f → Fits width k (λ i. f (suc i))
fits_next l = record { below = λ i p. l.below (suc i) (omega arith) }

-- the same lanes, the same number
pub lanes_agree : (width k : ℕ) (f g : ℕ → ℕ) → ((i : ℕ) → i < k → f i ≡ g i) → lanes width k f ≡ lanes width k g
unfolding lanes
lanes_agree width zero f g e = refl
lanes_agree width (suc k) f g e =
    ap₂ (λ a r. a * 2 ^ width + r) (lanes_agree width k _ _ (λ i l. e (suc i) (omega arith))) (e 0 (omega arith))

pub lanes_lt : (width k : ℕ) (f : ℕ → ℕ) → Fits width k f → lanes width k f < 2 ^ (width * k)
unfolding lanes
lanes_lt width zero f l = pow_pos (width * 0)
lanes_lt width (suc k) f l =
    let e : width * suc k ≡ width * k + width = omega arith in
    let a : suc (lanes width k (λ i. f (suc i))) ≤ 2 ^ (width * k) = lanes_lt width k (λ i. f (suc i)) (fits_next l) in
    let m = mul-le-mul_right (2 ^ width) a in
    rw (e, pow-add 2 (width * k) width) (omega (arith, m, l.below 0 (omega arith)))

-- sums and multiples
pub lanes_add : (width k : ℕ) (f g : ℕ → ℕ) → lanes width k f + lanes width k g ≡ lanes width k (λ i. f i + g i)
unfolding lanes
lanes_add width zero f g = refl
lanes_add width (suc k) f g =
    let e = lanes_add width k (λ i. f (suc i)) (λ i. g (suc i)) in
    let d = add-mul (lanes width k (λ i. f (suc i))) (lanes width k (λ i. g (suc i))) (2 ^ width) in
    rw (← e) (omega (arith, d))

pub lanes_times : (width k m : ℕ) (f : ℕ → ℕ) → m * lanes width k f ≡ lanes width k (λ i. m * f i)
unfolding lanes
lanes_times width zero m f = omega arith
lanes_times width (suc k) m f =
    mul-add m (lanes width k (λ i. f (suc i)) * 2 ^ width) (f 0)
    ∙ ap (λ x. x + m * f 0) (sym (mul_assoc m (lanes width k (λ i. f (suc i))) (2 ^ width)) ∙ ap (λ x. x * 2 ^ width) (lanes_times width k m (λ i. f (suc i))))

-- Tests

-- one of two numbers is not 0
pub or_test : (a b : ℕ) → not (eqb (bit_or a b) 0) ≡ (not (eqb a 0) || not (eqb b 0))
or_test zero zero = refl
or_test (suc a) b = rw (ne_eqb (bit_or (suc a) b) 0 (λ e. omega (arith, or_add_and (suc a) b, and_le_r (suc a) b)), ne_eqb (suc a) 0 (λ e. omega arith)) refl
or_test zero (suc b) = ap not (ne_eqb (bit_or 0 (suc b)) 0 (λ e. omega (arith, or_add_and 0 (suc b), and_le_l 0 (suc b))) ∙ sym (ne_eqb (suc b) 0 (λ e. omega arith)))

-- two numbers are not the same
xor_zero : (a b : ℕ) → bit_xor a b ≡ 0 → a ≡ b
xor_zero a b e = omega (arith, xor_add_and a b, and_le_l a b, and_le_r a b)

pub xor_none : (a b : ℕ) → eqb (bit_xor a b) 0 ≡ eqb a b
xor_none a b = elim (ℕ_discrete a b) [
  | yes e ↦ rw e (eq-eqb (bit_xor b b) 0 (xor_self b) ∙ sym (eq-eqb b b refl))
  | no f ↦ ne_eqb (bit_xor a b) 0 (λ e. f (xor_zero a b e)) ∙ sym (ne_eqb a b f)
]

pub xor_differ : (a b : ℕ) → not (eqb (bit_xor a b) 0) ≡ not (eqb a b)
xor_differ a b = ap not (xor_none a b)

-- The lanes of a number

pub lane_first : (width x : ℕ) → lane width x 0 ≡ x % 2 ^ width
unfolding lane
lane_first width x = let e : width * 0 ≡ 0 = omega arith in rw e (let d : x / 1 ≡ x = omega arith in ap (λ y. y % 2 ^ width) d)

pub lane_next : (width x i : ℕ) → lane width x (suc i) ≡ lane width (x / 2 ^ width) i
unfolding lane
lane_next width x i =
    let e : width * suc i ≡ width + width * i = omega arith in
    rw (e, pow-add 2 width (width * i)) (ap (λ y. y % 2 ^ width) (sym (div-div-eq-div-mul x (2 ^ width) (2 ^ (width * i)))))

pub lane_of : (width k : ℕ) (f : ℕ → ℕ) → Fits width k f → (i : ℕ) → i < k → lane width (lanes width k f) i ≡ f i
unfolding lanes
lane_of width zero f l i p = absurd (omega arith)
lane_of width (suc k) f l zero p = lane_first width _ ∙ low (lanes width k (λ i. f (suc i))) width (l.below 0 (omega arith))
lane_of width (suc k) f l (suc i) p =
    lane_next width _ i ∙ ap (λ x. lane width x i) (high (lanes width k (λ i. f (suc i))) width (l.below 0 (omega arith)))
    ∙ lane_of width k (λ i. f (suc i)) (fits_next l) i (omega arith)

pub lane_lt : (width x i : ℕ) → lane width x i < 2 ^ width
unfolding lane
lane_lt width x i = mod-lt (x / 2 ^ (width * i)) (pow_pos width)

pub lanes_fit : (width k x : ℕ) → Fits width k (lane width x)
lanes_fit width k x = record { below = λ i l. lane_lt width x i }

pub lanes_of : (width k x : ℕ) → x < 2 ^ (width * k) → x ≡ lanes width k (lane width x)
unfolding lanes
lanes_of width zero x l =
    let e : width * 0 ≡ 0 = omega arith in
    let b : x < 1 = subst (λ j. x < 2 ^ j) e l in
    omega arith
lanes_of width (suc k) x l =
    let e : width * suc k ≡ width * k + width = omega arith in
    let b : x / 2 ^ width < 2 ^ (width * k) = shr_lt (width * k) width (rw e at l) in
    sym (split x width)
    ∙ ap₂ (λ a r. a * 2 ^ width + r) (lanes_of width k (x / 2 ^ width) b ∙ lanes_agree width k _ _ (λ i p. sym (lane_next width x i))) (sym (lane_first width x))

-- what two numbers have in common, or together, a lane at a time
pub lane_and : (width a b i : ℕ) → lane width (bit_and a b) i ≡ bit_and (lane width a i) (lane width b i)
unfolding lane
lane_and width a b i = ap (λ x. x % 2 ^ width) (and_shr a b (width * i)) ∙ and_mod _ _ width

pub lane_or : (width a b i : ℕ) → lane width (bit_or a b) i ≡ bit_or (lane width a i) (lane width b i)
unfolding lane
lane_or width a b i = ap (λ x. x % 2 ^ width) (or_shr a b (width * i)) ∙ or_mod _ _ width

pub lane_xor : (width a b i : ℕ) → lane width (bit_xor a b) i ≡ bit_xor (lane width a i) (lane width b i)
unfolding lane
lane_xor width a b i = ap (λ x. x % 2 ^ width) (xor_shr a b (width * i)) ∙ xor_mod _ _ width

-- the first m lanes of a number, cut off behind them
pub lane_within : (width m x i : ℕ) → i < m → lane width (x % 2 ^ (width * m)) i ≡ lane width x i
lane_within width zero x i l = absurd (omega arith)
lane_within width (suc m) x zero l =
    let e : width * suc m ≡ width * m + width = omega arith in
    lane_first width _ ∙ ap (λ j. x % 2 ^ j % 2 ^ width) e ∙ mod-mod-pow x (width * m) width ∙ sym (lane_first width x)
lane_within width (suc m) x (suc i) l =
    let e : width * suc m ≡ width * m + width = omega arith in
    lane_next width _ i ∙ ap (λ j. lane width (x % 2 ^ j / 2 ^ width) i) e ∙ ap (λ y. lane width y i) (field x (width * m) width)
    ∙ lane_within width m (x / 2 ^ width) i (omega arith) ∙ sym (lane_next width x i)

pub lane_none : (width i : ℕ) → lane width 0 i ≡ 0
unfolding lane
lane_none width i = rw (zero-div (2 ^ (width * i))) (zero-mod (2 ^ width))

pub lane_behind : (width m x i : ℕ) → m ≤ i → lane width (x % 2 ^ (width * m)) i ≡ 0
lane_behind width zero x i l =
    let e : width * 0 ≡ 0 = omega arith in
    let d : x % 1 ≡ 0 = omega arith in
    ap (λ j. lane width (x % 2 ^ j) i) e ∙ ap (λ y. lane width y i) d ∙ lane_none width i
lane_behind width (suc m) x zero l = absurd (omega arith)
lane_behind width (suc m) x (suc i) l =
    let e : width * suc m ≡ width * m + width = omega arith in
    lane_next width _ i ∙ ap (λ j. lane width (x % 2 ^ j / 2 ^ width) i) e ∙ ap (λ y. lane width y i) (field x (width * m) width)
    ∙ lane_behind width m (x / 2 ^ width) i (omega arith)

-- some lane of one number is not that of the other
pub lanes_same : (width k : ℕ) (f g : ℕ → ℕ) → Fits width k f → Fits width k g
    → eqb (lanes width k f) (lanes width k g) ≡ not (some k (λ j. not (eqb (f (j - 1)) (g (j - 1)))))
lanes_same width k f g a b = go (some k differs) (some_found k differs)
  where
    differs : ℕ → Bool
    differs j = not (eqb (f (j - 1)) (g (j - 1)))

    go : (t : Bool) → Found k differs t → eqb (lanes width k f) (lanes width k g) ≡ not t
    go t (at s p q e) =
        ne_eqb _ _ (λ i. true≢false (sym e ∙ ap not (eq-eqb (f (s - 1)) (g (s - 1)) (sym (lane_of width k f a (s - 1) (omega arith)) ∙ ap (λ x. lane width x (s - 1)) i ∙ lane_of width k g b (s - 1) (omega arith)))))
    go t (nowhere h) =
        eq-eqb _ _ (lanes_agree width k f g (λ i l. let e : suc i - 1 ≡ i = omega arith in eqb-true (f i) (g i) (not-false _ (ap (λ j. not (eqb (f j) (g j))) (sym e) ∙ h (suc i) (omega arith) (omega arith)))))

-- Sums, differences and tests of two numbers of k lanes, by their lanes

module _ (width k a b : ℕ) (a_in : a < 2 ^ (width * k)) (b_in : b < 2 ^ (width * k)) where
  -- where no lane of the sum is too large for its width
  module _ (room : (i : ℕ) → i < k → lane width a i + lane width b i < 2 ^ width) where
    sum_is : a + b ≡ lanes width k (λ i. lane width a i + lane width b i)
    sum_is = ap₂ ◌+◌ (lanes_of width k a a_in) (lanes_of width k b b_in) ∙ lanes_add width k (lane width a) (lane width b)

    pub lane_add : (i : ℕ) → i < k → lane width (a + b) i ≡ lane width a i + lane width b i
    lane_add i l = ap (λ x. lane width x i) sum_is ∙ lane_of width k (λ i. lane width a i + lane width b i) (record { below = room }) i l

    pub sum_lt : a + b < 2 ^ (width * k)
    sum_lt = rw sum_is (lanes_lt width k (λ i. lane width a i + lane width b i) (record { below = room }))

  -- where each lane is at least the other's
  module _ (more : (i : ℕ) → i < k → lane width b i ≤ lane width a i) where
    difference : ℕ → ℕ
    difference i = lane width a i - lane width b i

    difference_is : lanes width k difference + b ≡ a
    unfolding difference
    difference_is =
        ap (λ x. lanes width k difference + x) (lanes_of width k b b_in)
        ∙ lanes_add width k difference (lane width b)
        ∙ lanes_agree width k (λ i. difference i + lane width b i) (lane width a) (λ i l. omega (arith, more i l))
        ∙ sym (lanes_of width k a a_in)

    pub lane_sub : (i : ℕ) → i < k → lane width (a - b) i ≡ lane width a i - lane width b i
    unfolding difference
    lane_sub i l =
        let e : a - b ≡ lanes width k difference = omega (arith, difference_is) in
        ap (λ x. lane width x i) e ∙ lane_of width k difference (record { below = λ j p. omega (arith, lane_lt width a j) }) i l

    pub sub_le : b ≤ a
    sub_le = omega (arith, difference_is)

  -- another number, exactly where some lane differs
  pub lane_differ : (f g : ℕ → ℕ) → ((i : ℕ) → i < k → lane width a i ≡ f i) → ((i : ℕ) → i < k → lane width b i ≡ g i)
      → not (eqb a b) ≡ some k (λ j. not (eqb (f (j - 1)) (g (j - 1))))
  lane_differ f g p q =
      ap not (ap₂ eqb (lanes_of width k a a_in) (lanes_of width k b b_in) ∙ lanes_same width k (lane width a) (lane width b) (lanes_fit width k a) (lanes_fit width k b))
      ∙ not-not (some k (λ j. not (eqb (lane width a (j - 1)) (lane width b (j - 1)))))
      ∙ some_agree k (λ j. not (eqb (lane width a (j - 1)) (lane width b (j - 1)))) (λ j. not (eqb (f (j - 1)) (g (j - 1))))
      (λ j l m. ap₂ (λ x y. not (eqb x y)) (p (j - 1) (omega arith)) (q (j - 1) (omega arith)))

-- a number is not 0 exactly where some lane is not
pub lane_test : (width k x : ℕ) → x < 2 ^ (width * k) → not (eqb x 0) ≡ some k (λ j. not (eqb (lane width x (j - 1)) 0))
lane_test width k x l = lane_differ width k x 0 l (pow_pos (width * k)) (lane width x) (λ i. 0) (λ i p. refl) (λ i p. lane_none width i)

-- The same number in each lane

-- in two, by a shift
pub twice : (width x : ℕ) → x < 2 ^ width → width + width ≤ 64 → bit_or x ((x * 2 ^ width) % 2 ^ 64) ≡ x * 2 ^ width + x
twice width x l m = ap (bit_or x) (shl_exact width width 64 l m) ∙ or_shifted_r x width x l

module _ (width k x : ℕ) (x_in : x < 2 ^ width) where
  same_fit : Fits width k (λ i. x)
  same_fit = record { below = λ i l. x_in }

  pub same_lt : lanes width k (λ i. x) < 2 ^ (width * k)
  same_lt = lanes_lt width k (λ i. x) same_fit

  pub same_lane : (i : ℕ) → i < k → lane width (lanes width k (λ j. x)) i ≡ x
  same_lane = lane_of width k (λ i. x) same_fit

-- words with the seven lower bits of each byte, and with the eighth
pub sevens_lane : (i : ℕ) → i < 8 → lane 8 0x7f7f7f7f7f7f7f7f i ≡ 127
unfolding lanes
sevens_lane = same_lane 8 8 127 (omega arith)

pub eighths_lane : (i : ℕ) → i < 8 → lane 8 0x8080808080808080 i ≡ 128
unfolding lanes
eighths_lane = same_lane 8 8 128 (omega arith)

-- Pairs of bytes

cond_lt : (b : Bool) {x y m : ℕ} → x < m → y < m → cond b x y < m
cond_lt true p q = p
cond_lt false p q = q

module _ (f g : ℕ → ℕ) (f_in : (j : ℕ) → j < 4 → f j < 256) (g_in : (j : ℕ) → j < 4 → g j < 256) where
  of_pairs : ℕ → ℕ
  of_pairs i = cond (eqb (i % 2) 0) (f (i / 2)) (g (i / 2))

  pairs_fit : Fits 8 8 of_pairs
  unfolding of_pairs
  pairs_fit = record { below = λ i l. cond_lt (eqb (i % 2) 0) (f_in (i / 2) (omega arith)) (g_in (i / 2) (omega arith)) }

  pub pairs_lt : pairs f g < 2 ^ 64
  unfolding pairs of_pairs
  pairs_lt = lanes_lt 8 8 of_pairs pairs_fit

  -- a bound of all
  pub pair_lt : (m : ℕ) → ((j : ℕ) → j < 4 → f j < m) → ((j : ℕ) → j < 4 → g j < m) → (i : ℕ) → i < 8 → lane 8 (pairs f g) i < m
  unfolding pairs of_pairs
  pair_lt m a b i l = rw (lane_of 8 8 of_pairs pairs_fit i l) (cond_lt (eqb (i % 2) 0) (a (i / 2) (omega arith)) (b (i / 2) (omega arith)))

  pub pair_first : (s : ℕ) → 1 ≤ s → s ≤ 4 → lane 8 (pairs f g) (s * 2 - 2) ≡ f (s - 1)
  unfolding pairs of_pairs
  pair_first s a b =
      let i : (s * 2 - 2) % 2 ≡ 0 = omega arith in
      let j : (s * 2 - 2) / 2 ≡ s - 1 = omega arith in
      lane_of 8 8 of_pairs pairs_fit (s * 2 - 2) (omega arith)
      ∙ ap (λ t. cond t (f ((s * 2 - 2) / 2)) (g ((s * 2 - 2) / 2))) (eq-eqb ((s * 2 - 2) % 2) 0 i) ∙ ap f j

  pub pair_second : (s : ℕ) → 1 ≤ s → s ≤ 4 → lane 8 (pairs f g) (s * 2 - 1) ≡ g (s - 1)
  unfolding pairs of_pairs
  pair_second s a b =
      let i : (s * 2 - 1) % 2 ≡ 1 = omega arith in
      let j : (s * 2 - 1) / 2 ≡ s - 1 = omega arith in
      lane_of 8 8 of_pairs pairs_fit (s * 2 - 1) (omega arith)
      ∙ ap (λ t. cond t (f ((s * 2 - 1) / 2)) (g ((s * 2 - 1) / 2))) (ne_eqb ((s * 2 - 1) % 2) 0 (λ e. omega arith)) ∙ ap g j

-- some of 2 × k is one of k pairs
pub some_pairs : (k : ℕ) (f : ℕ → Bool) → some (k * 2) f ≡ some k (λ j. f (j * 2 - 1) || f (j * 2))
unfolding some
some_pairs zero f = refl
some_pairs (suc k) f =
    let e : suc k * 2 - 1 - 1 ≡ k * 2 = omega arith in
    some_suc f (suc k * 2) (omega arith)
    ∙ ap (λ b. f (suc k * 2) || b) (some_suc f (suc k * 2 - 1) (omega arith) ∙ ap (λ m. f (suc k * 2 - 1) || some m f) e)
    ∙ sym (or_assoc (f (suc k * 2)) (f (suc k * 2 - 1)) (some (k * 2) f))
    ∙ ap₂ ◌||◌ (or_comm (f (suc k * 2)) (f (suc k * 2 - 1))) (some_pairs k f)
