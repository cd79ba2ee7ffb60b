-- What bytes stand in a list from a place on: of lists put together, and of blocks of one width.
use Prim.Native.Nat.{ℕ, zero, suc, ◌+◌, ◌-◌, ◌*◌, ◌≤◌, ◌<◌}
use mathlib.Core.Path.{◌≡◌, refl, sym, ap, subst, ◌∙◌}
use mathlib.Core.List.{List, [], ◌∷◌, ◌++◌, flat_map, append_assoc}
use native.Mathlib.Omega.{arith}
use native.Mathlib.Decide.{dec_le, dec_lt}
use lib.ListN.{length, get_or, take, drop, length-drop, length-append, get_or-append}
use lib.Seq.{length-take-le, get_or-take, get_or-drop, get_or-append-add, ext_get_or}
use Rattle.image.specs.Stalls.{each}

-- the bytes l stand in s from place i on
pub record Has (s : List ℕ) (i : ℕ) (l : List ℕ) : Type 0 where
  pub fits : i + length l ≤ length s
  pub byte : (k : ℕ) → k < length l → get_or s (i + k) 0 ≡ get_or l k 0

pub has_place : {s l : List ℕ} {i j : ℕ} → i ≡ j → Has s i l → Has s j l
has_place {s} {l} e h = subst (λ k. Has s k l) e h

-- a list has itself, and of the lists of its length no other
pub has_self : (s : List ℕ) → Has s 0 s
has_self s =
    record { fits = omega arith; byte = λ k l. let e : 0 + k ≡ k = omega arith in ap (λ j. get_or s j 0) e }

pub has_whole : {s l : List ℕ} → Has s 0 l → length l ≡ length s → l ≡ s
has_whole {s} {l} h e =
    ext_get_or 0 l s e (λ k p. let i : 0 + k ≡ k = omega arith in sym (h.byte k p) ∙ ap (λ j. get_or s j 0) i)

-- the first byte, and lists of one and of two
pub has_first : {s l : List ℕ} {i : ℕ} → Has s i l → 0 < length l → get_or s i 0 ≡ get_or l 0 0
has_first {s} {i = i} h p = let e : i ≡ i + 0 = omega arith in ap (λ j. get_or s j 0) e ∙ h.byte 0 p

pub has_one : {s : List ℕ} {i : ℕ} (a : ℕ) → i < length s → get_or s i 0 ≡ a → Has s i (a ∷ [])
has_one {s} {i} a l e = record { fits = omega arith; byte = go }
  where
    go : (k : ℕ) → k < 1 → get_or s (i + k) 0 ≡ get_or (a ∷ []) k 0
    go zero p = let d : i + 0 ≡ i = omega arith in ap (λ j. get_or s j 0) d ∙ e
    go (suc k) p = absurd (omega arith)

-- lists put together
pub has_left : {s : List ℕ} {i : ℕ} (a b : List ℕ) → Has s i (a ++ b) → Has s i a
has_left a b h =
    record {
      fits = omega (arith, length-append a b, h.fits);
      byte = λ k l. h.byte k (omega (arith, length-append a b)) ∙ get_or-append a b 0 k l;
    }

pub has_right : {s : List ℕ} {i : ℕ} (a b : List ℕ) → Has s i (a ++ b) → Has s (i + length a) b
has_right {s} {i} a b h =
    record {
      fits = omega (arith, length-append a b, h.fits);
      byte = λ k l.
          let e : i + length a + k ≡ i + (length a + k) = omega arith in
          ap (λ j. get_or s j 0) e ∙ h.byte (length a + k) (omega (arith, length-append a b)) ∙ get_or-append-add a b k 0;
    }

pub has_both : {s a b : List ℕ} {i : ℕ} → Has s i a → Has s (i + length a) b → Has s i (a ++ b)
has_both {s} {a} {b} {i} h g = record { fits = omega (arith, length-append a b, g.fits); byte = go }
  where
    go : (k : ℕ) → k < length (a ++ b) → get_or s (i + k) 0 ≡ get_or (a ++ b) k 0
    go k l =
        elim (dec_lt k (length a)) [
          | yes p ↦ h.byte k p ∙ sym (get_or-append a b 0 k p)
          | no p ↦
              let m = k - length a in
              let d : length a + m ≡ k = omega arith in
              let e : i + k ≡ i + length a + m = omega arith in
              ap (λ j. get_or s j 0) e ∙ g.byte m (omega (arith, length-append a b))
              ∙ sym (get_or-append-add a b m 0) ∙ ap (λ j. get_or (a ++ b) j 0) d
        ]

pub has_two : {s : List ℕ} {i : ℕ} (a b : ℕ) → i + 1 < length s → get_or s i 0 ≡ a → get_or s (i + 1) 0 ≡ b → Has s i (a ∷ b ∷ [])
has_two a b l d e = has_both (has_one a (omega arith) d) (has_one b l e)

-- bytes that stand in a list are that part of it
pub has_part : {s l : List ℕ} {i : ℕ} → Has s i l → take (length l) (drop i s) ≡ l
has_part {s} {l} {i} h =
    let long = length-take-le (length l) (drop i s) (omega (arith, h.fits, length-drop i s)) in
    ext_get_or 0 (take (length l) (drop i s)) l long
    (λ k a.
    let b : k < length l = omega (arith, long) in
    get_or-take (length l) (drop i s) k 0 b ∙ get_or-drop i s k 0 ∙ h.byte k b)

-- blocks one after the other
pub flat_map_append : {A : Type 0} (f : A → List ℕ) (l m : List A) → flat_map f (l ++ m) ≡ flat_map f l ++ flat_map f m
unfolding flat_map
flat_map_append f [] m = refl
flat_map_append f (a ∷ l) m = ap (λ r. f a ++ r) (flat_map_append f l m) ∙ sym (append_assoc (f a) (flat_map f l) (flat_map f m))

-- blocks of one width
pub length_flat_map : {A : Type 0} (w : ℕ) (f : A → List ℕ) → ((r : A) → length (f r) ≡ w) → (l : List A) → length (flat_map f l) ≡ length l * w
unfolding flat_map
length_flat_map w f wide [] = omega arith
length_flat_map w f wide (a ∷ l) = length-append (f a) (flat_map f l) ∙ omega (arith, length_flat_map w f wide l, wide a)

-- the first k blocks have one width
pub length_each_to : (w : ℕ) (f : ℕ → List ℕ) (k : ℕ) → ((r : ℕ) → 1 ≤ r → r ≤ k → length (f r) ≡ w) → length (each k f) ≡ k * w
unfolding each
length_each_to w f zero g = omega arith
length_each_to w f (suc k) g =
    length-append (each k f) (f (suc k)) ∙ omega (arith, length_each_to w f k (λ r a b. g r a (omega arith)), g (suc k) (omega arith) (omega arith))

module _ (w : ℕ) (f : ℕ → List ℕ) (wide : (r : ℕ) → length (f r) ≡ w) where
  pub length_each : (n : ℕ) → length (each n f) ≡ n * w
  length_each n = length_each_to w f n (λ r a b. wide r)

  place_last : (i n : ℕ) → i + length (each n f) ≡ i + (suc n - 1) * w
  place_last i n = let e : suc n - 1 ≡ n = omega arith in rw (e, length_each n)

  pub has_each : {s : List ℕ} {i : ℕ} (n : ℕ) → Has s i (each n f) → (r : ℕ) → 1 ≤ r → r ≤ n → Has s (i + (r - 1) * w) (f r)
  unfolding each
  has_each zero h r a b = absurd (omega arith)
  has_each {s} {i} (suc n) h r a b =
      elim (dec_le r n) [
        | yes l ↦ has_each n (has_left (each n f) (f (suc n)) h) r a l
        | no l ↦
            let e : suc n ≡ r = omega arith in
            subst (λ k. Has s (i + (k - 1) * w) (f k)) e (has_place (place_last i n) (has_right (each n f) (f (suc n)) h))
      ]

  pub each_has : {s : List ℕ} {i : ℕ} (n : ℕ) → i ≤ length s → ((r : ℕ) → 1 ≤ r → r ≤ n → Has s (i + (r - 1) * w) (f r)) → Has s i (each n f)
  unfolding each
  each_has zero l g = record { fits = omega arith; byte = λ k p. absurd (omega arith) }
  each_has {i = i} (suc n) l g =
      has_both (each_has n l (λ r a b. g r a (omega arith)))
      (has_place (sym (place_last i n)) (g (suc n) (omega arith) (omega arith)))

-- a byte for each of n stalls, read back
pub each_byte : (n : ℕ) (f : ℕ → ℕ) (r : ℕ) → 1 ≤ r → r ≤ n → get_or (each n (λ r. f r ∷ [])) (r - 1) 0 ≡ f r
each_byte n f r i j =
    let at : r - 1 ≡ 0 + (r - 1) * 1 = omega arith in
    ap (λ k. get_or (each n (λ r. f r ∷ [])) k 0) at ∙ has_first (has_each 1 (λ r. f r ∷ []) (λ r. refl) n (has_self _) r i j) (omega arith)
