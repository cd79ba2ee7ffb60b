-- Rows, yields and order entries written into an image one after the other.
use Prim.Native.Nat.{ℕ, suc, ◌+◌, ◌-◌, ◌*◌, ◌^◌, ◌≤◌, ◌<◌}
use mathlib.Core.Path.{◌≡◌, refl, sym, ap, ap₂, ◌∙◌}
use mathlib.Core.List.{List, [], ◌++◌, append-nil}
use native.Mathlib.Omega.{arith}
use native.Mathlib.Nat.{mul-le-mul_right}
use lib.ListN.{length, get_or, take, drop, length-append, length-drop}
use lib.Seq.{length-take-le, drop-length}
use Rattle.std.proofs.lemmas.List.{get_or-take}
use Rattle.image.specs.Layout.{order_width, order_place, orders_place}
use Rattle.image.specs.Stalls.{each}
use Rattle.image.specs.Frame.{Sized}
use Rattle.image.specs.Encode.{order_bytes}
use Rattle.image.proofs.Has.{length_each}
use Rattle.image.proofs.Blocks.{blocks, written_next, blocks_end}
use Rattle.image.proofs.OrderEntry.{length_order, entry_within}
use Rattle.merge.specs.Body.{order_in, row_in}

-- blocks that leave the length as it was are as wide together as the room that they take
blocks_wide : (d x : List ℕ) (b w : ℕ) (f : ℕ → List ℕ) (k : ℕ) → b + k * w ≤ length d → x ≡ blocks d b w f k → length x ≡ length d → length (each k f) ≡ k * w
blocks_wide d x b w f k l e g =
    let h = sym g ∙ ap length (blocks_end d x b w f k k (omega arith) (omega arith) e) ∙ length-append (take b d ++ each k f) (drop (b + k * w) d) in
    omega (arith, h, length-append (take b d) (each k f), length-take-le b d (omega arith), length-drop (b + k * w) d)

-- the row behind c others
pub row_fits : (d : List ℕ) (n c at : ℕ) → Sized d n → c < n → at ≡ 4 + c * (n + n) → at + (n + n) ≤ length d
row_fits d n c at sized l stands = omega (arith, mul-le-mul_right (n + n) l, sized.long)

-- rows by value, written one after the other
pub rows_next : (d : List ℕ) (n : ℕ) (rows : List (List ℕ)) → Sized d n → (c at : ℕ) → c < n → at ≡ 4 + c * (n + n)
    → length (take (n + n) (get_or (take n rows) c [])) ≡ n + n
    → (x y : List ℕ) → x ≡ blocks d 4 (n + n) (row_in rows n) c → length x ≡ length d
    → y ≡ take at x ++ take (n + n) (get_or (take n rows) c []) ++ drop (at + length (take (n + n) (get_or (take n rows) c []))) x
    → (y ≡ blocks d 4 (n + n) (row_in rows n) (c + 1)) × (length y ≡ length d)
rows_next d n rows sized c at l stands long x y e g h =
    let fits = row_fits d n c at sized l stands in
    let i : n + n ≡ n * 2 = omega arith in
    let j : c ≡ suc c - 1 = omega arith in
    let the_row : take (n + n) (get_or (take n rows) c []) ≡ row_in rows n (suc c) =
    ap (take (n + n)) (get_or-take n rows c [] l) ∙ ap₂ (λ j k. take j (get_or rows k [])) i j in
    written_next d x y 4 (n + n) c at (row_in rows n) (blocks_wide d x 4 (n + n) (row_in rows n) c (omega (arith, fits)) e g) (sym (ap length the_row) ∙ long) fits stands e g
    (h ∙ ap (λ k. take at x ++ take (n + n) (get_or (take n rows) c []) ++ drop (at + k) x) long ∙ ap (λ r. take at x ++ r ++ drop (at + (n + n)) x) the_row)

-- an order entry by value fits its bytes
pub order_small : (n : ℕ) (orders : List ℕ) (c : ℕ) → ((r : ℕ) → 1 ≤ r → r ≤ n → get_or orders (r - 1) 0 < 2 ^ n) → c < n → get_or orders c 0 < 2 ^ n
order_small n orders c small l = let e : suc c - 1 ≡ c = omega arith in rw e at (small (suc c) (omega arith) l)

-- order entries by value, written one after the other
module _ (d : List ℕ) (n : ℕ) (orders : List ℕ) (sized : Sized d n) (c at : ℕ) (l : c < n) (stands : at ≡ order_place n (c + 1)) where
  pub orders_next : (x y : List ℕ) → x ≡ blocks d (orders_place n) (order_width n) (order_in orders n) c → length x ≡ length d
      → y ≡ take at x ++ order_bytes n (get_or orders c 0) ++ drop (at + order_width n) x
      → (y ≡ blocks d (orders_place n) (order_width n) (order_in orders n) (c + 1)) × (length y ≡ length d)
  orders_next x y e g h =
      let i : c ≡ suc c - 1 = omega arith in
      let j : c + 1 - 1 ≡ c = omega arith in
      let wide : (r : ℕ) → length (order_in orders n r) ≡ order_width n = λ r. length_order n (get_or orders (r - 1) 0) in
      written_next d x y (orders_place n) (order_width n) c at (order_in orders n) (length_each (order_width n) (order_in orders n) wide c) (wide (suc c))
      (entry_within n n c sized.long refl stands l) (stands ∙ ap (λ k. orders_place n + k * order_width n) j) e g
      (h ∙ ap (λ k. take at x ++ order_bytes n (get_or orders k 0) ++ drop (at + order_width n) x) i)

-- all of them, to the end of the image
pub orders_end : (d l : List ℕ) (n : ℕ) (orders : List ℕ) (c : ℕ) → Sized d n → c ≤ n → n ≤ c → l ≡ blocks d (orders_place n) (order_width n) (order_in orders n) c
    → l ≡ take (orders_place n) d ++ each n (order_in orders n)
orders_end d l n orders c sized a b e =
    let all = take (orders_place n) d ++ each n (order_in orders n) in
    blocks_end d l (orders_place n) (order_width n) (order_in orders n) c n a b e
    ∙ ap (λ t. all ++ t) (ap (λ j. drop j d) (sym sized.long) ∙ drop-length d)
    ∙ append-nil all
