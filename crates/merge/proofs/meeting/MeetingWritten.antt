-- Rows, yields and order entries by value: they may be written into the image of a head that met, and what it holds then.
use Prim.Native.Nat.{ℕ, ◌-◌, ◌*◌, ◌^◌, ◌≤◌, ◌<◌}
use mathlib.Core.Bool.{Bool}
use mathlib.Core.Path.{◌≡◌, refl, sym, ap, ◌∙◌}
use mathlib.Core.List.{List, [], ◌++◌, append_assoc}
use lib.ListN.{length, get_or, take, drop}
use lib.Seq.{length-take-le, drop-append_seam}
use Rattle.image.specs.Stalls.{each, bits}
use Rattle.image.specs.Encode.{order_bytes, table_of}
use Rattle.image.specs.Frame.{Sized, Framed}
use Rattle.image.proofs.Bits.{bits_lt}
use Rattle.merge.specs.Merged.{merged_order}
use Rattle.merge.specs.Orders.{Ordered}
use Rattle.merge.specs.Body.{body_row, body_yield, padded, order_in, row_in, image_after}
use Rattle.merge.proofs.Frames.{framed_sized}
use Rattle.merge.proofs.write.BodyWritten.{rows_in, yields_in}
use Rattle.merge.proofs.meeting.AfterMeeting.{orders_in}

pub may_write : (s u : List ℕ) (n p q : ℕ) (orders : List ℕ) → Ordered s u n p q orders → (m : ℕ) → m ≡ n
    → (d : List ℕ) (own : ℕ) → Framed d n own → Sized d m × ((r : ℕ) → 1 ≤ r → r ≤ m → get_or orders (r - 1) 0 < 2 ^ m)
may_write s u n p q orders orders_are m m_is d own f = rw m_is (framed_sized f refl, λ r i j. rw (orders_are.right r i j) (bits_lt n _))

pub was_written : (s u : List ℕ) (n p q k : ℕ) (t : ℕ → Bool) → Framed s n p → Framed u n q → (rows : List (List ℕ)) (yields : List ℕ)
    → ((r : ℕ) → 1 ≤ r → r ≤ n → get_or rows (r - 1) [] ≡ padded n (body_row s u n p q k t r)) → yields ≡ padded n (each n (body_yield s u n p q t))
    → (orders : List ℕ) → Ordered s u n p q orders → (m : ℕ) → m ≡ n
    → (d x : List ℕ) → x ≡ take 4 d ++ each m (row_in rows m) ++ take (m * 2) yields ++ each m (order_in orders m) → x ≡ image_after d s u n p q k t
was_written s u n p q k t a b rows yields rows_are yields_are orders orders_are m m_is d x e =
    e
    ∙ ap (λ j. take 4 d ++ each j (row_in rows j) ++ take (j * 2) yields ++ each j (order_in orders j)) m_is
    ∙ rw (rows_in s u n p q k t a b rows yields rows_are yields_are, yields_in s u n p q k t a b rows yields rows_are yields_are, orders_in s u n p q orders orders_are)

-- what stands behind the first four bytes of one image afterwards, in the other
pub copied : (d e s u : List ℕ) (n p q k : ℕ) (t : ℕ → Bool) (x y : List ℕ) → 4 ≤ length d → x ≡ image_after d s u n p q k t → y ≡ take 4 e ++ drop 4 x
    → y ≡ image_after e s u n p q k t
copied d e s u n p q k t x y l g h =
    let a = each n (body_row s u n p q k t) in
    let b = each n (body_yield s u n p q t) in
    let c = each n (λ r. order_bytes n (bits n (merged_order n p (table_of s n) q (table_of u n) r))) in
    let j : (f : List ℕ) → take 4 f ++ a ++ b ++ c ≡ take 4 f ++ (a ++ b ++ c) = λ f. ap (λ l. l ++ c) (append_assoc (take 4 f) a b) ∙ append_assoc (take 4 f) (a ++ b) c in
    let i : drop 4 (take 4 d ++ (a ++ b ++ c)) ≡ a ++ b ++ c = ap (λ m. drop m (take 4 d ++ (a ++ b ++ c))) (sym (length-take-le 4 d l)) ∙ drop-append_seam (take 4 d) (a ++ b ++ c) in
    h ∙ ap (λ l. take 4 e ++ drop 4 l) (g ∙ j d) ∙ ap (λ l. take 4 e ++ l) i ∙ sym (j e)
