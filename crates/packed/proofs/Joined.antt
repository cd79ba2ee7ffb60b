-- Header, rows and the rest of an image, written one after the other.
use Prim.Native.Nat.{ℕ, ◌+◌, ◌-◌, ◌*◌, ◌≤◌}
use mathlib.Core.Path.{◌≡◌, refl, sym, ap, ap₂, ◌∙◌}
use mathlib.Core.List.{List, ◌++◌, append-nil}
use native.Mathlib.Omega.{arith}
use lib.ListN.{length, take, drop, length-append, length-drop}
use lib.Seq.{paste, length-take-le, take_all, take_at, drop-length}
use Rattle.image.specs.Stalls.{each}
use Rattle.image.specs.Layout.{order_width, yields_place, yields_from}
use Rattle.image.specs.Frame.{Sized}
use Rattle.image.proofs.Has.{length_each}
use Rattle.image.proofs.Places.{yields_from_lem}
use Rattle.packed.specs.Form.{packed_yields_place, packed_image_length, unpacked_row, unpacked_of}
use Rattle.packed.specs.Bytes.{packed_row, packed_of}
use Rattle.packed.proofs.RowLoops.{packed_wide, unpacked_wide}

-- x has the header of s, y the rows behind it, and z the rest of s too
pub joined : (s d x y z rows : List ℕ) (at from rest : ℕ) → 4 ≤ length s → 4 + length rows ≡ at → length y ≡ at + rest → length s ≡ from + rest
    → x ≡ paste d 0 (drop 0 s) 4 → y ≡ take 4 x ++ rows ++ drop at x → z ≡ paste y at (drop from s) rest → z ≡ take 4 s ++ rows ++ drop from s
joined s d x y z rows at from rest a b long whole x_is y_is z_is =
    let four = length-take-le 4 s a in
    let front : List ℕ = take 4 s ++ rows in
    let start : take 4 x ≡ take 4 s = ap (take 4) x_is ∙ take_at (take 4 s) (drop 4 d) 4 four in
    let y_front : take at y ≡ front =
    ap (take at) (y_is ∙ ap (λ h. h ++ rows ++ drop at x) start) ∙ take_at front (drop at x) at (length-append (take 4 s) rows ∙ omega arith) in
    z_is
    ∙ ap₂ (λ f r. f ++ r ++ drop (at + rest) y) y_front (take_all rest (drop from s) (omega (arith, length-drop from s)))
    ∙ ap (λ e. front ++ drop from s ++ e) (ap (λ k. drop k y) (sym long) ∙ drop-length y)
    ∙ append-nil (front ++ drop from s)

-- yields and order entries have the same length in both forms
module _ (s d x y z : List ℕ) (n yields : ℕ) (same : length y ≡ length d) (x_is : x ≡ paste d 0 (drop 0 s) 4) where
  abbrev rest : ℕ
  rest = n * 2 + n * order_width n

  pub unpacked_joined : Sized d n → length s ≡ packed_image_length n → yields ≡ yields_from (length y) n
      → y ≡ take 4 x ++ each n (unpacked_row s n) ++ drop (yields_place n) x
      → z ≡ paste y yields (drop (length s - (length y - yields)) s) (length y - yields) → z ≡ unpacked_of n s
  unfolding unpacked_of
  unpacked_joined sized long is y_is z_is =
      let e = yields_from_lem (same ∙ sized.long) refl is in
      let i : length y - yields ≡ rest = omega (arith, sized.long) in
      let j : length s - (length y - yields) ≡ packed_yields_place n = omega arith in
      joined s d x y z (each n (unpacked_row s n)) (yields_place n) (packed_yields_place n) rest
      (omega arith) (omega (arith, length_each (n + n) (unpacked_row s n) (unpacked_wide s n) n)) (omega (arith, sized.long)) (omega arith)
      x_is y_is (z_is ∙ rw (j, i, e))

  pub packed_joined : Sized s n → length d ≡ packed_image_length n → yields ≡ yields_from (length s) n
      → y ≡ take 4 x ++ each n (packed_row s n) ++ drop (packed_yields_place n) x
      → z ≡ paste y (length y - (length s - yields)) (drop yields s) (length s - yields) → z ≡ packed_of n s
  unfolding packed_of
  packed_joined sized long is y_is z_is =
      let e = yields_from_lem sized.long refl is in
      let i : length s - yields ≡ rest = omega (arith, sized.long) in
      let j : length y - (length s - yields) ≡ packed_yields_place n = omega arith in
      joined s d x y z (each n (packed_row s n)) (packed_yields_place n) (yields_place n) rest
      (omega (arith, sized.long)) (omega (arith, length_each n (packed_row s n) (packed_wide s n) n)) (omega arith) (omega (arith, sized.long))
      x_is y_is (z_is ∙ rw (j, i, e))
