-- The loop that gathers the labels of the rows 1 to n.
use Prim.Native.Nat.{ℕ, ◌+◌, ◌-◌, ◌≤◌}
use mathlib.Core.Path.{◌≡◌, sym, ap, ap₂, ◌∙◌}
use mathlib.Core.Bool.{Bool, ◌||◌}
use mathlib.Core.List.{List}
use native.Mathlib.Omega.{arith}
use lib.Bits.{bit_or, or_comm}
use Rattle.image.specs.Stalls.{some}
use Rattle.image.specs.Layout.{row_place, name_at}
use Rattle.image.specs.Encode.{table_of}
use Rattle.image.proofs.Search.{times_step, some_suc}
use Rattle.merge.specs.Label.{row_has}
use Rattle.merge.specs.LabelSet.{label_set, name_has}
use Rattle.merge.proofs.label.LabelSets.{set_agree, set_none, set_or}

-- the invariant: before the turn at r, the labels of the rows below r have been gathered, and row r starts at its place
pub record Rows (n row r set : ℕ) (f : ℕ → ℕ → Bool) : Type 0 where
  pub from : 1 ≤ r
  pub to : r ≤ n + 1
  pub stands : row ≡ row_place n r
  pub so_far : set ≡ label_set (λ k. some (r - 1) (f k))

pub rows_start : (n : ℕ) (f : ℕ → ℕ → Bool) → Rows n 4 1 0 f
unfolding some
rows_start n f = record { from = omega arith; to = omega arith; stands = omega arith; so_far = set_none }

pub rows_next : {n row r set x : ℕ} {f : ℕ → ℕ → Bool} → Rows n row r set f → r ≤ n → x ≡ label_set (λ k. f k r)
    → Rows n (row + (n + n)) (r + 1) (bit_or set x) f
rows_next {n} {row} {r} {set} {x} {f} w l e =
    let a : r + 1 - 1 ≡ r = omega arith in
    record {
      from = omega arith;
      to = omega arith;
      stands = rw a (omega (arith, times_step r (n + n) w.from, w.stands));
      so_far =
          rw a (or_comm set x ∙ ap₂ bit_or e w.so_far ∙ set_or (λ k. f k r) (λ k. some (r - 1) (f k)) ∙ set_agree (λ k. sym (some_suc (f k) r w.from)));
    }

-- what is read there is what the table says
pub row_set : (s : List ℕ) (n p q row r : ℕ) → row ≡ row_place n r
    → label_set (λ k. name_has s row p q k || name_has s row q p k) ≡ label_set (λ k. row_has p q (table_of s n) k r)
unfolding table_of name_at
row_set s n p q row r e = ap (λ row. label_set (λ k. name_has s row p q k || name_has s row q p k)) e
