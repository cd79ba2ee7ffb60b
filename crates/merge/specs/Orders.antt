-- Sets of stalls that the order marks are put together from, for the functions that do it. `Merged` says what the marks are.
use Rattle.std.specs.Prelude.{ℕ, ◌≡◌, ◌&&◌, not, cond, List, eqb}
use Rattle.std.specs.Int.Bits.{bit_and, bit_or}
use Rattle.image.specs.Layout.{largest}
use Rattle.image.specs.Stalls.{bits, has, without}
use Rattle.image.specs.Encode.{Table, table_of}
use Rattle.image.specs.Row.{is_never}
use Rattle.merge.specs.Verdict.{verdict}
use Rattle.merge.specs.Merged.{is_met, latest_name, merged_order}
use Rattle.merge.specs.ByStall.{ByStall}
use Rattle.merge.specs.declared.Decided.{Decided}
use Rattle.merge.specs.declared.Sets.{Sets}

-- the two that met; of the others those that the first has, that the second has, and that the second alone has; and all that are heard afterwards
pub record Sorted (n p : ℕ) (a : Table) (q : ℕ) (b : Table) (x : Sets) : Type 0 where
  pub pair_is : x.pair ≡ bits n (is_met p q)
  pub first_is : x.first ≡ bits n (λ s. not (is_met p q s) && not (eqb (verdict n p a q b s) 2))
  pub second_is : x.second ≡ bits n (λ s. not (is_met p q s) && not (eqb (verdict n p a q b s) 1))
  pub alone_is : x.alone ≡ bits n (λ s. not (is_met p q s) && eqb (verdict n p a q b s) 2)
  pub heard_is : x.heard ≡ bits n (λ s. not (is_never (latest_name n p a q b s)))

-- the stalls that did not meet
abbrev pub apart : ℕ → ℕ → ℕ → ℕ
apart n p q = bits n (λ s. not (is_met p q s))

-- the same by the sets of the verdicts
pub record Sorts (n p q : ℕ) (d : Decided) (x : Sets) : Type 0 where
  pub pair_is : x.pair ≡ bits n (is_met p q)
  pub first_is : x.first ≡ without (apart n p q) d.two
  pub second_is : x.second ≡ without (apart n p q) d.one
  pub alone_is : x.alone ≡ bit_and (apart n p q) d.two
  pub heard_is : x.heard ≡ bit_or x.pair d.heard

-- the stalls whose marks stall r takes from the second
abbrev pub from_second : Sets → ℕ → ℕ
from_second x r = cond (has x.alone r) x.second (cond (has x.second r) x.alone 0)

-- the order marks of stall r, by those that it has in both images
abbrev pub order_of : Sets → ℕ → ℕ → ℕ → ℕ
order_of x r mine theirs =
    bit_or (cond (has x.heard r) x.pair 0)
    (bit_or (bit_and (cond (has x.first r) x.first 0) mine) (bit_and (from_second x r) theirs))

-- the order entries, as numbers, after images s and u met
abbrev pub Ordered : List ℕ → List ℕ → ℕ → ℕ → ℕ → List ℕ → Type 0
Ordered s u n p q = ByStall 0 largest n (λ r. bits n (merged_order n p (table_of s n) q (table_of u n) r))
