-- The own row as records has the names of the image.
use Prim.Native.Nat.{ℕ, suc, ◌+◌, ◌-◌, ◌*◌, ◌≤◌}
use mathlib.Core.Path.{◌≡◌, ap, ◌∙◌}
use mathlib.Core.List.{List}
use native.Mathlib.Omega.{arith}
use borrow.Author.Tests.{le-leb}
use lib.ListN.{length, get_or}
use Rattle.image.specs.Layout.{largest, row_place, name_at}
use Rattle.image.specs.Frame.{Framed}
use Rattle.image.specs.Row.{tabulate, never_at, entry_at, own_row}
use Rattle.image.proofs.Places.{row_within}
use Rattle.image.proofs.Fill.{get_d_tabulate}

own_row_is : (s : List ℕ) (n own : ℕ) → Framed s n own → own_row s n own ≡ tabulate largest (entry_at s n (row_place n own))
unfolding own_row
own_row_is s n own f =
    rw (le-leb n largest f.n_to, le-leb (row_place n own + n * 2) (length s) (omega (arith, f.long, row_within f.own_from f.own_to)))

entry_name : (s : List ℕ) (n own c : ℕ) → c ≤ n → (entry_at s n (row_place n own) c).name ≡ name_at s n own c
unfolding entry_at name_at
entry_name s n own c b = rw (le-leb c n b)

module _ (s : List ℕ) (n own : ℕ) (f : Framed s n own) where
  pub own_row_name : (c : ℕ) → 1 ≤ c → c ≤ n → (get_or (own_row s n own) (c - 1) (never_at 0)).name ≡ name_at s n own c
  own_row_name c a b =
      let i : suc (c - 1) ≡ c = omega arith in
      ap (λ w. (get_or w (c - 1) (never_at 0)).name) (own_row_is s n own f)
      ∙ ap (λ x. x.name)
      (get_d_tabulate largest (entry_at s n (row_place n own)) (never_at 0) (c - 1) (omega (arith, f.n_to)) ∙ ap (entry_at s n (row_place n own)) i)
      ∙ entry_name s n own c b
