-- Some row has a bad name: in its first eight columns, or behind them.
use Rattle.std.proofs.Common.{ℕ, ◌≡◌, ◌+◌, ◌-◌, min, List, Bool, ◌||◌, ap, ◌∙◌, arith}
use mathlib.Core.Path.{ap₂}
use Rattle.image.specs.Stalls.{some}
use Rattle.image.specs.Columns.{bad_at}
use Rattle.image.proofs.Search.{some_agree, some_or}
use Rattle.image.proofs.Windows.{some_split}
use Rattle.image.proofs.Lanes.{or_test}
use Rattle.image.proofs.names.bad_rows.Goals as goal

-- in the first m columns
abbrev bad_in : List ℕ → ℕ → ℕ → Bool
bad_in s n m = some n (λ r. some m (bad_at s n r))

-- and in the k behind them
more_columns : (s : List ℕ) (n m k : ℕ) → (some n (λ r. some k (λ j. bad_at s n r (m + j))) || bad_in s n m) ≡ bad_in s n (m + k)
more_columns s n m k =
    some_or n (λ r. some k (λ j. bad_at s n r (m + j))) (λ r. some m (bad_at s n r)) ∙ some_agree n _ _ (λ r a b. some_split m k (bad_at s n r))

-- those behind none
behind_none : (s : List ℕ) (n m : ℕ) → min (n - 0) 8 ≡ m → some n (λ r. some (min (n - 0) 8) (λ j. bad_at s n r (0 + j))) ≡ bad_in s n m
behind_none s n m e =
    ap (λ k. some n (λ r. some k (λ j. bad_at s n r (0 + j)))) e
    ∙ some_agree n _ _ (λ r p q. some_agree m _ (bad_at s n r) (λ j a b. let z : 0 + j ≡ j = omega arith in ap (bad_at s n r) z))

pub returns-then-x-le8 : goal.returns-then-x-le8
returns-then-x-le8 c =
    let x = c.args.x.now in
    c.bad_columns-first.ensures ∙ behind_none x.bytes.now x.n x.n (omega (arith, c.if-x-le8.true))

pub returns : goal.returns
returns c =
    let n = c.args.x.now.n in
    let s = c.args.x.now.bytes.now in
    let k : 8 + min (n - 8) 8 ≡ n = omega (arith, c.if-x-le8.false, c.args.x.now.framed.n_to) in
    or_test c.bad_columns.result c.bad_columns-first.result
    ∙ ap₂ ◌||◌ c.bad_columns.ensures (c.bad_columns-first.ensures ∙ behind_none s n 8 (omega (arith, c.if-x-le8.false)))
    ∙ more_columns s n 8 (min (n - 8) 8)
    ∙ ap (bad_in s n) k
