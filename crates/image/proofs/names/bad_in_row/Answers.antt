-- Some of eight names of a row is bad by itself.
use Rattle.std.proofs.Common.{ℕ, ◌≡◌, ◌+◌, ◌-◌, ◌≤◌, ◌||◌, ap, sym, ◌∙◌, arith}
use mathlib.Core.Path.{ap₂, subst}
use Rattle.image.specs.Columns.{Low, columns_from}
use Rattle.image.specs.Layout.{label_limit}
use Rattle.image.proofs.Lanes.{or_test}
use Rattle.image.proofs.NameLanes.{columns_low, columns_on}
use Rattle.image.proofs.RowWords.{short_row, long_row}
use Rattle.image.proofs.names.bad_in_row.Goals as goal

-- columns that a row may have, and those four behind them
low_at : (c : ℕ) {x : ℕ} → c ≤ 123 → x ≡ columns_from c → Low x
low_at c l e = subst Low (sym e) (columns_low c l)

low_on : (c : ℕ) {x : ℕ} → c ≤ 119 → x ≡ columns_from c → Low (x + 0x0004000400040004)
low_on c l e = low_at (c + 4) (omega arith) (ap (λ y. y + 0x0004000400040004) e ∙ columns_on c 4)

pub bad_four-requires : goal.bad_four-requires
bad_four-requires c = low_at c.args.c (omega (arith, c.args.limits.small)) c.requires.3

pub returns-then-left-le4 : goal.returns-then-left-le4
returns-then-left-le4 c =
    let a = c.args in
    c.bad_four.ensures
    ∙ short_row a.image.now (λ k. omega (arith, c.type_inv.image k)) a.limits.n (label_limit a.limits.n) a.at a.c (a.limits.n - a.c)
    (omega (arith, a.limits.small)) c.requires.3 c.eight.ensures c.first_lanes.ensures c.if-left-le4.true

pub bad_four-first-requires : goal.bad_four-first-requires
bad_four-first-requires c = low_at c.args.c (omega (arith, c.args.limits.small)) c.requires.3

pub overflow_add-columns : goal.overflow_add-columns
overflow_add-columns c = omega (arith, (low_on c.args.c (omega (arith, c.args.limits.small)) c.requires.3).word)

pub bad_four-requires-2 : goal.bad_four-requires-2
bad_four-requires-2 c = low_on c.args.c (omega (arith, c.args.limits.small)) c.requires.3

pub returns : goal.returns
returns c =
    let a = c.args in
    or_test c.bad_four-2.result c.bad_four-first.result
    ∙ ap₂ ◌||◌ c.bad_four-2.ensures c.bad_four-first.ensures
    ∙ long_row a.image.now (λ k. omega (arith, c.type_inv.image k)) a.limits.n (label_limit a.limits.n) a.at a.c (a.limits.n - a.c)
    (omega (arith, a.limits.small)) c.requires.3 c.eight-2.ensures (omega arith) c.if-left-le4.false c.eight-3.ensures c.first_lanes-2.ensures
