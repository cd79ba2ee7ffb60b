-- One record more.
use Rattle.std.proofs.Common.{ℕ, suc, ◌≡◌, ◌+◌, ◌-◌, ◌*◌, ◌<◌, List, get_or, arith}
use borrow.Author.Tests.{le-leb, lt-leb}
use Rattle.image.specs.Layout.{largest, name_from}
use Rattle.image.specs.Row.{never_at, entry_at}
use Rattle.image.specs.declared.Name.{Name}
use Rattle.image.specs.declared.Entry.{Entry}
use Rattle.image.proofs.Fill.{filled_next, filled_front, filled_end}
use Rattle.image.proofs.rows.row_at.Goals as goal

-- the record of column c + 1
entry_next : (s : List ℕ) (n at c place : ℕ) (x : Name) → c < n → place ≡ at + c * 2 → x ≡ name_from (get_or s place 0) (get_or s (place + 1) 0)
    → ◌≡◌ {A = Entry} (record { name = x }) (entry_at s n at (suc c))
unfolding entry_at
entry_next s n at c place x l e i =
    let a : at + (suc c - 1) * 2 ≡ place = omega arith in
    rw (a, le-leb (suc c) n l, i)

-- past n there is none
entry_past : (s : List ℕ) (n at c : ℕ) → n < c → entry_at s n at c ≡ never_at 0
unfolding entry_at
entry_past s n at c l = rw (lt-leb c n l)

pub loop-c-preserved : goal.loop-c-preserved
loop-c-preserved c =
    let a = c.args in
    let l = c.loop-c in
    let on : l.c < a.n = omega (arith, l.invariant.long, l.auto.c-end, c.loop-c-test.true) in
    filled_next (record { name = c.name_from.result }) l.invariant on
    (entry_next a.image.now a.n a.at l.c (a.at + 2 * l.c) _ on (omega arith) c.name_from.ensures)

pub returns : goal.returns
returns c =
    let a = c.args in
    let l = c.loop-c in
    filled_end (filled_front largest l.invariant (omega (arith, l.invariant.long, l.auto.c-end, c.loop-c-test.false)) (omega arith)) (omega arith) (λ k l. entry_past a.image.now a.n a.at k l)
