-- One column of an own row, seen against the other own row.
use Rattle.merge.proofs.known.Columns.{seen_heard, seen_same, seen_common}
use Rattle.merge.proofs.known.column.Goals as goal

pub returns : goal.returns
returns c =
    let a = c.args in
    let x = c.entry_at-own.ensures in
    let y = c.entry_at-other.ensures in
    let d = c.meet_of-x.ensures in
    let e = c.meet_of-y.ensures in
    let f = c.meet_of-z.ensures in (
      seen_common a.mine.now a.theirs.now a.a a.b x y d.0 d.1 e.0 e.1 a.n a.c a.row _ c.across.ensures c.entry_at-crossing.ensures f.0 f.1,
      seen_heard a.mine.now a.theirs.now a.a a.b x y d.0 d.1 e.0 e.1,
      seen_same a.mine.now a.theirs.now a.a a.b x y d.0 d.1 e.0 e.1,
    )
