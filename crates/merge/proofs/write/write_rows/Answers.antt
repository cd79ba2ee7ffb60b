-- The rows of n stalls.
use Prim.Native.Nat.{◌+◌, ◌<◌}
use mathlib.Core.Path.{refl}
use native.Mathlib.Omega.{arith}
use borrow.Author.Rules.{rules}
use Rattle.image.proofs.Blocks.{blocks_start, blocks_end}
use Rattle.merge.specs.Body.{row_in}
use Rattle.merge.proofs.write.Written.{rows_next}
use Rattle.merge.proofs.write.write_rows.Goals as goal

pub loop-row-init : goal.loop-row-init
loop-row-init c = (omega arith, blocks_start _ _ _ _, refl)

pub loop-row-preserved : goal.loop-row-preserved
loop-row-preserved c =
    let a = c.args in
    let l = c.loop-row in
    let i = l.invariant in
    let on : l.row-index < a.n = search rules in
    let w = rows_next a.image.now a.n a.rows c.requires l.row-index l.at on i.0 (search rules) l.image c.write_at.new.image i.1 i.2 c.write_at.ensures in
    (omega (arith, i.0), w.0, w.1)

pub returns : goal.returns
returns c =
    let n = c.args.n in
    let l = c.loop-row in
    blocks_end c.args.image.now l.image 4 (n + n) (row_in c.args.rows n) l.row-index n (search rules) (search rules) l.invariant.1
