-- The names of all rows, packed.
use mathlib.Core.Path.{refl}
use native.Mathlib.Omega.{arith}
use Rattle.image.proofs.Blocks.{blocks_start, blocks_end}
use Rattle.packed.specs.Bytes.{packed_row}
use Rattle.packed.proofs.RowLoops.{packed_next}
use Rattle.packed.proofs.pack.pack_rows.Goals as goal

pub loop-init : goal.loop-init
loop-init c = (omega arith, omega arith, omega arith, blocks_start _ _ _ _, refl)

pub loop-preserved : goal.loop-preserved
loop-preserved c =
    let a = c.args in
    let l = c.loop in
    let w = packed_next a.image.now a.packed.now l.packed c.pack_row.new.packed a.n l.counter l.from l.to c.loop-test.true l.invariant.1 l.invariant.2 c.requires.1 l.invariant.3 l.invariant.4 c.pack_row.ensures in
    (omega arith, omega arith, omega arith, w.0, w.1)

pub returns : goal.returns
returns c = blocks_end c.args.packed.now c.loop.packed 4 c.args.n (packed_row c.args.image.now c.args.n) c.loop.counter c.args.n (omega arith) (omega arith) c.loop.invariant.3
