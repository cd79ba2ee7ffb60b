-- The names of all rows, unpacked.
use Prim.Native.Nat.{◌+◌}
use mathlib.Core.Path.{refl}
use native.Mathlib.Omega.{arith}
use Rattle.image.proofs.Blocks.{blocks_start, blocks_end}
use Rattle.packed.specs.Form.{unpacked_row}
use Rattle.packed.proofs.RowLoops.{unpacked_next}
use Rattle.packed.proofs.unpack.unpack_rows.Goals as goal

pub loop-init : goal.loop-init
loop-init c = (omega arith, omega arith, omega arith, blocks_start _ _ _ _, refl)

pub loop-preserved : goal.loop-preserved
loop-preserved c =
    let a = c.args in
    let l = c.loop in
    let w = unpacked_next a.packed.now a.image.now l.image c.unpack_row.new.image a.n l.counter l.to l.from c.loop-test.true l.invariant.2 l.invariant.1 c.requires.0.long l.invariant.3 l.invariant.4 c.unpack_row.ensures in
    (omega arith, omega arith, omega arith, w.0, w.1)

pub returns : goal.returns
returns c = blocks_end c.args.image.now c.loop.image 4 (c.args.n + c.args.n) (unpacked_row c.args.packed.now c.args.n) c.loop.counter c.args.n (omega arith) (omega arith) c.loop.invariant.3
