-- One yield more.
use Rattle.std.proofs.Common.{◌+◌, ◌*◌, ◌/◌, ◌%◌, refl, arith}
use Rattle.image.specs.Layout.{no_yield}
use Rattle.image.specs.Encode.{word_bytes}
use Rattle.image.proofs.YieldRange.{no_yield_bytes}
use Rattle.image.proofs.Has.{length_each}
use Rattle.image.proofs.Overwrite.{store_two}
use Rattle.image.proofs.Blocks.{blocks_start, pasted_next, blocks_end}
use Rattle.image.proofs.yields.put_no_yields.Goals as goal

pub loop-c-init : goal.loop-c-init
loop-c-init c = (blocks_start _ _ _ _, refl)

pub loop-c-preserved : goal.loop-c-preserved
unfolding no_yield
loop-c-preserved c =
    let t = c.args in
    let l = c.loop-c in
    let w = pasted_next t.image.now l.image (word_bytes no_yield) _ t.at 2 l.c (t.at + 2 * l.c) no_yield_bytes (length_each 2 no_yield_bytes (λ r. refl) l.c) (omega arith) (omega arith) refl (omega arith) l.invariant.0 l.invariant.1 (store_two l.image (t.at + 2 * l.c) (no_yield / 256) (no_yield % 256) (omega arith)) in
    rw c.to_be_bytes.ensures w

pub returns : goal.returns
returns c =
    let t = c.args in
    let l = c.loop-c in
    blocks_end t.image.now l.image t.at 2 no_yield_bytes l.c t.count (omega arith) (omega arith) l.invariant.0
