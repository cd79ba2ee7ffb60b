-- The names of a row, unpacked.
use Rattle.packed.proofs.unpack.unpack_row.Invariants.{column}
use Prim.Native.Nat.{suc, ◌+◌, ◌-◌}
use mathlib.Core.Path.{◌≡◌, refl, ap, ◌∙◌}
use native.Mathlib.Omega.{arith}
use lib.ListN.{get_or}
use Rattle.image.specs.Encode.{name_bytes}
use Rattle.image.proofs.Has.{length_each}
use Rattle.image.proofs.Encoding.{name_wide}
use Rattle.image.proofs.Overwrite.{store_two}
use Rattle.image.proofs.Blocks.{blocks_start, pasted_next, blocks_end}
use Rattle.merge.specs.Body.{pair_bytes}
use Rattle.packed.specs.Form.{name_of}
use Rattle.packed.proofs.unpack.unpack_row.Goals as goal

pub loop-c-init : goal.loop-c-init
loop-c-init c = (omega arith, omega arith, blocks_start _ _ _ _, refl)

pub loop-c-preserved : goal.loop-c-preserved
loop-c-preserved c =
    let t = c.args in
    let l = c.loop-c in
    let x = c.two_bytes-name.result in
    let s = t.packed.now in
    let f = column s t.from in
    let i : l.c ≡ suc l.c - 1 = omega arith in
    let one : pair_bytes x ≡ f (suc l.c) = c.two_bytes-name.ensures ∙ ap (λ k. name_bytes (name_of (suc l.c) (get_or s (t.from + k) 0))) i in
    let w = pasted_next t.image.now l.image (pair_bytes x) _ t.to 2 l.c l.place f
    (length_each 2 f (λ r. name_wide (name_of r (get_or s (t.from + (r - 1)) 0))) l.c) (omega arith) (omega arith) one l.invariant.1 l.invariant.2 l.invariant.3
    (store_two l.image l.place x.high x.low (omega arith)) in
    (omega arith, omega arith, w.0, w.1)

pub returns : goal.returns
returns c = blocks_end c.args.image.now c.loop-c.image c.args.to 2 (column c.args.packed.now c.args.from) c.loop-c.c c.args.n (omega arith) (omega arith) c.loop-c.invariant.2
