-- Every slot of a parlour just opened.
use Prim.Native.Nat.{suc, ◌+◌, ◌*◌}
use mathlib.Core.Path.{◌≡◌, refl, ap, ◌∙◌}
use mathlib.Core.List.{◌++◌}
use lib.ListN.{take, drop}
use native.Mathlib.Omega.{arith}
use native.Mathlib.Numerals.{add-one}
use Rattle.image.specs.Layout.{largest, longest}
use Rattle.image.proofs.Has.{length_each_to}
use Rattle.image.proofs.Blocks.{blocks_start, written_next, blocks_end}
use Rattle.line.specs.Parlour.{fresh_slot}
use Rattle.line.proofs.Slots.{length_slot, slots_whole}
use Rattle.line.proofs.Lent.{part_back}
use Rattle.line.proofs.parlour.open_slots.Goals as goal

pub loop-r-init : goal.loop-r-init
loop-r-init c = (blocks_start _ _ _ _, refl)

pub loop-r-preserved : goal.loop-r-preserved
loop-r-preserved c =
    let t = c.args in
    let l = c.loop-r in
    let at_is : 1 + c.from.result * longest ≡ 1 + l.r * longest = ap (λ k. 1 + k * longest) c.from.ensures in
    let at = 1 + c.from.result * longest in
    let slots = length_each_to longest (fresh_slot t.n) l.r (λ k a b. length_slot t.n k c.requires.1 c.requires.2) in
    let w = written_next t.state.now l.state _ 1 longest l.r at (fresh_slot t.n) slots (length_slot t.n (suc l.r) c.requires.1 c.requires.2) (omega arith) at_is l.invariant.0 l.invariant.1
    (part_back l.state at longest _ ∙ ap (λ x. take at l.state ++ x ++ drop (at + longest) l.state) (c.open_slot.ensures ∙ ap (fresh_slot t.n) (add-one l.r))) in
    (w.0, w.1)

pub returns : goal.returns
returns c =
    let l = c.loop-r in
    slots_whole c.args.state.now l.state c.args.n c.requires.0 (blocks_end c.args.state.now l.state 1 longest (fresh_slot c.args.n) l.r largest l.auto.r-end c.loop-r-test.false l.invariant.0)
