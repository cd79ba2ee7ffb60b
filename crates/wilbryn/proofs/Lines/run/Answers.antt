-- Blocks until the input ends: each turn goes on from what was read so far.
use Rattle.std.proofs.Common.{arith, sym, ap, subst, ◌∙◌, Ok}
use Rattle.wilbryn.specs.Turn.{Gone, Ran, taken}
use Rattle.wilbryn.proofs.Turns.{handed_on}
use Rattle.wilbryn.proofs.Runs.{gone_start, turn_ran}
use Rattle.wilbryn.proofs.Lines.run.Goals as goal

pub loop-init : goal.loop-init
loop-init c = subst (Gone _ _ _) (sym c.requires.1) (gone_start c.requires.0.empty)

pub returns-in_err-read_block : goal.returns-in_err-read_block
returns-in_err-read_block c =
    let ran = turn_ran (record { long = c.args.self.now.ready.text_long; to = omega arith }) c.loop.invariant c.read_block.ensures in
    subst (λ r. Ran c.args.self.now.text c.read_block.new.self.state c.read_block.new.self.text (taken r c.read_block.new.self.kept)) (c.in_err-read_block.was ∙ sym (handed_on c.from_residual.result c.from_residual.ensures)) ran

pub returns-then-not-branch : goal.returns-then-not-branch
returns-then-not-branch c =
    let ran = turn_ran (record { long = c.args.self.now.ready.text_long; to = omega arith }) c.loop.invariant c.read_block.ensures in
    subst (λ r. Ran c.args.self.now.text c.read_block.new.self.state c.read_block.new.self.text (taken r c.read_block.new.self.kept)) (c.in_ok-read_block.was ∙ ap Ok c.if-not-branch.true) ran

pub loop-preserved : goal.loop-preserved
loop-preserved c =
    let ran = turn_ran (record { long = c.args.self.now.ready.text_long; to = omega arith }) c.loop.invariant c.read_block.ensures in
    (subst (λ r. Ran c.args.self.now.text c.read_block.new.self.state c.read_block.new.self.text (taken r c.read_block.new.self.kept)) (c.in_ok-read_block.was ∙ ap Ok c.if-not-branch.false) ran).after.1

pub returns : goal.returns
returns c = record { after = (c.loop.self.ready.kept_to, c.loop.invariant) }
