-- The slot of a stall ends within the state.
use mathlib.Core.Path.{ap, ◌∙◌}
use native.Mathlib.Omega.{arith}
use Rattle.image.specs.Layout.{length_of}
use Rattle.image.proofs.Stages.{length_range}
use Rattle.line.specs.Parlour.{heads_of}
use Rattle.line.proofs.parlour.slot_of.Goals as goal

pub overflow_add-end : goal.overflow_add-end
overflow_add-end c = omega (arith, c.length_of.ensures ∙ ap length_of c.from-2.ensures, (length_range (heads_of c.args.state.now) c.requires.1 c.requires.2).1)
