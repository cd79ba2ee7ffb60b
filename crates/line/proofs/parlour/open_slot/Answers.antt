-- A slot, as in a parlour just opened.
use mathlib.Core.Path.{ap, ◌∙◌}
use lib.ListN.{replicate}
use Rattle.image.proofs.Zeros.{cleared_whole}
use Rattle.line.proofs.Slots.{empty_slot}
use Rattle.line.proofs.parlour.open_slot.Goals as goal

pub returns-else-stall-n : goal.returns-else-stall-n
returns-else-stall-n c = cleared_whole c.args.slot.now _ c.clear_from.ensures ∙ ap (λ k. replicate k 0) c.requires ∙ empty_slot _ _ c.if-stall-n.false
