-- Every slot of a parlour just opened.
use Rattle.std.proofs.Common.{◌≡◌, length}
use Rattle.image.specs.Layout.{longest}
use Rattle.image.proofs.Blocks.{blocks}
use Rattle.line.specs.Parlour.{fresh_slot}
use Rattle.line.proofs.parlour.open_slots.Given as goal

abbrev pub invariant-loop-r : goal.invariant-loop-r
invariant-loop-r l = (l.state ≡ blocks l.initial.state 1 longest (fresh_slot l.n) l.r) × (length l.state ≡ length l.initial.state)
