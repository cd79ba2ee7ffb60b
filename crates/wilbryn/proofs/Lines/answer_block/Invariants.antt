-- The block is answered but for its rest.
use Rattle.std.proofs.Common.{length}
use Rattle.wilbryn.proofs.Turns.{Before}
use Rattle.wilbryn.proofs.Lines.answer_block.Given as goal

abbrev pub invariant-loop-rest : goal.invariant-loop-rest
invariant-loop-rest l = Before l.initial.self.state l.initial.self.text l.initial.self.kept l.block l.rest l.self.state l.self.text l.self.kept

abbrev pub decreases-loop-rest : goal.decreases-loop-rest
decreases-loop-rest l = length l.rest
