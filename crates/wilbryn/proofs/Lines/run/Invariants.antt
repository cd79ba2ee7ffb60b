-- All that was read is answered, from the empty state on.
use Rattle.wilbryn.specs.Turn.{Gone}
use Rattle.wilbryn.proofs.Lines.run.Given as goal

abbrev pub invariant-loop : goal.invariant-loop
invariant-loop l = Gone l.initial.self.text l.self.state l.self.text l.self.kept
