-- Bytes of a block.
use Rattle.std.proofs.Common.{◌+◌, ◌-◌, ◌≤◌, length, take}
use Rattle.line.specs.Answer.{longest_answer}
use Rattle.stream.specs.Kept.{longest_line}
use Rattle.stream.specs.Call.{keeping, Answers}
use Rattle.stream.proofs.feed_all.Given as goal

abbrev pub invariant-loop-taken : goal.invariant-loop-taken
invariant-loop-taken l =
    (l.held ≤ longest_line)
    × (l.end ≤ length l.initial.out)
    × (1 ≤ l.taken + (length l.initial.out - l.end - longest_answer))
    × Answers l.initial.state (keeping l.initial.text l.kept) (take l.taken l.block) l.initial.out 0 l.end l.state (keeping l.text l.held) l.out
