-- The verdicts into a buffer.
use Rattle.std.proofs.Common.{◌≤◌, length, cond}
use Rattle.image.specs.Stalls.{has}
use Rattle.merge.specs.ByStall.{ByStall}
use Rattle.merge.proofs.meeting.write_verdicts.Given as goal

abbrev pub invariant-loop-i : goal.invariant-loop-i
invariant-loop-i l =
    (l.i ≤ length l.initial.buffer) × ByStall 0 (length l.initial.buffer) l.i (λ r. cond (has l.d.one r) 1 (cond (has l.d.two r) 2 0)) l.buffer
