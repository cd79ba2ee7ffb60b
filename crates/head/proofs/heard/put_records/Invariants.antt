-- The bytes of the first records of an array.
use Rattle.std.proofs.Common.{◌≡◌, ◌≤◌, length}
use Rattle.head.proofs.Listed.{listed}
use Rattle.head.proofs.heard.put_records.Given as goal

abbrev pub invariant-loop-i : goal.invariant-loop-i
invariant-loop-i l = (l.i ≤ l.count) × (l.bytes ≡ listed l.records l.initial.bytes l.i) × (length l.bytes ≡ length l.initial.bytes)
