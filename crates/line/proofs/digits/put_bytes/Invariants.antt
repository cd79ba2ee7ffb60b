-- The digits of bytes from a place on.
use Rattle.std.proofs.Common.{◌≡◌, length}
use Rattle.line.proofs.Hexadecimal.{digits_to}
use Rattle.line.proofs.digits.put_bytes.Given as goal

abbrev pub invariant-loop-i : goal.invariant-loop-i
invariant-loop-i l = (l.out ≡ digits_to l.initial.out l.fn.at l.bytes l.i) × (length l.out ≡ length l.initial.out)
