-- The lines of the first records of a heard list.
use Prim.Native.Nat.{◌*◌, ◌≤◌}
use mathlib.Core.Path.{◌≡◌}
use lib.ListN.{length}
use Rattle.panel.specs.Panel.{lines}
use Rattle.panel.specs.Writing.{Put, records_in}
use Rattle.panel.proofs.lines.put_lines.Given as goal

abbrev pub invariant-loop-i : goal.invariant-loop-i
invariant-loop-i l = (l.i ≤ l.count) × Put l.initial.text 0 (lines (records_in l.bytes l.i)) l.text l.at × (l.at ≤ 15 * l.i) × (length l.text ≡ length l.initial.text)
