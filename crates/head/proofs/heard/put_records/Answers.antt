-- The bytes of the first records of an array.
use mathlib.Core.Path.{refl, ◌∙◌}
use native.Mathlib.Omega.{arith}
use Rattle.head.proofs.Listed.{listed_start, listed_next}
use Rattle.head.proofs.heard.put_records.Goals as goal

pub loop-i-init : goal.loop-i-init
loop-i-init c = (omega arith, listed_start c.args.records _, refl)

pub loop-i-preserved : goal.loop-i-preserved
loop-i-preserved c = (omega arith, c.put_record.ensures ∙ listed_next c.args.records _ _ c.loop-i.i _ (omega arith) c.loop-i.invariant.1, omega arith)
