-- The lines of the first records of a heard list.
use Prim.Native.Nat.{◌+◌}
use mathlib.Core.Path.{◌≡◌, refl, sym, ap, ◌∙◌}
use native.Mathlib.Omega.{arith}
use Rattle.panel.specs.Panel.{lines}
use Rattle.panel.specs.Writing.{records_in}
use Rattle.panel.proofs.Puts.{put_is}
use Rattle.panel.proofs.Fitting.{line_short}
use Rattle.panel.proofs.Listed.{put_none, put_next, line_room, panel_room}
use Rattle.panel.proofs.lines.put_lines.Goals as goal

pub loop-i-init : goal.loop-i-init
loop-i-init c = (omega arith, put_none _ _, omega arith, refl)

pub put_line-at-requires : goal.put_line-at-requires
put_line-at-requires c = line_room _ _ (c.loop-i.invariant.3 ∙ c.requires.2) c.loop-i.invariant.2 c.loop-i-test.true c.requires.0 (line_short (c.loop-i.i + 1) c.record_at.result (omega (arith, c.requires.0)) (omega (arith, c.record_at.type_inv)) (omega (arith, c.record_at.type_inv)))

pub loop-i-preserved : goal.loop-i-preserved
loop-i-preserved c = (omega arith, put_next c.args.bytes.now c.loop-i.i c.record_at.ensures c.loop-i.invariant.1 c.put_line-at.ensures, omega (arith, c.put_line-at.ensures.behind, c.loop-i.invariant.2, (line_short (c.loop-i.i + 1) c.record_at.result (omega (arith, c.requires.0)) (omega (arith, c.record_at.type_inv)) (omega (arith, c.record_at.type_inv)))), c.put_line-at.auto.text ∙ c.loop-i.invariant.3)

pub returns : goal.returns
returns c = let done : c.loop-i.i ≡ c.args.count = omega arith in (put_is (ap (λ k. lines (records_in c.args.bytes.now k)) (sym done)) c.loop-i.invariant.1, panel_room c.loop-i.invariant.2 done c.requires.0)
