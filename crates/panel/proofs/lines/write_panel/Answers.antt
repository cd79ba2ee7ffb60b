-- The lines, and zeros behind them.
use native.Mathlib.Omega.{arith}
use Rattle.panel.specs.Panel.{panel_length}
use Rattle.panel.proofs.Listed.{panel_shown}
use Rattle.panel.proofs.lines.write_panel.Goals as goal

pub overflow_cast-result : goal.overflow_cast-result
unfolding panel_length
overflow_cast-result c = omega (arith, c.put_lines-used.ensures.1)

pub returns : goal.returns
unfolding panel_length
returns c = panel_shown c.requires.2 c.put_lines-used.ensures.0 c.put_lines-used.ensures.1 c.clear_from.ensures
