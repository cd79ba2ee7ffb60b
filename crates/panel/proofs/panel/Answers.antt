-- A panel.
use Prim.Native.Nat.{◌*◌}
use mathlib.Core.Path.{sym, ap, ◌∙◌}
use Rattle.panel.specs.Panel.{panel_length}
use Rattle.panel.proofs.Calls.{used_few, buffer_long, count_few, bytes_long, panel_heard}
use Rattle.panel.proofs.panel.Goals as goal

pub slice_bounds-records-end : goal.slice_bounds-records-end
unfolding panel_length
slice_bounds-records-end g c = used_few (g.F.Form.plain c.args.table.now) (sym c.check-c.ensures.checked ∙ c.in-Good.is) (ap (λ k. 3 * k) c.from-used.ensures)

pub slice_bounds-heard-end : goal.slice_bounds-heard-end
unfolding panel_length
slice_bounds-heard-end g c = sym (buffer_long (g.F.Form.plain c.args.table.now) (sym c.check-c.ensures.checked ∙ c.in-Good.is) (ap (λ k. 3 * k) c.from-used.ensures))

pub write_panel-requires : goal.write_panel-requires
unfolding panel_length
write_panel-requires g c = (count_few (g.F.Form.plain c.args.table.now) (sym c.check-c.ensures.checked ∙ c.in-Good.is) (ap (λ k. 3 * k) c.from-used.ensures) c.heard-count.ensures, bytes_long (g.F.Form.plain c.args.table.now) (sym c.check-c.ensures.checked ∙ c.in-Good.is) (ap (λ k. 3 * k) c.from-used.ensures) c.heard-count.ensures, c.if-text-ne-PANEL_LENGTH.false)

pub returns : goal.returns
unfolding panel_length
returns g c = panel_heard (g.F.Form.plain c.args.table.now) (sym c.check-c.ensures.checked ∙ c.in-Good.is) (ap (λ k. 3 * k) c.from-used.ensures) c.heard-count.ensures _ c.if-text-ne-PANEL_LENGTH.false c.write_panel.ensures
