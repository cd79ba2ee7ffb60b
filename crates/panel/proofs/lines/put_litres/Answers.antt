-- A yield in litres.
use mathlib.Core.Path.{sym, ◌∙◌}
use native.Mathlib.Omega.{arith}
use Rattle.panel.proofs.Puts.{put_is, put_then}
use Rattle.panel.proofs.Rooms.{room_is, room_first, room_then, litres_unmilked, litres_milked}
use Rattle.panel.proofs.lines.put_litres.Goals as goal

pub put-requires : goal.put-requires
put-requires c = room_is (litres_unmilked _ (sym c.is_not_milked.ensures ∙ c.if-is_not_milked.true)) c.requires

pub returns-then-is_not_milked : goal.returns-then-is_not_milked
returns-then-is_not_milked c = put_is (litres_unmilked _ (sym c.is_not_milked.ensures ∙ c.if-is_not_milked.true)) c.put.ensures

pub put_number-point-requires : goal.put_number-point-requires
put_number-point-requires c = room_first _ _ (room_is (litres_milked _ (sym c.is_not_milked.ensures ∙ c.if-is_not_milked.false)) c.requires)

pub put-last-requires : goal.put-last-requires
put-last-requires c = room_first _ _ (room_then _ (room_is (litres_milked _ (sym c.is_not_milked.ensures ∙ c.if-is_not_milked.false)) c.requires) c.put_number-point.ensures)

pub put_digit-requires : goal.put_digit-requires
put_digit-requires c = (omega arith, room_then _ (room_then _ (room_is (litres_milked _ (sym c.is_not_milked.ensures ∙ c.if-is_not_milked.false)) c.requires) c.put_number-point.ensures) c.put-last.ensures)

pub returns : goal.returns
returns c = put_is (litres_milked _ (sym c.is_not_milked.ensures ∙ c.if-is_not_milked.false)) (put_then c.put_number-point.ensures (put_then c.put-last.ensures c.put_digit.ensures))
