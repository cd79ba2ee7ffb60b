-- The line of a record.
use mathlib.Core.List.{[], ◌∷◌}
use Rattle.panel.specs.Panel.{blank}
use Rattle.panel.proofs.Puts.{put_is, put_then}
use Rattle.panel.proofs.Rooms.{room_is, room_first, room_then, line_is}
use Rattle.panel.proofs.lines.put_line.Goals as goal

pub put_number-next-requires : goal.put_number-next-requires
put_number-next-requires c = room_first _ _ (room_is (line_is _ _ c.from-stall.ensures c.from-given.ensures) c.requires)

pub put-next-requires : goal.put-next-requires
put-next-requires c = room_first (blank ∷ []) _ (room_then _ (room_is (line_is _ _ c.from-stall.ensures c.from-given.ensures) c.requires) c.put_number-next.ensures)

pub put_number-next-requires-2 : goal.put_number-next-requires-2
put_number-next-requires-2 c = room_first _ _ (room_then _ (room_then _ (room_is (line_is _ _ c.from-stall.ensures c.from-given.ensures) c.requires) c.put_number-next.ensures) c.put-next.ensures)

pub put-next-requires-2 : goal.put-next-requires-2
put-next-requires-2 c = room_first (blank ∷ []) _ (room_then _ (room_then _ (room_then _ (room_is (line_is _ _ c.from-stall.ensures c.from-given.ensures) c.requires) c.put_number-next.ensures) c.put-next.ensures) c.put_number-next-2.ensures)

pub put_litres-next-requires : goal.put_litres-next-requires
put_litres-next-requires c = room_first _ _ (room_then _ (room_then _ (room_then _ (room_then _ (room_is (line_is _ _ c.from-stall.ensures c.from-given.ensures) c.requires) c.put_number-next.ensures) c.put-next.ensures) c.put_number-next-2.ensures) c.put-next-2.ensures)

pub put-requires : goal.put-requires
put-requires c = room_then _ (room_then _ (room_then _ (room_then _ (room_then _ (room_is (line_is _ _ c.from-stall.ensures c.from-given.ensures) c.requires) c.put_number-next.ensures) c.put-next.ensures) c.put_number-next-2.ensures) c.put-next-2.ensures) c.put_litres-next.ensures

pub returns : goal.returns
returns c = put_is (line_is _ _ c.from-stall.ensures c.from-given.ensures) (put_then c.put_number-next.ensures (put_then c.put-next.ensures (put_then c.put_number-next-2.ensures (put_then c.put-next-2.ensures (put_then c.put_litres-next.ensures c.put.ensures)))))
