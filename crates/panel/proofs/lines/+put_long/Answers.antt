-- The digits of a number: those of its tens, then its last one.
use native.Mathlib.Omega.{arith}
use Rattle.panel.proofs.Decimals.{decimal_large}
use Rattle.panel.proofs.Puts.{put_is, put_then}
use Rattle.panel.proofs.Rooms.{room_is, room_first, room_then}
use Rattle.panel.proofs.lines.+put_long.Goals as goal

pub put_long-last-requires : goal.put_long-last-requires
put_long-last-requires t c = (omega arith, room_first _ _ (room_is (decimal_large _ (omega arith)) c.requires))

pub put_digit-requires : goal.put_digit-requires
put_digit-requires t c = (omega arith, room_then _ (room_is (decimal_large _ (omega arith)) c.requires) c.put_long-last.ensures)

pub returns-else-k-lt100 : goal.returns-else-k-lt100
returns-else-k-lt100 t c = put_is (decimal_large _ (omega arith)) (put_then c.put_long-last.ensures c.put_digit.ensures)
