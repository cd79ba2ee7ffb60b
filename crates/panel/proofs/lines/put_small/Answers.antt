-- The digits of a number below 100: one, or two.
use native.Mathlib.Omega.{arith}
use Rattle.panel.proofs.Decimals.{decimal_small, decimal_two}
use Rattle.panel.proofs.Puts.{put_is, put_then}
use Rattle.panel.proofs.Rooms.{room_is, room_first, room_then}
use Rattle.panel.proofs.lines.put_small.Goals as goal

pub put_digit-requires : goal.put_digit-requires
put_digit-requires c = (omega arith, room_is (decimal_small _ (omega arith)) c.requires.1)

pub returns-then-k-lt10 : goal.returns-then-k-lt10
returns-then-k-lt10 c = put_is (decimal_small _ (omega arith)) c.put_digit.ensures

pub put_digit-last-requires : goal.put_digit-last-requires
put_digit-last-requires c = (omega arith, room_first _ _ (room_is (decimal_two _ (omega arith) (omega arith)) c.requires.1))

pub put_digit-requires-else-k-lt10 : goal.put_digit-requires-else-k-lt10
put_digit-requires-else-k-lt10 c = (omega arith, room_then _ (room_is (decimal_two _ (omega arith) (omega arith)) c.requires.1) c.put_digit-last.ensures)

pub returns-else-k-lt10 : goal.returns-else-k-lt10
returns-else-k-lt10 c = put_is (decimal_two _ (omega arith) (omega arith)) (put_then c.put_digit-last.ensures c.put_digit-else-k-lt10.ensures)
