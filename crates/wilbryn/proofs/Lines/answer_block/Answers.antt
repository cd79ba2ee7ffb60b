-- Answers the lines that a block ends: each call of feed answers one piece more of it.
use Rattle.std.proofs.Common.{arith, ap, length, drop, ◌-◌, length-drop, length-take-le}
use Rattle.wilbryn.specs.Turn.{taken}
use Rattle.wilbryn.proofs.Turns.{before_start, before_end, some_left, none_left, piece, write_failed, piece_unwritten}
use Rattle.wilbryn.proofs.Lines.answer_block.Goals as goal

pub loop-rest-init : goal.loop-rest-init
loop-rest-init c = before_start

pub returns-in_err-write_to : goal.returns-in_err-write_to
returns-in_err-write_to c =
    let p = piece c.args.self.now.ready c.loop-rest.self.ready c.loop-rest.invariant (some_left _ c.is_empty.ensures c.loop-rest-test.true) c.feed-fed.ensures in
    piece_unwritten (ap (λ r. taken r c.feed-fed.result.kept) (write_failed c.from_residual.result c.from_residual.ensures c.in_err-write_to.ensures)) p

pub loop-rest-smaller : goal.loop-rest-smaller
loop-rest-smaller c =
    let p = piece c.args.self.now.ready c.loop-rest.self.ready c.loop-rest.invariant (some_left _ c.is_empty.ensures c.loop-rest-test.true) c.feed-fed.ensures in
    let rest = c.loop-rest.rest.now in
    let taken = c.feed-fed.result.taken in
    omega (arith, p.some, p.within, length-drop taken rest, length-take-le (length rest - taken) (drop taken rest))

pub loop-rest-preserved : goal.loop-rest-preserved
loop-rest-preserved c =
    (piece c.args.self.now.ready c.loop-rest.self.ready c.loop-rest.invariant (some_left _ c.is_empty.ensures c.loop-rest-test.true) c.feed-fed.ensures).before

pub returns : goal.returns
returns c = record { after = (c.loop-rest.self.ready.kept_to, before_end (none_left _ c.is_empty.ensures c.loop-rest-test.false) c.loop-rest.invariant) }
