-- Bytes of a block.
use Rattle.std.proofs.Common.{◌≡◌, arith, length}
use Rattle.stream.proofs.Buffers.{answers_start, answers_next, answers_whole}
use Rattle.stream.proofs.feed_all.Goals as goal

pub loop-taken-init : goal.loop-taken-init
loop-taken-init c = (c.requires.kept_to, omega arith, omega (arith, c.requires.out_long), answers_start)

pub returns-then-out-end-lt-ROOM : goal.returns-then-out-end-lt-ROOM
returns-then-out-end-lt-ROOM c = record { taken_to = omega arith; taken_some = λ l. omega arith; stops_full = λ l. omega arith; kept_to = omega arith; end_to = omega arith; answers = c.loop-taken.invariant.3 }

pub loop-taken-preserved : goal.loop-taken-preserved
loop-taken-preserved c = (
  c.step-reached.ensures.0,
  omega (arith, c.step-reached.ensures.1),
  omega arith,
  answers_next c.args.block.now c.loop-taken.taken c.loop-taken-test.true (record { long = omega arith; to = omega arith }) c.loop-taken.invariant.3 c.step-reached.ensures.2,
)

pub returns : goal.returns
returns c =
    let all : c.loop-taken.taken ≡ length c.args.block.now = omega (arith, c.loop-taken.auto.taken-end, c.loop-taken-test.false) in
    record {
      taken_to = omega arith;
      taken_some = λ l. l;
      stops_full = λ l. absurd (omega arith);
      kept_to = c.loop-taken.invariant.0;
      end_to = omega arith;
      answers = answers_whole c.args.block.now all c.loop-taken.invariant.3;
    }
