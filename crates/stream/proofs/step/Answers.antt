-- One byte of input.
use mathlib.Core.Path.{sym}
use lib.Seq.{length-take-le}
use native.Mathlib.Omega.{arith}
use Rattle.stream.proofs.Keeping.{kept_most}
use Rattle.stream.proofs.Buffers.{answers_newline, answers_byte}
use Rattle.stream.proofs.step.Goals as goal

pub slice_bounds-answer_line-end-then-byte-eq10 : goal.slice_bounds-answer_line-end-then-byte-eq10
slice_bounds-answer_line-end-then-byte-eq10 c = sym (length-take-le c.args.kept c.args.text.now (omega arith))

pub returns-then-byte-eq10 : goal.returns-then-byte-eq10
returns-then-byte-eq10 c = (omega arith, c.answer_line-end.ensures.0, answers_newline c.if-byte-eq10.true c.answer_line-end.ensures.1)

pub returns : goal.returns
returns c = (kept_most c.args.byte (record { long = omega arith; to = omega arith }) c.keep-more.ensures, omega arith, answers_byte c.if-byte-eq10.false c.keep-more.ensures)
