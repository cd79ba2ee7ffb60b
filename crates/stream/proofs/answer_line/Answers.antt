-- The answer to a line, and a newline.
use mathlib.Core.Path.{◌∙◌}
use native.Mathlib.Omega.{arith}
use Rattle.stream.proofs.Answers.{count_within, part_room, length_put}
use Rattle.stream.proofs.Buffers.{line_answered}
use Rattle.stream.proofs.answer_line.Goals as goal

pub overflow_add-next : goal.overflow_add-next
overflow_add-next c = omega (arith, count_within _ _ _ c.answer-count.ensures c.answer-count.auto.out, part_room c.args.out.now c.args.at c.requires.1)

pub bounds-out-next : goal.bounds-out-next
bounds-out-next c = omega (arith, count_within _ _ _ c.answer-count.ensures c.answer-count.auto.out, part_room c.args.out.now c.args.at c.requires.1, length_put c.args.out.now c.answer-count.new.out c.args.at c.requires.1 (c.answer-count.auto.out ∙ part_room c.args.out.now c.args.at c.requires.1))

pub overflow_add-result : goal.overflow_add-result
overflow_add-result c = omega (arith, count_within _ _ _ c.answer-count.ensures c.answer-count.auto.out, part_room c.args.out.now c.args.at c.requires.1)

pub returns : goal.returns
returns c = (omega (arith, count_within _ _ _ c.answer-count.ensures c.answer-count.auto.out, part_room c.args.out.now c.args.at c.requires.1), line_answered c.args.state.now c.args.text.now c.args.out.now c.answer-count.new.out c.answer-count.new.state c.args.at c.answer-count.result c.requires.0 c.requires.1 (omega (arith, count_within _ _ _ c.answer-count.ensures c.answer-count.auto.out, part_room c.args.out.now c.args.at c.requires.1)) c.answer-count.ensures)
