-- The last line.
use Prim.Native.Nat.{◌≤◌}
use mathlib.Core.Path.{sym, ap, ◌∙◌}
use lib.ListN.{take}
use lib.Seq.{length-take-le}
use native.Mathlib.Omega.{arith}
use Rattle.stream.specs.Stream.{last_output}
use Rattle.stream.specs.Call.{put_from}
use Rattle.stream.proofs.Buffers.{put_nothing, last_some}
use Rattle.stream.proofs.last_line.Goals as goal

pub returns-then-kept-eq0 : goal.returns-then-kept-eq0
returns-then-kept-eq0 c =
    let a = c.args in
    put_nothing a.out.now 0 a.state.now ∙ ap (λ k. put_from a.out.now 0 (last_output a.state.now (take k a.text.now))) (sym c.if-kept-eq0.true)

pub slice_bounds-answer_line-end : goal.slice_bounds-answer_line-end
slice_bounds-answer_line-end c = sym (length-take-le c.args.kept c.args.text.now (omega arith))

pub returns : goal.returns
returns c =
    let a = c.args in
    let some : 1 ≤ a.kept = omega (arith, c.if-kept-eq0.false) in
    c.answer_line.ensures.1
    ∙ ap (put_from a.out.now 0) (last_some a.state.now (take a.kept a.text.now) (omega (arith, length-take-le a.kept a.text.now (omega arith))))
