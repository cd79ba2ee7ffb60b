-- Of four names some is bad by itself.
use Rattle.std.proofs.Common.{arith}
use Rattle.image.specs.Layout.{label_limit}
use Rattle.image.proofs.NameBytes.{limit_bits}
use Rattle.image.proofs.NameLanes.{over_in, four_test}
use Rattle.image.proofs.names.bad_four.Goals as goal

pub overflow_add-over : goal.overflow_add-over
overflow_add-over c =
    let a = c.args in
    let l = a.limits in
    omega (arith, l.word_is, over_in a.w l.n (label_limit l.n) a.columns (omega arith) (omega (arith, l.small)) (omega (arith, limit_bits l.n l.small)) c.requires)

pub returns : goal.returns
returns c =
    let a = c.args in
    let l = a.limits in
    rw l.word_is (four_test a.w l.n (label_limit l.n) a.columns (omega arith) (omega (arith, l.small)) (omega (arith, limit_bits l.n l.small)) c.requires)
