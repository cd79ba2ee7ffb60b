-- The digits of bytes from a place on.
use Rattle.std.proofs.Common.{refl, ◌∙◌}
use Rattle.line.proofs.Hexadecimal.{digits_to_start, digits_to_next, digits_to_end}
use Rattle.line.proofs.digits.put_bytes.Goals as goal

pub loop-i-init : goal.loop-i-init
loop-i-init c = (digits_to_start _ _ _, refl)

pub loop-i-preserved : goal.loop-i-preserved
loop-i-preserved c =
    let a = c.args in
    let l = c.loop-i in
    (digits_to_next a.out.now l.out a.bytes.now a.at _ l.i refl c.requires c.loop-i-test.true l.invariant.0 c.put_byte.new.out c.put_byte.ensures, c.put_byte.auto.out ∙ l.invariant.1)

pub returns : goal.returns
returns c = let l = c.loop-i in digits_to_end c.args.out.now l.out c.args.bytes.now c.args.at l.i l.auto.i-end c.loop-i-test.false l.invariant.0
