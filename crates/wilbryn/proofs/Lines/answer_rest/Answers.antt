-- Answers a last line that no newline ended.
use Rattle.std.proofs.Common.{arith, refl, sym, ap, subst}
use Rattle.stream.proofs.Calls.{last_of, end_within}
use Rattle.wilbryn.specs.Turn.{RestAnswered, taken}
use Rattle.wilbryn.proofs.Turns.{write_failed}
use Rattle.wilbryn.proofs.Lines.answer_rest.Goals as goal

pub shared_ref_as_front-write_to : goal.shared_ref_as_front-write_to
shared_ref_as_front-write_to c = omega (arith, end_within c.args.self.now.ready c.finish-end.ensures, c.finish-end.auto.out)

pub returns-in_err-write_to : goal.returns-in_err-write_to
returns-in_err-write_to c =
    subst (RestAnswered _ _ _ _ _ _ _) (sym (ap (λ r. taken r c.args.self.now.kept) (write_failed c.from_residual.result c.from_residual.ensures c.in_err-write_to.ensures)))
    (record { after = record { end = c.finish-end.result; last = last_of c.args.self.now.ready c.finish-end.ensures; same_text = refl } })

pub returns : goal.returns
returns c = record { after = record { end = c.finish-end.result; last = last_of c.args.self.now.ready c.finish-end.ensures; same_text = refl } }
