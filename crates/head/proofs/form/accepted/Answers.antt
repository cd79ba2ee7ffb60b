-- What passes the check may be read.
use Rattle.head.proofs.HeardCalls.{good_framed}
use Rattle.head.proofs.form.accepted.Goals as goal

pub invariant_of-result : goal.invariant_of-result
invariant_of-result c = record { framed = good_framed c.requires }
