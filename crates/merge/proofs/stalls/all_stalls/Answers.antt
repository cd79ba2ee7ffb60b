-- The set of all stalls.
use borrow.Author.Rules.{rules}
use Rattle.image.proofs.StallSets.{all_bits}
use Rattle.merge.proofs.stalls.all_stalls.Goals as goal

pub returns : goal.returns
returns c = search (rules, all_bits c.args.x.now.n, c.args.x.now.framed.n_to)
