-- The lowest label that a set has not.
use Rattle.merge.proofs.label.Lowest.{lowest_other}
use Rattle.merge.proofs.label.lowest_free.Goals as goal

pub returns : goal.returns
returns c = lowest_other 64 _ c.ranges.set.fits
