-- The yields of all stalls.
use Rattle.image.specs.Stalls.{has}
use Rattle.image.proofs.Places.{yields_from_lem}
use Rattle.merge.proofs.pairs.Mixing.{mixed_yields}
use Rattle.merge.proofs.yields.merged_yields.Goals as goal

pub returns : goal.returns
returns c =
    let a = c.args in
    let x = a.x.now in
    let n_is = c.from-n.ensures in
    mixed_yields x.first.bytes.now x.second.bytes.now _ (has a.two) _ _ _ _ _ c.from.ensures c.from-2.ensures c.mixed.ensures
    (yields_from_lem x.first.framed.long n_is c.yields_place.ensures) (yields_from_lem (rw (← x.one_size) at x.second.framed.long) n_is c.yields_place-2.ensures)
    c.pair_at.ensures c.pair_at-2.ensures
