-- The new list of latests.
use mathlib.Core.Path.{refl}
use Rattle.image.specs.Stalls.{has}
use Rattle.merge.proofs.pairs.Mixing.{mixed_latest}
use Rattle.merge.proofs.rows.latest_row.Goals as goal

pub returns : goal.returns
returns c =
    let a = c.args in
    let x = a.x.now in
    mixed_latest x.first.bytes.now x.second.bytes.now _ (has a.two) _ _ _ _ _ c.from.ensures c.from-2.ensures c.mixed.ensures a.k c.row_place.ensures c.row_place-2.ensures refl refl
