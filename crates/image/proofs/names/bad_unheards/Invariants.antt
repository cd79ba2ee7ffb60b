-- Some row of a stall never heard is bad.
use Rattle.std.proofs.Common.{◌≡◌, ◌+◌, ◌*◌}
use Rattle.image.specs.Layout.{row_place, yield_place}
use Rattle.image.specs.Check.{bad_unheard}
use Rattle.image.proofs.Search.{Looked}
use Rattle.image.proofs.names.bad_unheards.Given as goal

abbrev pub invariant-loop : goal.invariant-loop
invariant-loop l =
    Looked l.x.n (l.x.n + l.x.n) 4 l.at (l.counter + 1) l.bad (bad_unheard l.x.bytes.now l.x.n l.x.own) × (l.yields ≡ yield_place l.x.n (l.counter + 1)) × (l.there ≡ row_place l.x.n l.x.own + l.counter * 2)
