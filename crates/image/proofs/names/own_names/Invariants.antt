-- The own row against the name of each row's own stall: the place in row r, a row and a name further each time.
use Rattle.std.proofs.Common.{◌≡◌, ◌+◌, ◌*◌, not, eqb}
use Rattle.image.specs.Layout.{heard_at, row_place}
use Rattle.image.specs.Check.{bad_diagonal}
use Rattle.image.proofs.Search.{Looked}
use Rattle.image.proofs.Gather.{Bit, Gathered}
use Rattle.image.proofs.names.own_names.Given as goal

abbrev pub invariant-loop : goal.invariant-loop
invariant-loop l =
    Looked l.x.n (l.x.n + l.x.n + 2) 4 l.here (l.counter + 1) (not (eqb l.bad 0)) (bad_diagonal l.x.bytes.now l.x.n l.x.own)
    × (l.there ≡ row_place l.x.n l.x.own + l.counter * 2)
    × Bit l.one (l.counter + 1)
    × Gathered (l.counter + 1) l.set (heard_at l.x.bytes.now l.x.n l.x.own)
