-- The rows of all stalls after a meeting.
use Rattle.std.proofs.Common.{◌≡◌, ◌+◌, ◌*◌, []}
use Rattle.image.specs.Stalls.{has}
use Rattle.merge.specs.Body.{padded, body_row}
use Rattle.merge.specs.ByStall.{ByStall}
use Rattle.merge.proofs.rows.merged_rows.Given as goal

abbrev pub invariant-loop-c : goal.invariant-loop-c
invariant-loop-c l =
    (l.at ≡ 4 + l.c * (l.n + l.n))
    × ByStall [] l.n l.c (λ r. padded l.x.first.n (body_row l.x.first.bytes.now l.x.second.bytes.now l.x.first.n l.x.first.own l.x.second.own l.k (has l.two) r)) l.row-items
