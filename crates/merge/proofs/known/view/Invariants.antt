-- One own row against the other.
use Rattle.std.proofs.Common.{◌≡◌, ◌+◌, ◌*◌, not}
use Rattle.image.specs.Layout.{row_place}
use Rattle.image.specs.Row.{is_never}
use Rattle.merge.specs.Known.{common}
use Rattle.merge.specs.Verdict.{same_name}
use Rattle.merge.specs.Views.{row_name}
use Rattle.merge.proofs.known.view.Given as goal
use Rattle.image.proofs.Gather.{Bit, Gathered}

abbrev pub invariant-loop-c : goal.invariant-loop-c
invariant-loop-c l =
    let mine = row_name l.mine.bytes.now (row_place l.mine.n l.mine.own) in
    let theirs = row_name l.theirs.bytes.now (row_place l.mine.n l.theirs.own) in
    (l.here ≡ row_place l.mine.n l.mine.own + l.c * 2) × (l.there ≡ row_place l.mine.n l.theirs.own + l.c * 2) × Bit l.one (l.c + 1)
    × Gathered (l.c + 1) l.common (common l.mine.n mine theirs)
    × Gathered (l.c + 1) l.heard (λ c. not (is_never (mine c)))
    × Gathered (l.c + 1) l.same (λ c. same_name (mine c) (theirs c))
