-- One own row against the other.
use Prim.Native.Nat.{◌+◌, ◌-◌, ◌*◌}
use mathlib.Core.Path.{◌≡◌, ap, ap₂, ◌∙◌}
use mathlib.Core.Bool.{not}
use native.Mathlib.Omega.{arith}
use Rattle.image.specs.Layout.{largest, row_place}
use Rattle.image.specs.Row.{is_never}
use Rattle.image.proofs.Gather.{bit_start, bit_next, bit_le, gather_start, gather_next, gathered_lt}
use Rattle.merge.specs.Verdict.{same_name}
use Rattle.merge.specs.Views.{name_in}
use Rattle.merge.proofs.known.Columns.{seen_next}
use Rattle.merge.proofs.known.view.Goals as goal

pub loop-c-init : goal.loop-c-init
loop-c-init c = (omega (arith, c.row_place-here.ensures), omega (arith, c.row_place-row.ensures), bit_start, gather_start _, gather_start _, gather_start _)

pub overflow_add-common : goal.overflow_add-common
overflow_add-common c = let i = c.loop-c.invariant in omega (arith, c.args.mine.now.framed.n_to, gathered_lt i.3 i.2, bit_le largest i.2 (omega (arith, c.args.mine.now.framed.n_to)), c.pick-common.ensures)

pub overflow_add-heard : goal.overflow_add-heard
overflow_add-heard c = let i = c.loop-c.invariant in omega (arith, c.args.mine.now.framed.n_to, gathered_lt i.4 i.2, bit_le largest i.2 (omega (arith, c.args.mine.now.framed.n_to)), c.pick-heard.ensures)

pub overflow_add-same : goal.overflow_add-same
overflow_add-same c = let i = c.loop-c.invariant in omega (arith, c.args.mine.now.framed.n_to, gathered_lt i.5 i.2, bit_le largest i.2 (omega (arith, c.args.mine.now.framed.n_to)), c.pick-same.ensures)

pub loop-c-preserved : goal.loop-c-preserved
loop-c-preserved c =
    let a = c.args in
    let m = a.mine.now in
    let l = c.loop-c in
    let i = l.invariant in
    let x = c.column-x in
    let own = row_place m.n m.own in
    let other = row_place m.n a.theirs.now.own in
    let h : l.here ≡ own + (l.c + 1 - 1) * 2 = omega (arith, i.0) in
    let t : l.there ≡ other + (l.c + 1 - 1) * 2 = omega (arith, i.1) in (
      omega (arith, i.0),
      omega (arith, i.1),
      bit_next i.2,
      gather_next i.3 i.2 x.result.common c.pick-common.ensures.0
          (seen_next m.bytes.now a.theirs.now.bytes.now own other m.n (l.c + 1) l.here l.there (omega arith) (omega arith) h t (rw c.row_place-row.ensures at x.ensures.0)),
      gather_next i.4 i.2 x.result.heard c.pick-heard.ensures.0 (x.ensures.1 ∙ ap (λ k. not (is_never (name_in m.bytes.now k))) h),
      gather_next i.5 i.2 x.result.same c.pick-same.ensures.0 (x.ensures.2 ∙ ap₂ (λ j k. same_name (name_in m.bytes.now j) (name_in a.theirs.now.bytes.now k)) h t),
    )
