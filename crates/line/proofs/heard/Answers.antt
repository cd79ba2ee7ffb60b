-- Shows the heard list of the head at a stall.
use mathlib.Core.Path.{refl, ◌∙◌}
use native.Mathlib.Omega.{arith}
use Rattle.line.proofs.Replying.{replied_bytes}
use Rattle.line.proofs.AtStall.{stall_fits, refused_on, told_list}
use Rattle.line.proofs.HeardLine.{hearing_bad, hearing_code, hearing_refused, used_fits, used_long, hearing_done}
use Rattle.image.specs.declared.Refusal.TheVariants.{Stall}
use Rattle.line.specs.declared.refusal.Refusal.TheVariants.{Image, Call}
use Rattle.line.proofs.heard.Goals as goal

pub returns-in_err-slot : goal.returns-in_err-slot
returns-in_err-slot c = let e = c.in_err-slot.ensures.refused in refused_on _ c.from_residual.result (Image Stall) 3 c.from_residual.ensures e.0 refl (hearing_bad _ _ e.1)

pub slice_bounds-wilbryn_heard-end : goal.slice_bounds-wilbryn_heard-end
slice_bounds-wilbryn_heard-end c = stall_fits (record { opened = c.requires; slot = c.in_ok-slot.ensures.found; m_is = c.from-n.ensures })

pub answered-requires : goal.answered-requires
answered-requires c =
    omega (arith, (hearing_code (record { opened = c.requires; slot = c.in_ok-slot.ensures.found; m_is = c.from-n.ensures }) c.wilbryn_heard-answer.ensures c.wilbryn_heard-answer.auto.records).0)

pub returns-in_err-count : goal.returns-in_err-count
returns-in_err-count c =
    let e = c.in_err-count.ensures.refused in
    refused_on _ c.from_residual-in_err-count.result (Call _) _ c.from_residual-in_err-count.ensures e.0 refl
    (hearing_refused (record { opened = c.requires; slot = c.in_ok-slot.ensures.found; m_is = c.from-n.ensures }) c.wilbryn_heard-answer.ensures c.wilbryn_heard-answer.auto.records e.1)

pub slice_bounds-records-end-2 : goal.slice_bounds-records-end-2
slice_bounds-records-end-2 c =
    let e = c.in_ok-count.ensures.told in
    omega (arith, e.0, c.from.ensures, used_fits (record { opened = c.requires; slot = c.in_ok-slot.ensures.found; m_is = c.from-n.ensures }) c.wilbryn_heard-answer.ensures c.wilbryn_heard-answer.auto.records e.1)

pub slice_bounds-reply_with-end : goal.slice_bounds-reply_with-end
slice_bounds-reply_with-end c =
    let e = c.in_ok-count.ensures.told in
    rw (c.from.ensures ∙ e.0) (used_long (record { opened = c.requires; slot = c.in_ok-slot.ensures.found; m_is = c.from-n.ensures }) c.wilbryn_heard-answer.ensures c.wilbryn_heard-answer.auto.records e.1).0

pub returns : goal.returns
returns c =
    let e = c.in_ok-count.ensures.told in
    replied_bytes _ _
    (told_list _
    (hearing_done (record { opened = c.requires; slot = c.in_ok-slot.ensures.found; m_is = c.from-n.ensures }) c.wilbryn_heard-answer.ensures c.wilbryn_heard-answer.auto.records e.1)
    e.0
    (c.from.ensures ∙ e.0))
    (omega (arith, c.reply_with.ensures.0)) c.reply_with.ensures.1
