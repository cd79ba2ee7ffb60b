-- Shows for each stall how many stalls a head knows to have heard its latest of that stall.
use mathlib.Core.Path.{refl}
use mathlib.Core.List.{◌∷◌}
use native.Mathlib.Omega.{arith}
use Rattle.line.proofs.Replying.{replied_bytes}
use Rattle.line.proofs.AtStall.{stall_fits, refused_on}
use Rattle.line.proofs.SettledLine.{settling_bad, settling_code, settling_refused, settling_done}
use Rattle.image.specs.declared.Refusal.TheVariants.{Stall}
use Rattle.line.specs.declared.refusal.Refusal.TheVariants.{Image, Call}
use Rattle.line.proofs.settled.Goals as goal

pub returns-in_err-slot : goal.returns-in_err-slot
returns-in_err-slot c = let e = c.in_err-slot.ensures.refused in refused_on _ c.from_residual.result (Image Stall) 3 c.from_residual.ensures e.0 refl (settling_bad _ _ e.1)

pub slice_bounds-wilbryn_settled-end : goal.slice_bounds-wilbryn_settled-end
slice_bounds-wilbryn_settled-end c = stall_fits (record { opened = c.requires; slot = c.in_ok-slot.ensures.found; m_is = c.from-n.ensures })

pub accepted-requires : goal.accepted-requires
accepted-requires c =
    omega (arith, settling_code (record { opened = c.requires; slot = c.in_ok-slot.ensures.found; m_is = c.from-n.ensures }) c.wilbryn_settled-number.ensures c.wilbryn_settled-number.auto.counts)

pub returns-in_err-accepted : goal.returns-in_err-accepted
returns-in_err-accepted c =
    let e = c.in_err-accepted.ensures.refused in
    refused_on _ c.from_residual-in_err-accepted.result (Call _) _ c.from_residual-in_err-accepted.ensures e.0 refl
    (settling_refused (record { opened = c.requires; slot = c.in_ok-slot.ensures.found; m_is = c.from-n.ensures }) c.wilbryn_settled-number.ensures c.wilbryn_settled-number.auto.counts (λ z. absurd (omega (arith, z, e.1))))

pub returns : goal.returns
returns c =
    replied_bytes _ (0 ∷ _)
    (settling_done (record { opened = c.requires; slot = c.in_ok-slot.ensures.found; m_is = c.from-n.ensures }) c.wilbryn_settled-number.ensures c.wilbryn_settled-number.auto.counts c.in_ok-accepted.ensures.zero)
    (omega (arith, c.reply_bytes.ensures.0)) c.reply_bytes.ensures.1
