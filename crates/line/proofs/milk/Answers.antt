-- A milking of the head at a stall.
use mathlib.Core.Path.{refl, sym}
use native.Mathlib.Omega.{arith}
use Rattle.line.proofs.Numbers.{milking_code}
use Rattle.line.proofs.Replying.{replied_byte, milking_bad}
use Rattle.line.proofs.AtStall.{stall_fits, refused_on, told_one}
use Rattle.line.proofs.MilkingLine.{milking_is}
use Rattle.image.specs.declared.Refusal.TheVariants.{Stall}
use Rattle.line.specs.declared.refusal.Refusal.TheVariants.{Image, Call}
use Rattle.line.proofs.milk.Goals as goal

pub returns-in_err-slot : goal.returns-in_err-slot
returns-in_err-slot c = let e = c.in_err-slot.ensures.refused in refused_on _ c.from_residual.result (Image Stall) 3 c.from_residual.ensures e.0 refl (milking_bad _ _ _ e.1)

pub slice_bounds-wilbryn_milking-end : goal.slice_bounds-wilbryn_milking-end
slice_bounds-wilbryn_milking-end c = stall_fits (record { opened = c.requires; slot = c.in_ok-slot.ensures.found; m_is = refl })

pub accepted-requires : goal.accepted-requires
accepted-requires c = omega (arith, milking_code _ _ c.wilbryn_milking-number.ensures)

pub returns-in_err-accepted : goal.returns-in_err-accepted
returns-in_err-accepted c =
    let call = c.wilbryn_milking-number in
    refused_on _ c.from_residual-in_err-accepted.result (Call _) _ c.from_residual-in_err-accepted.ensures c.in_err-accepted.ensures.refused.0 refl
    (milking_is (record { opened = c.requires; slot = c.in_ok-slot.ensures.found; m_is = refl }) c.args.given call.ensures call.auto.image)

pub returns : goal.returns
returns c =
    let call = c.wilbryn_milking-number in
    replied_byte _ 0
    (told_one (milking_is (record { opened = c.requires; slot = c.in_ok-slot.ensures.found; m_is = refl }) c.args.given call.ensures call.auto.image) (sym c.in_ok-accepted.ensures.zero))
    c.reply_byte.ensures
