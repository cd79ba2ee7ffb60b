-- Shows the image of the head at a stall.
use mathlib.Core.Path.{refl}
use mathlib.Core.List.{◌∷◌}
use native.Mathlib.Omega.{arith}
use Rattle.line.proofs.Replying.{replied_bytes}
use Rattle.line.proofs.AtStall.{stall_fits, stall_part, stall_short, stall_image, refused_on}
use Rattle.line.proofs.HeardLine.{showing_bad, showing_done}
use Rattle.image.specs.declared.Refusal.TheVariants.{Stall}
use Rattle.line.specs.declared.refusal.Refusal.TheVariants.{Image}
use Rattle.line.proofs.show.Goals as goal

pub returns-in_err-slot : goal.returns-in_err-slot
returns-in_err-slot c = let e = c.in_err-slot.ensures.refused in refused_on _ c.from_residual.result (Image Stall) 3 c.from_residual.ensures e.0 refl (showing_bad _ _ e.1)

pub slice_bounds-reply_bytes-end : goal.slice_bounds-reply_bytes-end
slice_bounds-reply_bytes-end c = stall_fits (record { opened = c.requires; slot = c.in_ok-slot.ensures.found; m_is = refl })

pub reply_bytes-requires : goal.reply_bytes-requires
reply_bytes-requires c =
    omega (
      arith,
      stall_part (record { opened = c.requires; slot = c.in_ok-slot.ensures.found; m_is = refl }),
      stall_short (record { opened = c.requires; slot = c.in_ok-slot.ensures.found; m_is = refl }),
      c.requires.room,
    )

pub returns : goal.returns
returns c =
    replied_bytes _ (0 ∷ _)
    (showing_done _ _ _ c.in_ok-slot.ensures.found.good (stall_image (record { opened = c.requires; slot = c.in_ok-slot.ensures.found; m_is = refl })))
    (omega (arith, c.reply_bytes.ensures.0)) c.reply_bytes.ensures.1
