-- A meeting of the heads at two stalls.
use Rattle.std.proofs.Common.{ℕ, ◌≡◌, List}
use mathlib.Core.Path.{refl, ◌∙◌}
use native.Mathlib.Omega.{arith}
use Rattle.image.specs.Layout.{length_of}
use Rattle.line.specs.Parlour.{heads_of}
use Rattle.line.specs.Asked.{Opened, IsSlot}
use Rattle.line.proofs.Replying.{replied_bytes, stall_of}
use Rattle.line.proofs.AtStall.{refused_on, refused_by, told_more}
use Rattle.line.proofs.MeetingLine.{Stalls, meeting_first, meeting_second, meeting_same, meeting_stalls, short, copy_long, code, met_refused, met_done}
use Rattle.image.specs.declared.Refusal.TheVariants.{Stall, Strangers}
use Rattle.line.specs.declared.refusal.Refusal.TheVariants.{Image, Call}
use Rattle.line.proofs.meet.Goals as goal

-- the two stalls, once it is known where their slots start
the-stalls : {s out : List ℕ} {p q m count a b i j : ℕ} → Opened s out → IsSlot s p a i → IsSlot s q b j → m ≡ heads_of s → count ≡ length_of m → Stalls s out (heads_of s) p q m count a b
the-stalls o f g m_is count_is =
    record { opened = o; n_is = refl; first = stall_of _ _ f.good; second = stall_of _ _ g.good; m_is = m_is; count_is = count_is; a_is = f.start_is; b_is = g.start_is }

pub returns-in_err-first : goal.returns-in_err-first
returns-in_err-first c = let e = c.in_err-first.ensures.refused in refused_on _ c.from_residual.result (Image Stall) 3 c.from_residual.ensures e.0 refl (meeting_first _ _ _ e.1)

pub returns-in_err-second : goal.returns-in_err-second
returns-in_err-second c =
    let e = c.in_err-second.ensures.refused in
    refused_on _ c.from_residual-in_err-second.result (Image Stall) 3 c.from_residual-in_err-second.ensures e.0 refl (meeting_second _ _ _ c.in_ok-first.ensures.found.good e.1)

pub returns-then-p-q : goal.returns-then-p-q
returns-then-p-q c = refused_by _ _ (Image Strangers) 7 refl refl (meeting_same _ _ _ c.in_ok-first.ensures.found.good c.in_ok-second.ensures.found.good c.if-p-q.true)

pub slice_bounds-copy-end : goal.slice_bounds-copy-end
slice_bounds-copy-end c = omega (arith, short (the-stalls c.requires c.in_ok-first.ensures.found c.in_ok-second.ensures.found c.from-n.ensures c.length_of-count.ensures))

pub slice_bounds-meet_at-end : goal.slice_bounds-meet_at-end
slice_bounds-meet_at-end c = copy_long (the-stalls c.requires c.in_ok-first.ensures.found c.in_ok-second.ensures.found c.from-n.ensures c.length_of-count.ensures)

pub answered-requires : goal.answered-requires
answered-requires c = omega (arith, code (the-stalls c.requires c.in_ok-first.ensures.found c.in_ok-second.ensures.found c.from-n.ensures c.length_of-count.ensures) c.meet_at-answer.ensures c.meet_at-answer.auto.verdicts)

pub returns-in_err-label : goal.returns-in_err-label
returns-in_err-label c =
    let e = c.in_err-label.ensures.refused in
    let apart = meeting_stalls _ _ _ c.in_ok-first.ensures.found.good c.in_ok-second.ensures.found.good c.if-p-q.false in
    refused_on _ c.from_residual-in_err-label.result (Call _) _ c.from_residual-in_err-label.ensures e.0 refl
    (apart
    ∙ met_refused (the-stalls c.requires c.in_ok-first.ensures.found c.in_ok-second.ensures.found c.from-n.ensures c.length_of-count.ensures) c.meet_at-answer.ensures c.meet_at-answer.auto.verdicts e.1)

pub returns : goal.returns
returns c =
    let e = c.in_ok-label.ensures.told in
    let other = meeting_stalls _ _ _ c.in_ok-first.ensures.found.good c.in_ok-second.ensures.found.good c.if-p-q.false in
    replied_bytes _ _
    (told_more
    (other
    ∙ met_done (the-stalls c.requires c.in_ok-first.ensures.found c.in_ok-second.ensures.found c.from-n.ensures c.length_of-count.ensures) c.meet_at-answer.ensures c.meet_at-answer.auto.verdicts e.1)
    e.0)
    (omega (arith, c.reply_with.ensures.0)) c.reply_with.ensures.1
