-- A meeting by way of the unpacked forms.
use mathlib.Core.Path.{ap₂, ◌∙◌}
use borrow.Author.Rules.{rules}
use Rattle.merge.specs.Call.{meeting_call}
use Rattle.packed.proofs.ByPlain.{met_refused, may_pack, met_packed}
use Rattle.packed.proofs.wilbryn_packed_meeting.Goals as goal

pub returns-then-answer-ge-ABOVE : goal.returns-then-answer-ge-ABOVE
returns-then-answer-ge-ABOVE c =
    let a = c.args in
    let m = c.wilbryn_meeting-answer in
    let is = m.ensures ∙ ap₂ (λ x y. meeting_call x y a.verdicts.now) c.unpack_into-one.ensures c.unpack_into-two.ensures in
    met_refused a.first.now a.second.now a.verdicts.now m.new.first m.new.second m.new.verdicts m.result is c.if-answer-ge-ABOVE.true

pub pack_both-requires-clause-sized : goal.pack_both-requires-clause-sized
pack_both-requires-clause-sized c =
    let a = c.args in
    let m = c.wilbryn_meeting-answer in
    let is = m.ensures ∙ ap₂ (λ x y. meeting_call x y a.verdicts.now) c.unpack_into-one.ensures c.unpack_into-two.ensures in
    let w = may_pack a.first.now a.second.now a.verdicts.now m.new.first m.new.second m.new.verdicts m.result is c.if-answer-ge-ABOVE.false in
    (w.0, w.1)

pub pack_both-requires-clause-first_len : goal.pack_both-requires-clause-first_len
pack_both-requires-clause-first_len c =
    let a = c.args in
    let m = c.wilbryn_meeting-answer in
    let is = m.ensures ∙ ap₂ (λ x y. meeting_call x y a.verdicts.now) c.unpack_into-one.ensures c.unpack_into-two.ensures in
    let w = may_pack a.first.now a.second.now a.verdicts.now m.new.first m.new.second m.new.verdicts m.result is c.if-answer-ge-ABOVE.false in
    (w.2, w.3)

pub returns : goal.returns
returns c =
    let a = c.args in
    let m = c.wilbryn_meeting-answer in
    let is = m.ensures ∙ ap₂ (λ x y. meeting_call x y a.verdicts.now) c.unpack_into-one.ensures c.unpack_into-two.ensures in
    let both = c.pack_both in
    met_packed a.first.now a.second.now a.verdicts.now m.new.first m.new.second m.new.verdicts m.result is c.if-answer-ge-ABOVE.false (λ k. search rules) (λ k. search rules) both.new.first both.new.second both.ensures.0 both.ensures.1
