-- Items, answers and verdicts of calls are the same with their images unpacked, and so is all that is read from these.
use Prim.Native.Nat.{ℕ}
use mathlib.Core.Path.{◌≡◌, refl, ap, ◌∙◌}
use mathlib.Core.Bool.{cond, ◌&&◌}
use mathlib.Core.List.{List, [], ◌∷◌, map-append}
use Rattle.parlour.specs.Run.{Called}
use Rattle.parlour.specs.Claim.{is_accepted, items, CallOf}
use Rattle.parlour.specs.Verdict.{accepted_items}
use Rattle.traces.specs.Own.{is_of, act}
use Rattle.traces.specs.Answer.{answer_of, answers, seen_by, parts}
use Rattle.storage.specs.Run.{unpacked_call, unpacked_calls}

pub same_items : (calls : List Called) → items (unpacked_calls calls) ≡ items calls
same_items [] = refl
same_items (c ∷ calls) = ap (λ l. c.item ∷ l) (same_items calls)

pub same_answers : (calls : List Called) → answers (unpacked_calls calls) ≡ answers calls
same_answers [] = refl
same_answers (c ∷ calls) = ap (λ l. answer_of c ∷ l) (same_answers calls)

pub same_accepted : (calls : List Called) → accepted_items (unpacked_calls calls) ≡ accepted_items calls
unfolding accepted_items
same_accepted [] = refl
same_accepted (c ∷ calls) = ap (λ l. cond (is_accepted c.item c.answer) (c.item ∷ l) l) (same_accepted calls)

pub same_parts : (calls : List Called) (r : ℕ) → parts (unpacked_calls calls) r ≡ parts calls r
unfolding parts
same_parts [] r = refl
same_parts (c ∷ calls) r =
    ap (λ l. cond (is_accepted c.item c.answer && is_of c.item r) (record { did = act c.item r; answer = seen_by r c.item (answer_of c) } ∷ l) l) (same_parts calls r)

-- a call of the list is one of the list unpacked
pub call_of : {calls : List Called} {c : Called} {earlier : List Called} → CallOf calls c earlier → CallOf (unpacked_calls calls) (unpacked_call c) (unpacked_calls earlier)
call_of {c = c} {earlier = earlier} o =
    record { later = unpacked_calls o.later; split = ap unpacked_calls o.split ∙ map-append unpacked_call o.later (c ∷ earlier) }
