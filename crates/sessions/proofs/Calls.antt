-- Sessions of calls of `line::answer`: what each says, by one induction over them, and that every list of lines has one.
use Prim.Native.Nat.{ℕ, ◌*◌, ◌≤◌}
use mathlib.Core.Path.{◌≡◌, refl, sym, ap, subst, ◌∙◌}
use mathlib.Core.List.{List, [], ◌∷◌, ◌++◌}
use native.Mathlib.Omega.{arith}
use lib.ListN.{length, replicate, length-replicate}
use Rattle.parlour.proofs.Splits.{of_newest, of_none}
use Rattle.parlour.proofs.Existence.{some_loan}
use Rattle.line.specs.Answer.{longest_answer, written, answer_call}
use Rattle.line.proofs.Lines.{answer_fits}
use Rattle.sessions.specs.Call.{LineCall}
use Rattle.sessions.specs.Session.{Answered, Session, begun, answered}
use Rattle.sessions.specs.Claim.{lines, Said, Claim}
use Rattle.sessions.specs.Theory.{SessionOf}
use Rattle.sessions.proofs.Stands.{Stands, next, stands_start, stands_long, stands_images}

-- one call more
record After (ls : List (List ℕ)) (c : Answered) (state' : List ℕ) : Type 0 where
  said : Said ls c
  stands : Stands (c.line ∷ ls) state'

after : {ls : List (List ℕ)} {state : List ℕ} → Stands ls state → (line out : List ℕ) (count : ℕ) (state' out' : List ℕ) → longest_answer ≤ length out
    → LineCall state line out count state' out' → After ls (record { line = line; out = out; count = count; out' = out' }) state'
after {ls} {state} w line out count state' out' l call =
    let n = next ls state line w in
    let is = call.learnt ∙ answer_fits state line out (stands_long w) l in
    record {
      said = record { counted = ap (λ o. o.count) is ∙ ap (λ b. 2 * length b) n.answer; out_is = ap (λ o. o.out) is ∙ ap (written out) n.answer };
      stands = subst (Stands (line ∷ ls)) (sym (ap (λ o. o.state) is)) n.stands;
    }

pub session_stands : {done : List Answered} {state : List ℕ} → Session done state → Stands (lines done) state
session_stands begun = stands_start
session_stands (answered s line out count state' out' l call) = (after (session_stands s) line out count state' out' l call).stands

each : {done : List Answered} {state : List ℕ} → Session done state → (c : Answered) (earlier later : List Answered) → done ≡ later ++ (c ∷ earlier) → Said (lines earlier) c
each begun c earlier later e = absurd (of_none c earlier later e)
each (answered {done = done} s line out count state' out' l call) c earlier later e =
    of_newest c earlier (λ d rest. Said (lines rest) d) _ done (after (session_stands s) line out count state' out' l call).said (λ rest d. each s c earlier rest d) later e

pub claim : (done : List Answered) (state : List ℕ) → Session done state → Claim done state
claim done state s = record { each_answer = each s; images_are = stands_images (session_stands s) }

pub sessions_exist : (ls : List (List ℕ)) → SessionOf ls
sessions_exist [] = record { done = []; state = _; session = begun; makes = refl }
sessions_exist (line ∷ ls) =
    let before = sessions_exist ls in
    let out : List ℕ = replicate longest_answer 0 in
    let long : longest_answer ≤ length out = omega (arith, length-replicate {A = ℕ} longest_answer 0) in
    let o = answer_call before.state line out in
    record {
      done = _;
      state = o.state;
      session = answered before.session line out o.count o.state o.out long
          (record { lifetimes = ([], ([], ([], tt))); one = some_loan; other = some_loan; third = some_loan; learnt = refl });
      makes = ap (λ l. line ∷ l) before.makes;
    }
