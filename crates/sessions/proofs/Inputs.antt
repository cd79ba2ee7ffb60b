-- From an input to its answers: what is written for a stream of bytes is written for its lines, and calls on blocks make one stream.
use Prim.Native.Nat.{ℕ, ◌+◌, ◌≤◌}
use mathlib.Core.Path.{◌≡◌, refl, sym, ap, ap₂, subst, ◌∙◌}
use mathlib.Core.List.{List, [], ◌∷◌, ◌++◌, append_assoc, append-nil}
use native.Mathlib.Omega.{arith}
use native.Mathlib.Decide.{ℕ_discrete}
use borrow.Author.Tests.{eq-eqb, ne_eqb}
use lib.ListN.{length, take, drop, replicate, length-replicate}
use lib.Seq.{take_at, take-length}
use Rattle.parlour.proofs.Existence.{some_loan}
use Rattle.line.specs.Parlour.{state_length}
use Rattle.stream.specs.Stream.{newline, empty_state, answer_text, Output, followed, line_output, output, line_after, last_output, whole_output}
use Rattle.stream.specs.Kept.{longest_line, Kept, kept_line, kept_after}
use Rattle.stream.specs.Call.{room, Ready, ending, put_from, keeping, Taken}
use Rattle.stream.specs.declared.Fed.{Fed}
use Rattle.stream.proofs.Keeping.{Fits, fits_after, output_join, last_kept, kept_append}
use Rattle.stream.proofs.Calls.{is_ready_lem, feed_taken, taken_of, finish_last, last_of}
use Rattle.sessions.specs.Input.{with_last, lines_from, answers_to}
use Rattle.sessions.specs.Stream.{Feeding, begun, fed, Finished}
use Rattle.sessions.specs.Theory.{InputClaim, FinishedOf}
use Rattle.sessions.proofs.Stands.{Stands, next, stands_start, stands_long, stands_images}

-- A stream is answered as its lines are

-- these lines, answered so, leave such a state
record Reached (ls : List (List ℕ)) (said state : List ℕ) : Type 0 where
  answers : said ≡ answers_to ls
  stands : Stands ls state

module _ {earlier : List (List ℕ)} {said state : List ℕ} (w : Reached earlier said state) where
  line_reached : (line : List ℕ) → let o = line_output state line in Reached (line ∷ earlier) (said ++ o.answers) o.state
  unfolding line_output answers_to
  line_reached line = let n = next earlier state line w.stands in record { answers = ap₂ (λ a b. a ++ answer_text b) w.answers n.answer; stands = n.stands }

  last_reached : (line : List ℕ) → let o = last_output state line in Reached (with_last earlier line) (said ++ o.answers) o.state
  last_reached [] = subst (λ a. Reached earlier a state) (sym (append-nil said)) w
  last_reached (b ∷ line) = line_reached (b ∷ line)

reached : (input line : List ℕ) {earlier : List (List ℕ)} {said state : List ℕ} → Reached earlier said state → let o = output state line input in
    let last = last_output o.state (line_after line input) in Reached (lines_from earlier line input) (said ++ (o.answers ++ last.answers)) last.state
unfolding lines_from line_after output
reached [] line w = last_reached w line
reached (b ∷ input) line {earlier} {said} {state} w = elim (ℕ_discrete b newline) [
  | yes e ↦
      let first = line_output state line in
      let o = output first.state [] input in
      let last = last_output o.state (line_after [] input) in
      rw (eq-eqb b newline e)
      (subst (λ a. Reached (lines_from (line ∷ earlier) [] input) a last.state)
      (append_assoc said first.answers (o.answers ++ last.answers) ∙ ap (λ a. said ++ a) (sym (append_assoc first.answers o.answers last.answers)))
      (reached input [] (line_reached w line)))
  | no f ↦ rw (ne_eqb b newline f) (reached input (line ++ (b ∷ [])) w)
]

pub runs : (input : List ℕ) → let o = whole_output input in InputClaim input o.answers o.state
unfolding answers_to
runs input = let r = reached input [] (record { answers = refl; stands = stands_start }) in record { answers_are = r.answers; images_are = stands_images r.stands }

-- Calls on blocks make one stream

-- every state that an input leaves is that of some lines
record Left (state : List ℕ) : Type 0 where
  ls : List (List ℕ)
  stands : Stands ls state

left : (input line : List ℕ) {state : List ℕ} → Left state → Left (output state line input).state
unfolding output line_output
left [] line w = w
left (b ∷ input) line {state} w = elim (ℕ_discrete b newline) [
  | yes e ↦ rw (eq-eqb b newline e) (left input [] (record { ls = line ∷ w.ls; stands = (next w.ls state line w.stands).stands }))
  | no f ↦ rw (ne_eqb b newline f) (left input (line ++ (b ∷ [])) w)
]

output_long : (input : List ℕ) → length (output empty_state [] input).state ≡ state_length
output_long input = stands_long (left input [] (record { ls = []; stands = stands_start })).stands

-- what the calls so far have made
record SoFar (input answers state text : List ℕ) (kept : ℕ) : Type 0 where
  first : List ℕ
  long : length first ≡ longest_line
  made : ◌≡◌ {A = Output} (record { answers = answers; state = state }) (output empty_state [] input)
  kept_is : keeping text kept ≡ kept_after (keeping first 0) input

module _ {input answers state text : List ℕ} {kept : ℕ} (w : SoFar input answers state text kept) where
  fits_first : Fits (keeping w.first 0)
  fits_first = record { long = w.long; to = omega arith }

  ready : {out : List ℕ} → room ≤ length out → Ready state text kept out
  ready l =
      let fits = subst Fits (sym w.kept_is) (fits_after (keeping w.first 0) input fits_first) in
      record { state_long = ap (λ o. length o.state) w.made ∙ output_long input; text_long = fits.long; kept_to = fits.to; out_long = l }

-- the front of a buffer
front : (out : List ℕ) (o : Output) {end : ℕ} {state' out' : List ℕ} → ending end state' out' ≡ put_from out 0 o → ◌≡◌ {A = Output} (record { answers = take end out'; state = state' }) o
front out o e =
    ap (λ x. record { answers = take x.end x.out; state = x.state }) e
    ∙ ap (λ a. record { answers = a; state = o.state }) (take_at o.answers (drop (0 + length o.answers) out) (0 + length o.answers) (omega arith))

so_far : {input answers state text : List ℕ} {kept : ℕ} → Feeding input answers state text kept → SoFar input answers state text kept
unfolding kept_after output
so_far (begun text e) = record { first = text; long = e; made = refl; kept_is = refl }
so_far (fed {input = input} {answers = answers} {state = state} {text = text} {kept = kept} feeding block out r state' text' out' l call) =
    let w = so_far feeding in
    let t = (taken_of (ready w l) call.learnt).answers in
    let part = take r.taken block in
    record {
      first = w.first;
      long = w.long;
      made =
          ap (followed (record { answers = answers; state = state })) (front out (output state (take kept text) part) t.answered)
          ∙ ap (λ o. followed o (output o.state (take kept text) part)) w.made
          ∙ output_join input part empty_state (fits_first w) w.kept_is;
      kept_is = t.kept_is ∙ ap (λ k. kept_after k part) w.kept_is ∙ sym (kept_append (keeping w.first 0) input part);
    }

pub blocks : (input answers state : List ℕ) → Finished input answers state → InputClaim input answers state
blocks input answers state f =
    let w = so_far f.feeding in
    let line = take f.kept f.text in
    let whole : ◌≡◌ {A = Output} (record { answers = answers; state = state }) (whole_output input) =
    ap (λ a. record { answers = a; state = state }) f.answers_are
    ∙ ap (followed (record { answers = f.before; state = f.state })) (front f.out (last_output f.state line) (last_of (ready w f.long) f.call.learnt))
    ∙ ap (λ o. followed o (last_output o.state line)) w.made
    ∙ ap (followed (output empty_state [] input)) (last_kept input (output empty_state [] input).state (fits_first w) refl w.kept_is) in
    subst (λ (o : Output). InputClaim input o.answers o.state) (sym whole) (runs input)

-- Every input has its calls: in one block, with buffers that have room for all answers
pub blocks_exist : (input : List ℕ) → FinishedOf input
blocks_exist input =
    let text : List ℕ = replicate longest_line 0 in
    let k : Kept = keeping text 0 in
    let fits : Fits k = record { long = length-replicate {A = ℕ} longest_line 0; to = omega arith } in
    let o = output empty_state [] input in
    let after : Kept = kept_after k input in
    let out : List ℕ = replicate (length o.answers + room) 0 in
    let long : length out ≡ length o.answers + room = length-replicate {A = ℕ} (length o.answers + room) 0 in
    let p = put_from out 0 o in
    let r : Fed = record { taken = length input; kept = after.count; end = p.end } in
    let whole : take (length input) input ≡ input = take-length input in
    let start : Ready empty_state text 0 out = record { state_long = stands_long stands_start; text_long = fits.long; kept_to = omega arith; out_long = omega arith } in
    let took : Taken empty_state text 0 input out r o.state after.text p.out = record {
      taken_to = omega arith;
      taken_some = λ l. l;
      stops_full = λ l. absurd (omega arith);
      kept_to = (fits_after k input fits).to;
      end_to = omega arith;
      answers = record { answered = ap (λ i. put_from out 0 (output empty_state [] i)) (sym whole); kept_is = ap (kept_after k) (sym whole) };
    } in
    let feeding = fed (begun text fits.long) input out r o.state after.text p.out (omega arith) (record {
      lifetimes = ([], ([], ([], ([], tt))));
      one = some_loan;
      other = some_loan;
      third = some_loan;
      fourth = some_loan;
      learnt = feed_taken (is_ready_lem start) took;
    }) in
    let last = last_output o.state (kept_line after) in
    let last_out : List ℕ = replicate (length last.answers + room) 0 in
    let last_long : length last_out ≡ length last.answers + room = length-replicate {A = ℕ} (length last.answers + room) 0 in
    let q = put_from last_out 0 last in
    let end : Ready o.state after.text after.count last_out =
    record { state_long = output_long input; text_long = (fits_after k input fits).long; kept_to = (fits_after k input fits).to; out_long = omega arith } in
    record {
      answers = _;
      state = last.state;
      finished = record {
        before = _;
        state = o.state;
        text = after.text;
        kept = after.count;
        feeding = subst (λ i. Feeding i (take r.end p.out) o.state after.text after.count) whole feeding;
        out = last_out;
        end = q.end;
        out' = q.out;
        long = omega arith;
        call = record { lifetimes = ([], ([], ([], tt))); one = some_loan; other = some_loan; third = some_loan; learnt = sym (finish_last o.state after.text after.count last_out (is_ready_lem end)) };
        answers_are = refl;
      };
    }
