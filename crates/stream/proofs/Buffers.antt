-- Answers to the bytes of a block, one after the other in a buffer.
use Prim.Native.Nat.{ℕ, ◌+◌, ◌-◌, ◌*◌, ◌≤◌, ◌<◌}
use mathlib.Core.Path.{◌≡◌, refl, sym, ap, ap₂, subst, ◌∙◌}
use mathlib.Core.List.{List, [], ◌∷◌, ◌++◌, append_assoc, append-nil}
use native.Mathlib.Omega.{arith}
use native.Mathlib.Numerals.{add-one}
use borrow.Author.Tests.{eq-eqb, ne_eqb}
use lib.ListN.{length, get_or, take, drop, set, length-append, take-append-drop}
use lib.Seq.{take-suc, drop-append-le, drop-drop, length-take-le}
use Rattle.line.specs.Digits.{digits_of}
use Rattle.line.specs.Parlour.{state_length}
use Rattle.line.specs.Answer.{reply_to_line, longest_answer, written, outcome, replied, answer_call}
use Rattle.image.proofs.Overwrite.{store_next, behind}
use Rattle.line.proofs.Hexadecimal.{length_digits}
use Rattle.line.proofs.Lines.{answer_fits}
use Rattle.stream.specs.Stream.{newline, answer_text, Output, silent, followed, line_output, output, last_output}
use Rattle.stream.specs.Kept.{Kept, kept_line, with_byte, begun, kept_after}
use Rattle.stream.specs.Call.{room, ending, put_from, Answers}
use Rattle.stream.proofs.Answers.{part_room}
use Rattle.stream.proofs.Keeping.{Fits, kept_append, output_join}

-- no answers, and some behind others
pub put_nothing : (out : List ℕ) (at : ℕ) (state : List ℕ) → ending at state out ≡ put_from out at (silent state)
put_nothing out at state =
    let ends : at ≡ at + 0 = omega arith in
    ap (ending at state) (sym (take-append-drop at out) ∙ ap (λ y. y ++ drop at out) (sym (append-nil (take at out)))) ∙ ap (λ i. ending i state (take at out ++ [] ++ drop i out)) ends

put_join : (out : List ℕ) (a b : Output) → let first = put_from out 0 a in put_from first.out first.end b ≡ put_from out 0 (followed a b)
put_join out a b =
    let end = 0 + length a.answers in
    let ends : end + length b.answers ≡ 0 + length (a.answers ++ b.answers) = omega (arith, length-append a.answers b.answers) in
    ap (ending (end + length b.answers) b.state) (behind a.answers out b.answers end (length b.answers) (omega arith))
    ∙ ap (λ i. ending i b.state (a.answers ++ b.answers ++ drop i out)) ends

-- a line's answer in the part that it is lent, and a newline behind it
module _ (state text out x state' : List ℕ) (at r : ℕ) (long : length state ≡ state_length) (fits : at + room ≤ length out) (less : r ≤ longest_answer)
    (call : outcome r state' x ≡ answer_call state text (take (at + longest_answer - at) (drop at out))) where
  abbrev part : List ℕ
  part = take (at + longest_answer - at) (drop at out)

  abbrev bytes : List ℕ
  bytes = (reply_to_line state text).bytes

  is : outcome r state' x ≡ replied part (reply_to_line state text)
  is = call ∙ answer_fits state text part long (omega (arith, part_room out at fits))

  counted : r ≡ 2 * length bytes
  counted = ap (λ o. o.count) is

  -- the part and what follows it
  onward : drop r part ++ drop (at + longest_answer - at) (drop at out) ≡ drop (at + r) out
  onward =
      sym (drop-append-le r part (drop (at + longest_answer - at) (drop at out)) (omega (arith, part_room out at fits)))
      ∙ ap (drop r) (take-append-drop (at + longest_answer - at) (drop at out))
      ∙ drop-drop r at out

  put : take at out ++ (x ++ drop (at + longest_answer - at) (drop at out)) ≡ (take at out ++ digits_of bytes) ++ drop (at + r) out
  unfolding written
  put =
      ap (λ y. take at out ++ (y ++ drop (at + longest_answer - at) (drop at out))) (ap (λ o. o.out) is ∙ ap (λ k. digits_of bytes ++ drop k part) (sym counted))
      ∙ ap (λ y. take at out ++ y) (append_assoc (digits_of bytes) (drop r part) (drop (at + longest_answer - at) (drop at out)) ∙ ap (λ y. digits_of bytes ++ y) onward)
      ∙ sym (append_assoc (take at out) (digits_of bytes) (drop (at + r) out))

  front : length (take at out ++ digits_of bytes) ≡ at + r
  front = length-append (take at out) (digits_of bytes) ∙ omega (arith, length-take-le at out (omega arith), length_digits bytes, counted)

  with_newline : set (take at out ++ (x ++ drop (at + longest_answer - at) (drop at out))) (at + r) newline ≡ take at out ++ answer_text bytes ++ drop (at + r + 1) out
  with_newline =
      ap (λ y. set y (at + r) newline) put
      ∙ store_next out (take at out ++ digits_of bytes) (at + r) newline front (omega arith)
      ∙ ap (λ y. y ++ drop (at + r + 1) out) (append_assoc (take at out) (digits_of bytes) (newline ∷ []))

  pub line_answered : ending (at + r + 1) state' (set (take at out ++ (x ++ drop (at + longest_answer - at) (drop at out))) (at + r) newline) ≡ put_from out at (line_output state text)
  unfolding line_output
  line_answered =
      let ends : at + r + 1 ≡ at + length (answer_text bytes) = omega (arith, counted, length-append (digits_of bytes) (newline ∷ []), length_digits bytes) in
      ap₂ (ending (at + r + 1)) (ap (λ o. o.state) is) with_newline
      ∙ ap (λ i. ending i (reply_to_line state text).state (take at out ++ answer_text bytes ++ drop i out)) ends

-- one byte: a newline ends the line, any other is kept
module _ {state out : List ℕ} {k : Kept} {b at : ℕ} where
  pub answers_newline : {end : ℕ} {state' out' : List ℕ} → b ≡ newline → ending end state' out' ≡ put_from out at (line_output state (kept_line k))
      → Answers state k (b ∷ []) out at end state' (begun k) out'
  unfolding kept_after output
  answers_newline e w =
      let first = line_output state (kept_line k) in
      record {
        answered = rw (eq-eqb b newline e) (w ∙ ap (λ a. put_from out at (record { answers = a; state = first.state })) (sym (append-nil first.answers)));
        kept_is = rw (eq-eqb b newline e);
      }

  pub answers_byte : {k' : Kept} → (b ≡ newline → ⊥) → k' ≡ with_byte k b → Answers state k (b ∷ []) out at at state k' out
  unfolding kept_after output
  answers_byte f e = record { answered = rw (ne_eqb b newline f) (put_nothing out at state); kept_is = rw (ne_eqb b newline f) e }

-- nothing yet, and some more
pub answers_start : {state out : List ℕ} {k : Kept} → Answers state k [] out 0 0 state k out
unfolding kept_after output
answers_start {state} {out} = record { answered = put_nothing out 0 state; kept_is = refl }

pub answers_join : (m n : List ℕ) {state out : List ℕ} {k k₁ k₂ : Kept} {end₁ end₂ : ℕ} {state₁ out₁ state₂ out₂ : List ℕ} → Fits k
    → Answers state k m out 0 end₁ state₁ k₁ out₁ → Answers state₁ k₁ n out₁ end₁ end₂ state₂ k₂ out₂
    → Answers state k (m ++ n) out 0 end₂ state₂ k₂ out₂
answers_join m n {state} {out} {k} {k₁} fits v w =
    let first = output state (kept_line k) m in
    record {
      answered =
          w.answered
          ∙ ap (λ o. put_from o.out o.end (output o.state (kept_line k₁) n)) v.answered
          ∙ put_join out first (output first.state (kept_line k₁) n)
          ∙ ap (put_from out 0) (output_join m n state fits v.kept_is);
      kept_is = w.kept_is ∙ ap (λ x. kept_after x n) v.kept_is ∙ sym (kept_append k m n);
    }

-- the bytes taken, and one more
pub answers_next : (block : List ℕ) (taken : ℕ) {state out : List ℕ} {k k₁ k₂ : Kept} {end₁ end₂ : ℕ} {state₁ out₁ state₂ out₂ : List ℕ} → taken < length block → Fits k
    → Answers state k (take taken block) out 0 end₁ state₁ k₁ out₁ → Answers state₁ k₁ (get_or block taken 0 ∷ []) out₁ end₁ end₂ state₂ k₂ out₂
    → Answers state k (take (taken + 1) block) out 0 end₂ state₂ k₂ out₂
answers_next block taken {state} {out} {k} {k₂ = k₂} {end₂ = end₂} {state₂ = state₂} {out₂} l fits v w =
    subst (λ i. Answers state k i out 0 end₂ state₂ k₂ out₂) (sym (ap (λ i. take i block) (add-one taken) ∙ take-suc block taken 0 l))
    (answers_join (take taken block) (get_or block taken 0 ∷ []) fits v w)

pub answers_whole : (block : List ℕ) {taken : ℕ} {state out : List ℕ} {k k₁ : Kept} {end : ℕ} {state₁ out₁ : List ℕ} → taken ≡ length block → Answers state k (take taken block) out 0 end state₁ k₁ out₁
    → Answers state k (take (length block) block) out 0 end state₁ k₁ out₁
answers_whole block {state = state} {out} {k} {k₁} {end} {state₁} {out₁} e = subst (λ i. Answers state k (take i block) out 0 end state₁ k₁ out₁) e

-- the last line, where some of one is kept
pub last_some : (state line : List ℕ) → 1 ≤ length line → line_output state line ≡ last_output state line
last_some state [] l = absurd (omega arith)
last_some state (b ∷ line) l = refl
