-- The answer to a line in the part of a buffer that it is lent.
use Prim.Native.Nat.{ℕ, ◌+◌, ◌-◌, ◌*◌, ◌≤◌}
use mathlib.Core.Path.{◌≡◌, ap, ◌∙◌}
use mathlib.Core.Bool.{Bool, true, false, ◌&&◌, cond}
use mathlib.Core.List.{List, ◌++◌}
use native.Mathlib.Omega.{arith}
use lib.Dec.{leb, eqb}
use lib.ListN.{length, take, drop, length-append, length-drop}
use lib.Seq.{length-take-le}
use Rattle.line.specs.Digits.{digits_of}
use Rattle.line.specs.Parlour.{state_length}
use Rattle.line.specs.Answer.{reply_to_line, longest_answer, written, outcome, replied, answer_call}
use Rattle.stream.specs.Call.{room}
use Rattle.line.proofs.Hexadecimal.{length_digits}

length_written : (out bytes : List ℕ) → length (written out bytes) ≡ 2 * length bytes + (length out - 2 * length bytes)
unfolding written
length_written out bytes = length-append (digits_of bytes) (drop (2 * length bytes) out) ∙ omega (arith, length_digits bytes, length-drop (2 * length bytes) out)

-- no more digits than the part has bytes
pub count_within : (state line out : List ℕ) {count : ℕ} {state' out' : List ℕ} → outcome count state' out' ≡ answer_call state line out → length out' ≡ length out → count ≤ length out
unfolding answer_call
count_within state line out {count} {state'} {out'} e same = go (eqb (length state) state_length && leb longest_answer (length out)) e
  where
    go : (b : Bool) → outcome count state' out' ≡ cond b (replied out (reply_to_line state line)) (outcome 0 state out) → count ≤ length out
    go true i = omega (arith, ap (λ o. o.count) i, ap (λ o. length o.out) i, length_written out (reply_to_line state line).bytes)
    go false i = omega (arith, ap (λ o. o.count) i)

-- a part as long as the longest answer is one
pub part_room : (out : List ℕ) (at : ℕ) → at + room ≤ length out → length (take (at + longest_answer - at) (drop at out)) ≡ longest_answer
part_room out at l = length-take-le (at + longest_answer - at) (drop at out) (omega (arith, length-drop at out)) ∙ omega arith

-- and as long as before
pub length_put : (out x : List ℕ) (at : ℕ) → at + room ≤ length out → length x ≡ longest_answer → length (take at out ++ (x ++ drop (at + longest_answer - at) (drop at out))) ≡ length out
length_put out x at l e =
    length-append (take at out) (x ++ drop (at + longest_answer - at) (drop at out))
    ∙ omega (arith, length-take-le at out (omega arith), length-append x (drop (at + longest_answer - at) (drop at out)), length-drop (at + longest_answer - at) (drop at out), length-drop at out)
