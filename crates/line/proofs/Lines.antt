-- The answer to a line, by the lengths of the buffers and by whether a parlour is open.
use Prim.Native.Nat.{ℕ, ◌≤◌, ◌<◌}
use mathlib.Core.Path.{◌≡◌, sym, ap, ap₂, ◌∙◌}
use mathlib.Core.Bool.{Bool, false, ◌&&◌, and-false}
use mathlib.Core.List.{List}
use borrow.Author.Tests.{eq-eqb, le-leb, lt-leb}
use lib.Dec.{leb, eqb}
use lib.ListN.{length}
use Rattle.line.specs.Frame.{frame_of}
use Rattle.line.specs.Parlour.{state_length, is_open}
use Rattle.line.specs.Answer.{longest_answer, reply_to, reply_to_line, AnswerOutcome, outcome, replied, answer_call}
use Rattle.line.specs.declared.frame.Frame.{Frame}

module _ (state line out : List ℕ) where
  -- buffers of the right lengths
  pub answer_fits : length state ≡ state_length → longest_answer ≤ length out → answer_call state line out ≡ replied out (reply_to_line state line)
  unfolding answer_call
  answer_fits e l = rw (eq-eqb (length state) state_length e, le-leb longest_answer (length out) l)

  pub answered : {opened : Bool} {frame : Frame} {o : AnswerOutcome} → length state ≡ state_length → longest_answer ≤ length out → opened ≡ is_open state → frame ≡ frame_of line
      → o ≡ replied out (reply_to state opened frame) → o ≡ answer_call state line out
  answered e l o f r = r ∙ ap₂ (λ b x. replied out (reply_to state b x)) o f ∙ sym (answer_fits e l)

  -- and others
  unfit : (eqb (length state) state_length && leb longest_answer (length out)) ≡ false → outcome 0 state out ≡ answer_call state line out
  unfolding answer_call
  unfit e = rw e

  pub short_buffer : length out < longest_answer → outcome 0 state out ≡ answer_call state line out
  short_buffer l = unfit (ap (λ t. eqb (length state) state_length && t) (lt-leb longest_answer (length out) l) ∙ and-false (eqb (length state) state_length))
