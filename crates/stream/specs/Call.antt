-- The functions of `stream`: what comes back, and what every lent byte holds afterwards.
use Rattle.std.specs.Prelude.{ℕ, ◌+◌, ◌≤◌, ◌<◌, ◌≡◌, Bool, true, false, ◌&&◌, cond, List, ◌++◌, leb, eqb, length, take, drop}
use Rattle.line.specs.Parlour.{state_length}
use Rattle.line.specs.Answer.{longest_answer}
use Rattle.stream.specs.Stream.{Output, output, last_output}
use Rattle.stream.specs.Kept.{longest_line, Kept, kept_line, kept_after}
use Rattle.stream.specs.declared.Fed.{Fed}

-- the longest answer and a newline
abbrev pub room : ℕ
room = longest_answer + 1

-- the runs have the lengths that are asked for, and no more of the line is kept than there is room for
unfoldable pub is_ready : List ℕ → List ℕ → ℕ → List ℕ → Bool
is_ready state text kept out = eqb (length state) state_length && eqb (length text) longest_line && leb kept longest_line && leb room (length out)

-- the same, as facts
pub record Ready (state text : List ℕ) (kept : ℕ) (out : List ℕ) : Type 0 where
  pub state_long : length state ≡ state_length
  pub text_long : length text ≡ longest_line
  pub kept_to : kept ≤ longest_line
  pub out_long : room ≤ length out

-- where the answers end, and every byte of the state and of the buffer afterwards
pub record StreamOutcome : Type 0 where
  pub end : ℕ
  pub state : List ℕ
  pub out : List ℕ

abbrev pub ending : ℕ → List ℕ → List ℕ → StreamOutcome
ending end state out = record { end = end; state = state; out = out }

-- answers from a place of a buffer on, the rest of it as it was
abbrev pub put_from : List ℕ → ℕ → Output → StreamOutcome
put_from out at o = let end = at + length o.answers in ending end o.state (take at out ++ o.answers ++ drop end out)

-- some input answered from a place of a buffer on, and what is then kept of the line
pub record Answers (state : List ℕ) (kept : Kept) (input out : List ℕ) (at end : ℕ) (state' : List ℕ) (kept' : Kept) (out' : List ℕ) : Type 0 where
  pub answered : ending end state' out' ≡ put_from out at (output state (kept_line kept) input)
  pub kept_is : kept' ≡ kept_after kept input

abbrev pub keeping : List ℕ → ℕ → Kept
keeping text count = record { text = text; count = count }

-- the front of a block answered at the front of a buffer: all of it, or as much as there was room for
pub record Taken (state text : List ℕ) (kept : ℕ) (block out : List ℕ) (fed : Fed) (state' text' out' : List ℕ) : Type 0 where
  pub taken_to : fed.taken ≤ length block
  pub taken_some : 1 ≤ length block → 1 ≤ fed.taken
  pub stops_full : fed.taken < length block → length out < fed.end + room
  pub kept_to : fed.kept ≤ longest_line
  pub end_to : fed.end ≤ length out
  pub answers : Answers state (keeping text kept) (take fed.taken block) out 0 fed.end state' (keeping text' fed.kept) out'

-- other buffers: nothing is taken, and every byte is as it was
abbrev pub FeedIn : List ℕ → List ℕ → ℕ → List ℕ → List ℕ → Fed → List ℕ → List ℕ → List ℕ → Bool → Type 0
FeedIn state text kept block out fed state' text' out' true = Taken state text kept block out fed state' text' out'
FeedIn state text kept block out fed state' text' out' false =
    (fed ≡ record { taken = 0; kept = kept; end = 0 }) × (state' ≡ state) × (text' ≡ text) × (out' ≡ out)

pub record FeedCall (state text : List ℕ) (kept : ℕ) (block out : List ℕ) (fed : Fed) (state' text' out' : List ℕ) : Type 0 where
  pub fed_is : FeedIn state text kept block out fed state' text' out' (is_ready state text kept out)

-- the last line answered at the front of a buffer, where the input ends; with other buffers nothing is, and every byte is as it was
unfoldable pub finish_call : List ℕ → List ℕ → ℕ → List ℕ → StreamOutcome
finish_call state text kept out = cond (is_ready state text kept out) (put_from out 0 (last_output state (take kept text))) (ending 0 state out)
