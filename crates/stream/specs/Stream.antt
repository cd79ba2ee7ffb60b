-- The answers to a stream of input.
-- Document 01: "It reads standard input, one frame of hexadecimal digits a line, newline at the end (the last may lack it), and answers each line with one."
use Rattle.std.specs.Prelude.{ℕ, cond, List, [], ◌∷◌, ◌++◌, eqb, replicate}
use Rattle.line.specs.Digits.{digits_of}
use Rattle.line.specs.Parlour.{state_length}
use Rattle.line.specs.Answer.{reply_to_line}

abbrev pub newline : ℕ
newline = 10

-- the state before any line: no parlour is open
abbrev pub empty_state : List ℕ
empty_state = replicate state_length 0

-- an answer as it is written
abbrev pub answer_text : List ℕ → List ℕ
answer_text bytes = digits_of bytes ++ (newline ∷ [])

-- all answers to some input, and the state that it leaves
pub record Output : Type 0 where
  pub answers : List ℕ
  pub state : List ℕ

abbrev pub silent : List ℕ → Output
silent state = record { answers = []; state = state }

abbrev pub followed : Output → Output → Output
followed first next = record { answers = first.answers ++ next.answers; state = next.state }

-- of one line
unfoldable pub line_output : List ℕ → List ℕ → Output
line_output state line = let reply = reply_to_line state line in record { answers = answer_text reply.bytes; state = reply.state }

-- of some input, where `line` is what has come since the last newline
unfoldable pub output : List ℕ → List ℕ → List ℕ → Output
output state line [] = silent state
output state line (b ∷ input) =
    let first = line_output state line in
    cond (eqb b newline) (followed first (output first.state [] input)) (output state (line ++ (b ∷ [])) input)

-- what has come since the last newline
unfoldable pub line_after : List ℕ → List ℕ → List ℕ
line_after line [] = line
line_after line (b ∷ input) = cond (eqb b newline) (line_after [] input) (line_after (line ++ (b ∷ [])) input)

-- where the input ends: "the last may lack it", and is answered too; an empty one is not there
abbrev pub last_output : List ℕ → List ℕ → Output
last_output state [] = silent state
last_output state (b ∷ line) = line_output state (b ∷ line)

-- of a whole input, from the empty state to its end
abbrev pub whole_output : List ℕ → Output
whole_output input = let before = output empty_state [] input in followed before (last_output before.state (line_after [] input))
