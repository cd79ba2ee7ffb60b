-- From an input to what is written for it, by its lines alone.
-- Document 01: "It reads standard input, one frame of hexadecimal digits a line, newline at the end (the last may lack it), and answers each line with one."
use Rattle.std.specs.Prelude.{ℕ, cond, List, [], ◌∷◌, ◌++◌, eqb}
use Rattle.stream.specs.Stream.{newline, answer_text}
use Rattle.sessions.specs.Answer.{answer_after}

-- at the end of the input: a last line that lacks its newline is a line, an empty one is not there
abbrev pub with_last : List (List ℕ) → List ℕ → List (List ℕ)
with_last earlier [] = earlier
with_last earlier (b ∷ line) = (b ∷ line) ∷ earlier

-- the lines of some input, newest first, behind these and with this begun
unfoldable pub lines_from : List (List ℕ) → List ℕ → List ℕ → List (List ℕ)
lines_from earlier line [] = with_last earlier line
lines_from earlier line (b ∷ input) = cond (eqb b newline) (lines_from (line ∷ earlier) [] input) (lines_from earlier (line ++ (b ∷ [])) input)

abbrev pub lines_of : List ℕ → List (List ℕ)
lines_of input = lines_from [] [] input

-- what is written for some lines, newest first: an answer and a newline for each in turn
unfoldable pub answers_to : List (List ℕ) → List ℕ
answers_to [] = []
answers_to (line ∷ earlier) = answers_to earlier ++ answer_text (answer_after earlier line)
