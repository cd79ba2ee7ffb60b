-- Document 01's listing as a stream of bytes, and inputs whose last line lacks its newline, by evaluation.
use Rattle.std.specs.Prelude.{ℕ, ◌≡◌, refl, List, [], ◌∷◌, ◌++◌}
use Rattle.line.specs.Digits.{digits_of}
use Rattle.line.specs.Parlour.{fresh_state}
use Rattle.line.specs.Examples.{answered, frames, answers}
use Rattle.stream.specs.Stream.{empty_state, answer_text, Output, silent, line_output, output, line_after, whole_output}

-- some runs of bytes as text, a newline behind each
unfoldable pub text : List (List ℕ) → List ℕ
text [] = []
text (bytes ∷ l) = answer_text bytes ++ text l

-- "Input and whole output"
listing_example : (whole_output (text frames)).answers ≡ text answers
unfolding answered line_output output line_after text
listing_example = refl

-- a last line that lacks its newline is answered too; an empty one is not there, before any line and after a newline
last_examples : let opened : Output = record { answers = answer_text (0x00 ∷ []); state = fresh_state 3 } in (whole_output (digits_of (0x01 ∷ 0x03 ∷ [])) ≡ opened)
    × (whole_output [] ≡ silent empty_state)
    × (whole_output (answer_text (0x01 ∷ 0x03 ∷ [])) ≡ opened)
unfolding answered line_output output line_after
last_examples = (refl, refl, refl)
