-- Document 01's listing, a head that meets before it is milked, and who has heard it all, from input to output, by evaluation of what lines alone say.
use Rattle.std.specs.Prelude.{◌≡◌, refl, [], ◌∷◌}
use Rattle.line.specs.Digits.{digits_of}
use Rattle.line.specs.Examples.{answered, frames, answers}
use Rattle.parlour.specs.Examples.{evaluated}
use Rattle.settled.specs.Examples as Settled
use Rattle.stream.specs.Stream.{newline}
use Rattle.stream.specs.Examples.{text}
use Rattle.sessions.specs.Lines.{opens, heads, items_of, items}
use Rattle.sessions.specs.Input.{lines_from, lines_of, answers_to}

-- a line has no newline; behind the last newline there is no line, and a last line may lack it
lines_examples : (lines_of (text ((0x01 ∷ 0x03 ∷ []) ∷ (0x04 ∷ 0x01 ∷ []) ∷ [])) ≡ digits_of (0x04 ∷ 0x01 ∷ []) ∷ digits_of (0x01 ∷ 0x03 ∷ []) ∷ [])
    × (lines_of (digits_of (0x01 ∷ 0x03 ∷ [])) ≡ digits_of (0x01 ∷ 0x03 ∷ []) ∷ [])
    × (lines_of (newline ∷ newline ∷ []) ≡ [] ∷ [] ∷ [])
unfolding answered lines_from text
lines_examples = (refl, refl, refl)

-- "Input and whole output"
listing_example : answers_to (lines_of (text frames)) ≡ text answers
unfolding answered evaluated lines_from text opens heads items_of items answers_to
listing_example = refl

-- head 2 meets before it is milked, and head 1 gives 0: the heard list of head 2 has 0 for stall 1 and ffff for stall 2
not_milked_example : answers_to (lines_of (text ((0x01 ∷ 0x02 ∷ []) ∷ (0x02 ∷ 0x01 ∷ 0x00 ∷ 0x00 ∷ []) ∷ (0x03 ∷ 0x01 ∷ 0x02 ∷ []) ∷ (0x05 ∷ 0x02 ∷ []) ∷ [])))
    ≡ text ((0x00 ∷ []) ∷ (0x00 ∷ []) ∷ (0x00 ∷ 0x00 ∷ 0x00 ∷ 0x00 ∷ []) ∷ (0x00 ∷ 0x02 ∷ 0x01 ∷ 0x00 ∷ 0x00 ∷ 0x02 ∷ 0xff ∷ 0xff ∷ []) ∷ [])
unfolding answered evaluated lines_from text opens heads items_of items answers_to
not_milked_example = refl

-- three heads, 1-2, 2-3, then 1-3: head 3's number for stall 1 is 3, and 2 once it has heard of a newer meeting of stall 1
settled_example : answers_to (lines_of (text ((0x01 ∷ 0x03 ∷ []) ∷ (0x03 ∷ 0x01 ∷ 0x02 ∷ []) ∷ (0x03 ∷ 0x02 ∷ 0x03 ∷ []) ∷ (0x06 ∷ 0x03 ∷ []) ∷ (0x03 ∷ 0x01 ∷ 0x03 ∷ []) ∷ (0x06 ∷ 0x03 ∷ []) ∷ [])))
    ≡ text ((0x00 ∷ []) ∷ (0x00 ∷ 0x00 ∷ 0x00 ∷ 0x00 ∷ 0x00 ∷ []) ∷ (0x00 ∷ 0x00 ∷ 0x01 ∷ 0x01 ∷ 0x00 ∷ []) ∷ (0x00 ∷ 0x03 ∷ 0x02 ∷ 0x02 ∷ []) ∷ (0x00 ∷ 0x00 ∷ 0x00 ∷ 0x02 ∷ 0x02 ∷ []) ∷ (0x00 ∷ 0x02 ∷ 0x03 ∷ 0x02 ∷ []) ∷ [])
unfolding answered evaluated Settled.evaluated lines_from text opens heads items_of items answers_to
settled_example = refl
