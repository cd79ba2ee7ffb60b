-- Document 01's listing as lines, its examples for the numbers 10 and 11, those of the other numbers that a line can draw, heard lists, and request 2026-05's kind on the
-- listing, by evaluation.
use Rattle.std.specs.Prelude.{ℕ, ◌≡◌, refl, replicate}
use mathlib.Core.List.{List, [], ◌∷◌, ◌++◌, map, flat_map}
use Rattle.image.specs.Stalls.{count}
use Rattle.image.specs.Examples.{not_milked, listing}
use Rattle.merge.specs.Examples.{evaluated as merge_evaluated}
use Rattle.head.specs.Calls.{milked, milking_call}
use Rattle.head.specs.Settled.{settled_counts, settled_from}
use Rattle.head.specs.Examples.{heard_evaluated}
use Rattle.line.specs.Digits.{is_digit, digit_value, all_digits, whole_pairs, pair_value, bytes_of, digit_of, digits_of}
use Rattle.line.specs.Frame.{kind_of_two, kind_of_three, kind_of_four, frame_of_bytes, frame_of}
use Rattle.line.specs.Parlour.{state_length, image_of, with_image, fresh_slot, fresh_state}
use Rattle.line.specs.Answer.{opening, milking, meeting_of, meeting, showing, hearing, settling, reply_to_line}

-- whoever unfolds this unfolds all that an answer is computed with
unfoldable pub answered : Unit {0}
unfolding flat_map merge_evaluated milked milking_call heard_evaluated count settled_counts settled_from is_digit digit_value all_digits whole_pairs pair_value bytes_of digit_of digits_of kind_of_two kind_of_three kind_of_four frame_of_bytes frame_of image_of with_image fresh_slot fresh_state opening milking meeting_of meeting showing hearing settling
answered = tt

-- the answers to some lines in turn, as bytes
unfoldable pub answers_to : List ℕ → List (List ℕ) → List (List ℕ)
answers_to state [] = []
answers_to state (line ∷ l) = let reply = reply_to_line state line in reply.bytes ∷ answers_to reply.state l

-- no parlour is open
abbrev pub shut : List ℕ
shut = replicate state_length 0

-- the digits are those of the listing
digit_examples : (digits_of (0x01 ∷ 0x03 ∷ []) ≡ 0x30 ∷ 0x31 ∷ 0x30 ∷ 0x33 ∷ []) × (digits_of (0x0a ∷ 0x9f ∷ []) ≡ 0x30 ∷ 0x61 ∷ 0x39 ∷ 0x66 ∷ [])
unfolding answered
digit_examples = (refl, refl)

-- the frames of the listing, and their answers
abbrev pub frames : List (List ℕ)
frames =
    (0x01 ∷ 0x03 ∷ [])
    ∷ (0x02 ∷ 0x01 ∷ 0x00 ∷ 0x12 ∷ [])
    ∷ (0x03 ∷ 0x01 ∷ 0x02 ∷ [])
    ∷ (0x03 ∷ 0x02 ∷ 0x03 ∷ [])
    ∷ (0x04 ∷ 0x03 ∷ [])
    ∷ []

abbrev pub answers : List (List ℕ)
answers =
    (0x00 ∷ [])
    ∷ (0x00 ∷ [])
    ∷ (0x00 ∷ 0x00 ∷ 0x00 ∷ 0x00 ∷ 0x00 ∷ [])
    ∷ (0x00 ∷ 0x00 ∷ 0x01 ∷ 0x01 ∷ 0x00 ∷ [])
    ∷ (0x00 ∷ listing)
    ∷ []

-- "Input and whole output"
listing_example : answers_to shut (map digits_of frames) ≡ answers
unfolding answered answers_to
listing_example = refl

-- 10: a digit alone; an empty line; an upper-case digit; a kind unknown; a length that is not the kind's; a carriage return
bad_examples : answers_to shut
    ((0x30 ∷ [])
    ∷ []
    ∷ (0x30 ∷ 0x34 ∷ 0x30 ∷ 0x41 ∷ [])
    ∷ digits_of (0x08 ∷ 0x01 ∷ [])
    ∷ digits_of (0x01 ∷ 0x03 ∷ 0x00 ∷ [])
    ∷ (digits_of (0x01 ∷ 0x03 ∷ []) ++ (0x0d ∷ []))
    ∷ [])
    ≡ replicate 6 (10 ∷ [])
unfolding answered answers_to
bad_examples = refl

-- 11 before any opening, and for a second one whatever its N; 10 comes first; an opening refused with 1 opens nothing
opening_examples : answers_to shut (map digits_of
    ((0x03 ∷ 0x01 ∷ 0x02 ∷ [])
    ∷ (0x07 ∷ [])
    ∷ (0x01 ∷ 0x01 ∷ [])
    ∷ (0x01 ∷ 0x11 ∷ [])
    ∷ (0x04 ∷ 0x01 ∷ [])
    ∷ (0x01 ∷ 0x02 ∷ [])
    ∷ (0x01 ∷ 0x02 ∷ [])
    ∷ (0x01 ∷ 0x01 ∷ [])
    ∷ []))
    ≡ (11 ∷ []) ∷ (10 ∷ []) ∷ (1 ∷ []) ∷ (1 ∷ []) ∷ (11 ∷ []) ∷ (0 ∷ []) ∷ (11 ∷ []) ∷ (11 ∷ []) ∷ []
unfolding answered answers_to
opening_examples = refl

-- 3 before 4, 3 before 7, yields of 999, 1000, fe00 and ffff, and the image that they leave
stall_examples : answers_to shut (map digits_of
    ((0x01 ∷ 0x02 ∷ [])
    ∷ (0x02 ∷ 0x00 ∷ 0x03 ∷ 0xe8 ∷ [])
    ∷ (0x03 ∷ 0x03 ∷ 0x03 ∷ [])
    ∷ (0x03 ∷ 0x01 ∷ 0x03 ∷ [])
    ∷ (0x03 ∷ 0x02 ∷ 0x02 ∷ [])
    ∷ (0x02 ∷ 0x01 ∷ 0x03 ∷ 0xe7 ∷ [])
    ∷ (0x02 ∷ 0x01 ∷ 0x03 ∷ 0xe8 ∷ [])
    ∷ (0x02 ∷ 0x01 ∷ 0xfe ∷ 0x00 ∷ [])
    ∷ (0x02 ∷ 0x01 ∷ 0xff ∷ 0xff ∷ [])
    ∷ (0x04 ∷ 0x01 ∷ [])
    ∷ []))
    ≡ (0 ∷ []) ∷ (3 ∷ []) ∷ (3 ∷ []) ∷ (3 ∷ []) ∷ (7 ∷ []) ∷ (0 ∷ []) ∷ (4 ∷ []) ∷ (4 ∷ []) ∷ (4 ∷ [])
    ∷ (0 ∷ ((2 ∷ 1 ∷ 0x03 ∷ 0xe7 ∷ replicate 8 0) ++ not_milked 2 ++ replicate 2 0)) ∷ []
unfolding answered answers_to
stall_examples = refl

-- 11 before any opening. A fresh head has heard nobody. After the listing's meetings head 3 has heard of all, with 0012 for stall 1 and not milked for 2 and 3; head 1 never
-- heard stall 3. 3: a stall that is not there.
heard_examples : answers_to shut (map digits_of ((0x05 ∷ 0x01 ∷ []) ∷ (0x01 ∷ 0x03 ∷ []) ∷ (0x05 ∷ 0x03 ∷ []) ∷ (0x02 ∷ 0x01 ∷ 0x00 ∷ 0x12 ∷ []) ∷ (0x03 ∷ 0x01 ∷ 0x02 ∷ [])
    ∷ (0x03 ∷ 0x02 ∷ 0x03 ∷ []) ∷ (0x05 ∷ 0x03 ∷ []) ∷ (0x05 ∷ 0x01 ∷ []) ∷ (0x05 ∷ 0x04 ∷ []) ∷ []))
    ≡ (11 ∷ []) ∷ (0 ∷ []) ∷ (0 ∷ 0 ∷ []) ∷ (0 ∷ []) ∷ (0 ∷ 0 ∷ 0 ∷ 0 ∷ 0 ∷ []) ∷ (0 ∷ 0 ∷ 1 ∷ 1 ∷ 0 ∷ [])
    ∷ (0 ∷ 3 ∷ 1 ∷ 0x00 ∷ 0x12 ∷ 2 ∷ 0xff ∷ 0xff ∷ 3 ∷ 0xff ∷ 0xff ∷ []) ∷ (0 ∷ 2 ∷ 1 ∷ 0x00 ∷ 0x12 ∷ 2 ∷ 0xff ∷ 0xff ∷ []) ∷ (3 ∷ []) ∷ []
unfolding answered answers_to
heard_examples = refl

-- Request 2026-07: stall 2 gave more than stall 1, and stall 3 was not milked; then as much as stall 2, and comes behind it
ranking_example : answers_to shut (map digits_of ((0x01 ∷ 0x03 ∷ []) ∷ (0x02 ∷ 0x01 ∷ 0x00 ∷ 0x12 ∷ []) ∷ (0x02 ∷ 0x02 ∷ 0x01 ∷ 0x00 ∷ []) ∷ (0x03 ∷ 0x01 ∷ 0x02 ∷ []) ∷ (0x03 ∷ 0x02 ∷ 0x03 ∷ [])
    ∷ (0x05 ∷ 0x03 ∷ []) ∷ (0x02 ∷ 0x03 ∷ 0x01 ∷ 0x00 ∷ []) ∷ (0x03 ∷ 0x03 ∷ 0x02 ∷ []) ∷ (0x05 ∷ 0x03 ∷ []) ∷ []))
    ≡ (0 ∷ []) ∷ (0 ∷ []) ∷ (0 ∷ []) ∷ (0 ∷ 0 ∷ 0 ∷ 0 ∷ 0 ∷ []) ∷ (0 ∷ 0 ∷ 1 ∷ 1 ∷ 0 ∷ [])
    ∷ (0 ∷ 3 ∷ 2 ∷ 0x01 ∷ 0x00 ∷ 1 ∷ 0x00 ∷ 0x12 ∷ 3 ∷ 0xff ∷ 0xff ∷ []) ∷ (0 ∷ []) ∷ (0 ∷ 1 ∷ 0 ∷ 0 ∷ 0 ∷ []) ∷ (0 ∷ 3 ∷ 2 ∷ 0x01 ∷ 0x00 ∷ 3 ∷ 0x01 ∷ 0x00 ∷ 1 ∷ 0x00 ∷ 0x12 ∷ []) ∷ []
unfolding answered answers_to
ranking_example = refl

-- 11 before any opening. A fresh head has heard nobody. After the listing's meetings 1-2 and 2-3, heads 2 and 3 know stall 1's latest, 1-2, to lie in the past of everybody's
-- latest, and 2-3 in that of stalls 2 and 3; head 1 has 1-2 alone, and never heard stall 3. 3: a stall that is not there; 10: a length that is not the kind's.
settled_examples : answers_to shut (map digits_of
    ((0x06 ∷ 0x01 ∷ [])
    ∷ (0x01 ∷ 0x03 ∷ [])
    ∷ (0x06 ∷ 0x03 ∷ [])
    ∷ (0x02 ∷ 0x01 ∷ 0x00 ∷ 0x12 ∷ [])
    ∷ (0x03 ∷ 0x01 ∷ 0x02 ∷ [])
    ∷ (0x03 ∷ 0x02 ∷ 0x03 ∷ [])
    ∷ (0x06 ∷ 0x01 ∷ [])
    ∷ (0x06 ∷ 0x02 ∷ [])
    ∷ (0x06 ∷ 0x03 ∷ [])
    ∷ (0x06 ∷ 0x00 ∷ [])
    ∷ (0x06 ∷ 0x04 ∷ [])
    ∷ (0x06 ∷ [])
    ∷ (0x06 ∷ 0x01 ∷ 0x01 ∷ [])
    ∷ []))
    ≡ (11 ∷ []) ∷ (0 ∷ []) ∷ (0 ∷ 0 ∷ 0 ∷ 0 ∷ []) ∷ (0 ∷ []) ∷ (0 ∷ 0 ∷ 0 ∷ 0 ∷ 0 ∷ []) ∷ (0 ∷ 0 ∷ 1 ∷ 1 ∷ 0 ∷ [])
    ∷ (0 ∷ 2 ∷ 2 ∷ 0 ∷ []) ∷ (0 ∷ 3 ∷ 2 ∷ 2 ∷ []) ∷ (0 ∷ 3 ∷ 2 ∷ 2 ∷ []) ∷ (3 ∷ []) ∷ (3 ∷ []) ∷ (10 ∷ []) ∷ (10 ∷ []) ∷ []
unfolding answered answers_to
settled_examples = refl
