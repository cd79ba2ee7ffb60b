-- Panels, numbers and yields as text, and a panel read back, by evaluation. Texts are in ASCII: 0x0a is the newline, 0x20 the blank, 0x2d the dash, 0x2e the point, and
-- 0x30 to 0x39 are the digits.
use Rattle.std.specs.Prelude.{ℕ, ◌≡◌, refl, replicate}
use mathlib.Core.List.{List, [], ◌∷◌, ◌++◌, map, flat_map, flatten}
use Rattle.image.specs.Fresh.{fresh_image}
use Rattle.image.specs.Examples.{met_once, listing}
use Rattle.rank.specs.declared.Record.{Record}
use Rattle.head.specs.Examples.{heard_evaluated, all_heard, bad_images}
use Rattle.packed.specs.Examples.{evaluated, packed_listing}
use Rattle.panel.specs.Decimal.{digits_in, decimal, read_behind}
use Rattle.panel.specs.Panel.{litres, line, lines_from, panel_length, PanelOutcome, shown, panel_from, panel_call, packed_panel_call}
use Rattle.panel.specs.Reading.{in_front, parts_by, read_yield, read_rank, read_record, read_ranks, read_records}

-- whoever unfolds this, beside what a heard list is made with, unfolds all that a panel is written and read with
unfoldable pub panel_evaluated : Unit {0}
unfolding digits_in decimal read_behind litres line lines_from panel_length shown panel_from in_front parts_by read_yield read_rank read_record
panel_evaluated = tt

-- "numbers without leading zeros": 0, 9, 10, 16, 99, 100, 6553
decimal_examples : map decimal (0 ∷ 9 ∷ 10 ∷ 16 ∷ 99 ∷ 100 ∷ 6553 ∷ [])
    ≡ (0x30 ∷ []) ∷ (0x39 ∷ []) ∷ (0x31 ∷ 0x30 ∷ []) ∷ (0x31 ∷ 0x36 ∷ []) ∷ (0x39 ∷ 0x39 ∷ []) ∷ (0x31 ∷ 0x30 ∷ 0x30 ∷ []) ∷ (0x36 ∷ 0x35 ∷ 0x35 ∷ 0x33 ∷ []) ∷ []
unfolding panel_evaluated
decimal_examples = refl

-- "0 becomes `0.0`", 0.7, "18 becomes `1.8`", 99.9, "`-` for not milked"
litres_examples : map litres (0 ∷ 7 ∷ 18 ∷ 999 ∷ 0xffff ∷ [])
    ≡ (0x30 ∷ 0x2e ∷ 0x30 ∷ []) ∷ (0x30 ∷ 0x2e ∷ 0x37 ∷ []) ∷ (0x31 ∷ 0x2e ∷ 0x38 ∷ []) ∷ (0x39 ∷ 0x39 ∷ 0x2e ∷ 0x39 ∷ []) ∷ (0x2d ∷ []) ∷ []
unfolding evaluated panel_evaluated
litres_examples = refl

-- what the call answers, then the buffer, which holds 9 wherever nothing is written
after : PanelOutcome → List ℕ
after o = o.answer ∷ o.text

panel_into : List ℕ → ℕ → List ℕ
panel_into s long = after (panel_call s (replicate long 9))

-- the listing's head 3: "1 1 1.8", "2 2 -", "3 3 -"
abbrev pub listing_text : List ℕ
listing_text =
    0x31 ∷ 0x20 ∷ 0x31 ∷ 0x20 ∷ 0x31 ∷ 0x2e ∷ 0x38 ∷ 0x0a
    ∷ 0x32 ∷ 0x20 ∷ 0x32 ∷ 0x20 ∷ 0x2d ∷ 0x0a
    ∷ 0x33 ∷ 0x20 ∷ 0x33 ∷ 0x20 ∷ 0x2d ∷ 0x0a
    ∷ []

-- from its image, and packed
listing_examples : (panel_into listing 256 ≡ 20 ∷ listing_text ++ replicate 236 0) × (after (packed_panel_call packed_listing (replicate 256 9)) ≡ 20 ∷ listing_text ++ replicate 236 0)
unfolding evaluated heard_evaluated panel_evaluated after panel_into
listing_examples = (refl, refl)

-- five stalls, with equal yields, none, and not milked: "1 2 99.9", "2 1 1.8", "3 4 1.8", "4 3 0.0", "5 5 -"
five_text : List ℕ
five_text =
    0x31 ∷ 0x20 ∷ 0x32 ∷ 0x20 ∷ 0x39 ∷ 0x39 ∷ 0x2e ∷ 0x39 ∷ 0x0a
    ∷ 0x32 ∷ 0x20 ∷ 0x31 ∷ 0x20 ∷ 0x31 ∷ 0x2e ∷ 0x38 ∷ 0x0a
    ∷ 0x33 ∷ 0x20 ∷ 0x34 ∷ 0x20 ∷ 0x31 ∷ 0x2e ∷ 0x38 ∷ 0x0a
    ∷ 0x34 ∷ 0x20 ∷ 0x33 ∷ 0x20 ∷ 0x30 ∷ 0x2e ∷ 0x30 ∷ 0x0a
    ∷ 0x35 ∷ 0x20 ∷ 0x35 ∷ 0x20 ∷ 0x2d ∷ 0x0a
    ∷ []

five_examples : panel_into (all_heard (18 ∷ 999 ∷ 0 ∷ 18 ∷ 0xffff ∷ [])) 256 ≡ 39 ∷ five_text ++ replicate 217 0
unfolding evaluated heard_evaluated panel_evaluated after panel_into five_text flat_map flatten
five_examples = refl

-- and read back
recorded : ℕ → ℕ → Record
recorded stall given = record { stall = stall; given = given }

read_examples : (read_ranks five_text ≡ 1 ∷ 2 ∷ 3 ∷ 4 ∷ 5 ∷ []) × (read_records five_text ≡ recorded 2 999 ∷ recorded 1 18 ∷ recorded 4 18 ∷ recorded 3 0 ∷ recorded 5 0xffff ∷ [])
unfolding evaluated panel_evaluated five_text recorded
read_examples = (refl, refl)

-- a head that has heard nobody; one that has not heard of stall 3: "1 1 0.0", "2 2 -"; the longest texts of eight and of sixteen stalls
heard_examples : (panel_into (fresh_image 3 2) 256 ≡ 0 ∷ replicate 256 0)
    × (panel_into (met_once 0 0 0xffff 0xffff) 256
    ≡ 14 ∷ (0x31 ∷ 0x20 ∷ 0x31 ∷ 0x20 ∷ 0x30 ∷ 0x2e ∷ 0x30 ∷ 0x0a ∷ 0x32 ∷ 0x20 ∷ 0x32 ∷ 0x20 ∷ 0x2d ∷ 0x0a ∷ []) ++ replicate 242 0)
    × ((panel_call (all_heard (replicate 8 999)) (replicate 256 9)).answer ≡ 72)
    × ((panel_call (all_heard (replicate 16 999)) (replicate 256 9)).answer ≡ 158)
unfolding evaluated heard_evaluated panel_evaluated after panel_into flat_map flatten
heard_examples = (refl, refl, refl, refl)

-- 264 for a buffer of another length, and 262 to 257 before it; packed, 258 for the length of a plain image
refused_examples : (map (panel_into listing) (0 ∷ 128 ∷ 255 ∷ 257 ∷ []) ≡ (264 ∷ []) ∷ (264 ∷ replicate 128 9) ∷ (264 ∷ replicate 255 9) ∷ (264 ∷ replicate 257 9) ∷ [])
    × (map (λ s. panel_into s 1) bad_images ≡ (262 ∷ 9 ∷ []) ∷ (261 ∷ 9 ∷ []) ∷ (260 ∷ 9 ∷ []) ∷ (259 ∷ 9 ∷ []) ∷ (258 ∷ 9 ∷ []) ∷ (257 ∷ 9 ∷ []) ∷ [])
    × (after (packed_panel_call listing (9 ∷ [])) ≡ 258 ∷ 9 ∷ [])
unfolding evaluated heard_evaluated panel_evaluated after panel_into
refused_examples = (refl, refl, refl)
