-- Document 01's lists, by evaluation of what a history says.
use Rattle.std.specs.Prelude.{◌≡◌, refl, replicate}
use mathlib.Core.List.{List, [], ◌∷◌, ◌++◌, flat_map}
use Rattle.causality.specs.Event.{takes_part}
use Rattle.causality.specs.Past.{last, newest}
use Rattle.causality.specs.Clock.{put, maxima, joined, clocks, latest, latest_in, in_past}
use Rattle.causality.specs.Best.{newer, best, up_to, verdicts}
use Rattle.causality.specs.Meetings as Meetings
use Rattle.labels.specs.Lowest.{elem, seek, lowest_free, keep}
use Rattle.labels.specs.Label.{named as named_labels, same_pair, between, label_at, current, labels, label}
use Rattle.labels.specs.Name.{partner_of}
use Rattle.image.specs.Examples.{evaluated as image_evaluated, listing}
use Rattle.parlour.specs.Item.{Item, milking, meeting, counts, history}
use Rattle.parlour.specs.History.{meetings, events, yield_after, yield_at}
use Rattle.parlour.specs.Table.{name_in, named, table_at, table_after, image_after}

-- whoever unfolds this unfolds all that a history is computed with
unfoldable pub evaluated : Unit {0}
unfolding takes_part last newest put maxima joined clocks latest latest_in in_past newer best up_to verdicts Meetings.meeting elem seek lowest_free keep named_labels same_pair between label_at current labels label partner_of image_evaluated counts history meetings events yield_after yield_at name_in named table_at table_after image_after flat_map
evaluated = tt

-- the listing, newest first, with a milking and a meeting that do not count: the image of head 3
listing_items : List Item
listing_items = meeting 2 3 (replicate 3 0) ∷ milking 1 1000 ∷ meeting 1 2 (replicate 3 0) ∷ meeting 3 1 (replicate 2 0) ∷ milking 1 0x12 ∷ []

listing_image : image_after 3 (history 3 listing_items) 3 ≡ listing
unfolding evaluated listing_items
listing_image = refl

-- N = 4, 1-2, 1-3, 2-4, then 3-4
four : List Item
four = meeting 2 4 (replicate 4 0) ∷ meeting 1 3 (replicate 4 0) ∷ meeting 1 2 (replicate 4 0) ∷ []

four_verdicts : verdicts (events four) (meetings four) 4 3 4 ≡ 1 ∷ 2 ∷ 1 ∷ 2 ∷ []
unfolding evaluated four
four_verdicts = refl

-- N = 3, 1-2, 1-3, then three times 1-2, newest first: labels 0, 0, 1, 2, 1, of which head 3 still has 0. It also has the yield 18 of stall 1, and stall 2 as not
-- milked, as it was at its first meeting; the others have the yield 7 of stall 3, which has 500 by now.
again : List Item
again =
    meeting 1 2 (replicate 3 0)
    ∷ meeting 2 1 (replicate 3 0)
    ∷ milking 2 300
    ∷ milking 3 500
    ∷ meeting 1 2 (replicate 3 0)
    ∷ milking 1 999
    ∷ meeting 1 3 (replicate 3 0)
    ∷ milking 3 7
    ∷ meeting 1 2 (replicate 3 0)
    ∷ milking 1 18
    ∷ []

-- the images of heads 1 and 3: header, rows, yields, order bytes
again_images : (image_after 3 (history 3 again) 1
    ≡ (3 ∷ 1 ∷ 0x03 ∷ 0xe7 ∷ [])
    ++ (2 ∷ 1 ∷ 1 ∷ 1 ∷ 1 ∷ 0 ∷ [])
    ++ (2 ∷ 1 ∷ 1 ∷ 1 ∷ 1 ∷ 0 ∷ [])
    ++ (3 ∷ 0 ∷ 1 ∷ 0 ∷ 1 ∷ 0 ∷ [])
    ++ (0x03 ∷ 0xe7 ∷ 0x01 ∷ 0x2c ∷ 0x00 ∷ 0x07 ∷ [])
    ++ (3 ∷ 3 ∷ 7 ∷ []))
    × (image_after 3 (history 3 again) 3
    ≡ (3 ∷ 3 ∷ 0x01 ∷ 0xf4 ∷ [])
    ++ (3 ∷ 0 ∷ 1 ∷ 0 ∷ 1 ∷ 0 ∷ [])
    ++ (2 ∷ 0 ∷ 1 ∷ 0 ∷ 0 ∷ 0 ∷ [])
    ++ (3 ∷ 0 ∷ 1 ∷ 0 ∷ 1 ∷ 0 ∷ [])
    ++ (0x00 ∷ 0x12 ∷ 0xff ∷ 0xff ∷ 0x00 ∷ 0x07 ∷ [])
    ++ (5 ∷ 7 ∷ 5 ∷ []))
unfolding evaluated again
again_images = (refl, refl)
