-- The wall panels of worked lists, newest first, by evaluation of what a history says of them.
use Rattle.std.specs.Prelude.{◌≡◌, refl, List, [], ◌∷◌, replicate}
use Rattle.head.specs.Examples.{heard_evaluated}
use Rattle.parlour.specs.Item.{Item, milking, meeting}
use Rattle.parlour.specs.Examples.{evaluated}
use Rattle.panel.specs.Examples.{panel_evaluated, listing_text}
use Rattle.wall.specs.Text.{ranking, wall_text}

-- document 01's listing: stall 1 milked with 18, then the meetings 1-2 and 2-3
listed : List Item
listed = meeting 2 3 (replicate 3 0) ∷ meeting 1 2 (replicate 3 0) ∷ milking 1 18 ∷ []

-- head 3's panel is that of the listing's image; head 1 has not heard of stall 3: "1 1 1.8", "2 2 -"; in a fresh parlour nobody is heard
listing_texts : (wall_text 3 listed 3 ≡ listing_text)
    × (wall_text 3 listed 1 ≡ 0x31 ∷ 0x20 ∷ 0x31 ∷ 0x20 ∷ 0x31 ∷ 0x2e ∷ 0x38 ∷ 0x0a ∷ 0x32 ∷ 0x20 ∷ 0x32 ∷ 0x20 ∷ 0x2d ∷ 0x0a ∷ [])
    × (wall_text 3 [] 3 ≡ [])
unfolding evaluated heard_evaluated panel_evaluated ranking listed
listing_texts = (refl, refl, refl)

-- a milking since then is on nobody's panel, not even on that of the stall itself, before it meets again
milked_since : (wall_text 3 (milking 1 999 ∷ listed) 1 ≡ wall_text 3 listed 1) × (wall_text 3 (milking 1 999 ∷ listed) 3 ≡ listing_text)
unfolding evaluated heard_evaluated panel_evaluated ranking listed
milked_since = (refl, refl)
