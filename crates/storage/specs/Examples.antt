-- The listing's list, and a longer one, on packed tables: what each head's memory holds afterwards, by evaluation of the history's table.
use Rattle.std.specs.Prelude.{ℕ, ◌≡◌, refl, List, [], ◌∷◌, ◌++◌, replicate}
use Rattle.packed.specs.Form.{packed_image}
use Rattle.packed.specs.Examples as Packed
use Rattle.packed.specs.Examples.{packed_listing}
use Rattle.parlour.specs.Item.{Item, milking, meeting, history}
use Rattle.parlour.specs.Table.{table_after}
use Rattle.parlour.specs.Examples as Parlour

-- what head p of n heads stores after a list
stored : ℕ → List Item → ℕ → List ℕ
stored n list p = packed_image n p (table_after n (history n list) p)

-- document 01's listing, newest first: head 3 after the meetings 1-2 and 2-3, stall 1 milked with 18 before
listing_stored : stored 3 (meeting 2 3 (replicate 3 0) ∷ meeting 1 2 (replicate 3 0) ∷ milking 1 18 ∷ []) 3 ≡ packed_listing
unfolding Parlour.evaluated Packed.evaluated stored
listing_stored = refl

-- Two heads that meet three times, with a milking that is refused between: the third meeting has label 0 again. Partner 2 is 0x20 and partner 1 is 0x00; no name is none.
labels_stored : stored 2 (meeting 1 2 (replicate 2 0) ∷ milking 2 1000 ∷ meeting 2 1 (replicate 2 0) ∷ milking 2 300 ∷ meeting 1 2 (replicate 2 0) ∷ []) 2
    ≡ (2 ∷ 2 ∷ 0x01 ∷ 0x2c ∷ []) ++ (0x20 ∷ 0x00 ∷ 0x20 ∷ 0x00 ∷ []) ++ (0xff ∷ 0xff ∷ 0x01 ∷ 0x2c ∷ []) ++ (3 ∷ 3 ∷ [])
unfolding Parlour.evaluated Packed.evaluated stored
labels_stored = refl
