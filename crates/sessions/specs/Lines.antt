-- What lines alone say, newest first: the parlour that they open, and the items that they make of it.
use Rattle.std.specs.Prelude.{ℕ, ◌||◌, cond, List, [], ◌∷◌, ◌++◌, eqb, replicate}
use Rattle.image.specs.Layout.{is_count}
use Rattle.image.specs.Check.{bad_stall}
use Rattle.line.specs.Frame.{frame_of}
use Rattle.line.specs.declared.frame.Frame.{Frame}
use Rattle.line.specs.declared.frame.Frame.TheVariants.{Open, Milking, Meeting, Show, Heard, Settled, Bad}
use Rattle.parlour.specs.Item.{Item, milking, meeting, history}

-- how many heads a line opens a parlour of, 0 for none
unfoldable pub opens : Frame → ℕ
opens (Open n) = cond (is_count n) n 0
opens (Milking stall yield) = 0
opens (Meeting p q) = 0
opens (Show stall) = 0
opens (Heard stall) = 0
opens (Settled stall) = 0
opens Bad = 0

-- the parlour that the first such line opened
unfoldable pub heads : List (List ℕ) → ℕ
heads [] = 0
heads (line ∷ earlier) = cond (is_count (heads earlier)) (heads earlier) (opens (frame_of line))

-- the item that a line makes in a parlour of n heads, if its stalls are there
unfoldable pub items_of : ℕ → Frame → List Item
items_of n (Open m) = []
items_of n (Milking stall yield) = cond (bad_stall n stall) [] (milking stall yield ∷ [])
items_of n (Meeting p q) = cond (bad_stall n p || bad_stall n q || eqb p q) [] (meeting p q (replicate n 0) ∷ [])
items_of n (Show stall) = []
items_of n (Heard stall) = []
items_of n (Settled stall) = []
items_of n Bad = []

-- the items of all lines; before an opening there are none
unfoldable pub items : List (List ℕ) → List Item
items [] = []
items (line ∷ earlier) = cond (is_count (heads earlier)) (items_of (heads earlier) (frame_of line) ++ items earlier) []

-- the history that lines leave
abbrev pub history_of : List (List ℕ) → List Item
history_of ls = history (heads ls) (items ls)
