-- What a line is answered, from the lines before it alone: labels, verdicts, images, heard lists, numbers of stalls and refusals are those of the history of the items that count.
use Rattle.std.specs.Prelude.{ℕ, cond, List, [], ◌∷◌, leb, eqb, replicate}
use Rattle.causality.specs.Best.{verdicts}
use Rattle.labels.specs.Label.{label}
use Rattle.image.specs.Layout.{yield_limit, is_count}
use Rattle.image.specs.Check.{bad_stall}
use Rattle.head.specs.Heard.{heard_count, heard_bytes}
use Rattle.parlour.specs.Item.{Item, meeting}
use Rattle.parlour.specs.History.{meetings, events}
use Rattle.parlour.specs.Table.{image_after}
use Rattle.settled.specs.Count.{counts_after}
use Rattle.line.specs.Frame.{frame_of}
use Rattle.line.specs.declared.frame.Frame.{Frame}
use Rattle.line.specs.declared.frame.Frame.TheVariants.{Open, Milking, Meeting, Show, Heard, Settled, Bad}
use Rattle.sessions.specs.Lines.{heads, history_of}

-- in a parlour of n heads (0: none is open) with this history
module _ (n : ℕ) (l : List Item) where
  -- 11 before an opening
  abbrev pub in_parlour : List ℕ → List ℕ
  in_parlour bytes = cond (is_count n) bytes (11 ∷ [])

  -- 3: no such stall
  abbrev pub at_stall : ℕ → List ℕ → List ℕ
  at_stall stall bytes = cond (bad_stall n stall) (3 ∷ []) bytes

  -- "`00`, then for a meeting the label and N verdicts"
  abbrev pub met_bytes : ℕ → ℕ → List ℕ
  met_bytes p q =
      let next = meeting p q (replicate n 0) ∷ l in
      0 ∷ label n (events next) (meetings next) ∷ verdicts (events l) (meetings l) n p q

  -- "the count and the records alone": the heard list of the image that the history leaves, in the order of request 2026-07
  abbrev pub list_bytes : ℕ → List ℕ
  list_bytes stall = let s = image_after n l stall in 0 ∷ heard_count s n stall ∷ heard_bytes s n stall

  -- what a frame is answered
  abbrev pub answer_to : Frame → List ℕ
  answer_to Bad = 10 ∷ []
  answer_to (Open m) = cond (is_count n) (11 ∷ []) (cond (is_count m) (0 ∷ []) (1 ∷ []))
  answer_to (Milking stall yield) = in_parlour (at_stall stall (cond (leb yield yield_limit) (0 ∷ []) (4 ∷ [])))
  answer_to (Meeting p q) = in_parlour (at_stall p (at_stall q (cond (eqb p q) (7 ∷ []) (met_bytes p q))))
  answer_to (Show stall) = in_parlour (at_stall stall (0 ∷ image_after n l stall))
  answer_to (Heard stall) = in_parlour (at_stall stall (list_bytes stall))
  -- Request 2026-05: "Line kind `06` with a stall answers `00`, then for each stall the number of stalls that this head knows to have heard its latest of that stall"
  answer_to (Settled stall) = in_parlour (at_stall stall (0 ∷ counts_after n l stall))

-- and a line after these
abbrev pub answer_after : List (List ℕ) → List ℕ → List ℕ
answer_after earlier line = answer_to (heads earlier) (history_of earlier) (frame_of line)
