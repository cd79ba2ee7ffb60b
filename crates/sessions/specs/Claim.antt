-- What every session of calls answers, from its lines alone.
use Rattle.std.specs.Prelude.{ℕ, ◌*◌, ◌≤◌, ◌≡◌, true, List, ◌∷◌, ◌++◌, map, length}
use Rattle.image.specs.Layout.{is_count}
use Rattle.parlour.specs.Table.{image_after}
use Rattle.line.specs.Parlour.{image_of}
use Rattle.line.specs.Answer.{written}
use Rattle.sessions.specs.Lines.{heads, history_of}
use Rattle.sessions.specs.Answer.{answer_after}
use Rattle.sessions.specs.Session.{Answered}

abbrev pub lines : List Answered → List (List ℕ)
lines done = map (λ c. c.line) done

-- one call, after these lines: how many digits come back, and every byte of its buffer afterwards
pub record Said (earlier : List (List ℕ)) (c : Answered) : Type 0 where
  pub counted : c.count ≡ 2 * length (answer_after earlier c.line)
  pub out_is : c.out' ≡ written c.out (answer_after earlier c.line)

-- the images of a state are those of the history that lines leave
pub record ImagesOf (ls : List (List ℕ)) (state : List ℕ) : Type 0 where
  pub images : is_count (heads ls) ≡ true → (p : ℕ) → 1 ≤ p → p ≤ heads ls → image_of state p ≡ image_after (heads ls) (history_of ls) p

pub record Claim (done : List Answered) (state : List ℕ) : Type 0 where
  pub each_answer : (c : Answered) (earlier later : List Answered) → done ≡ later ++ (c ∷ earlier) → Said (lines earlier) c
  pub images_are : ImagesOf (lines done) state
