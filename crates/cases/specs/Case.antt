-- What a case of document 01's "Meetings to try" does, and what comes of it, by the definitions that the contracts of the calls equal.
use Rattle.std.specs.Prelude.{ℕ, zero, suc, cond, ltb, eqb, get_or, set, replicate}
use mathlib.Core.List.{List, [], ◌∷◌, ◌++◌, map, flat_map}
use Rattle.image.specs.Stalls.{each}
use Rattle.image.specs.Fresh.{fresh_image}
use Rattle.image.specs.Check.{checked, number_of}
use Rattle.head.specs.Calls.{milking_call}
use Rattle.merge.specs.Call.{MeetingOutcome, meeting_call}
use Rattle.line.specs.Digits.{digits_of}
use Rattle.line.specs.Examples.{shut, answers_to}

pub data Given : Type 0 where
  -- meetings in turn in a fresh parlour of n heads, for their labels
  labels : (n : ℕ) (meetings : List (ℕ × ℕ)) → Given
  -- meetings in turn, for the verdicts of one more, which is accepted
  verdicts : (n : ℕ) (meetings : List (ℕ × ℕ)) (p q : ℕ) → Given
  -- the first meeting of a fresh parlour of n heads, for all that comes of it: of every two heads, either first
  firsts : (n : ℕ) → Given
  -- a meeting of two images, for all that comes of it
  together : (first second : List ℕ) → Given
  -- a milking of a fresh head, for its answer and the image
  milked : (yield : ℕ) → Given
  -- lines in turn, each given by the bytes of its frame, for the bytes of all answers
  lines : (frames : List (List ℕ)) → Given
  -- the check of an image, for its number
  number : (image : List ℕ) → Given

-- the images of a parlour, stall 1 at place 1
abbrev pub image_of : List (List ℕ) → ℕ → List ℕ
image_of images r = get_or images r []

unfoldable pub fresh_to : ℕ → ℕ → List (List ℕ)
fresh_to zero n = [] ∷ []
fresh_to (suc r) n = fresh_to r n ++ (fresh_image n (suc r) ∷ [])

abbrev pub fresh : ℕ → List (List ℕ)
fresh n = fresh_to n n

-- a verdict buffer is lent full of what no verdict is
abbrev pub lent : ℕ → List ℕ
lent n = replicate n 238

-- a meeting, and the images after it
abbrev pub call : ℕ → List (List ℕ) → ℕ → ℕ → MeetingOutcome
call n images p q = meeting_call (image_of images p) (image_of images q) (lent n)

abbrev pub after : List (List ℕ) → ℕ → ℕ → MeetingOutcome → List (List ℕ)
after images p q o = set (set images p o.first) q o.second

unfoldable pub labels_of : ℕ → List (List ℕ) → List (ℕ × ℕ) → List ℕ
labels_of n images [] = []
labels_of n images (m ∷ l) = let o = call n images m.0 m.1 in o.answer ∷ labels_of n (after images m.0 m.1 o) l

unfoldable pub after_all : ℕ → List (List ℕ) → List (ℕ × ℕ) → List (List ℕ)
after_all n images [] = images
after_all n images (m ∷ l) = after_all n (after images m.0 m.1 (call n images m.0 m.1)) l

-- all that comes of a meeting: its answer, both images and the buffer
abbrev pub whole : MeetingOutcome → List ℕ
whole o = o.answer ∷ (o.first ++ o.second ++ o.verdicts)

-- the verdicts of a meeting that is accepted, with a label below 256
abbrev pub verdicts_of : MeetingOutcome → List ℕ
verdicts_of o = cond (ltb o.answer 256) o.verdicts []

-- for every two of n heads, either first
abbrev pub every_two : ℕ → (ℕ → ℕ → List ℕ) → List ℕ
every_two n f = each n (λ p. each n (λ q. cond (eqb p q) [] (f p q)))

unfoldable pub outcome : Given → List ℕ
outcome (labels n meetings) = labels_of n (fresh n) meetings
outcome (verdicts n meetings p q) = verdicts_of (call n (after_all n (fresh n) meetings) p q)
outcome (firsts n) = every_two n (λ p q. whole (call n (fresh n) p q))
outcome (together first second) = whole (meeting_call first second (lent (get_or first 0 0)))
outcome (milked yield) = let o = milking_call (fresh_image 2 1) yield in o.answer ∷ o.image
outcome (lines frames) = flat_map (λ answer. answer) (answers_to shut (map digits_of frames))
outcome (number image) = number_of (checked image) ∷ []
