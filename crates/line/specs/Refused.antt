-- The refusals of a line, their numbers, and what a function that may refuse leaves.
use Rattle.std.specs.Prelude.{ℕ, List, [], ◌∷◌, Result, Ok, Err}
use Rattle.image.specs.Refusal.{number}
use Rattle.line.specs.Answer.{written, AnswerOutcome, outcome}
use Rattle.line.specs.declared.refusal.Refusal.{Refusal}
use Rattle.line.specs.declared.refusal.Refusal.TheVariants.{Image, Line, Opening, Call}

-- a head's refusal has the number that it has there, and what a call answered is handed on; two are of lines alone
abbrev pub number_of : Refusal → ℕ
number_of (Image refusal) = number refusal
number_of Line = 10
number_of Opening = 11
number_of (Call number) = number

-- what a call leaves whose refusal, if it has one, is still to be written
abbrev pub finished : Result ℕ Refusal → List ℕ → List ℕ → AnswerOutcome
finished (Ok count) state out = outcome count state out
finished (Err e) state out = outcome 2 state (written out (number_of e ∷ []))
