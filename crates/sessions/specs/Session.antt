-- Lines answered in turn, from the empty state on: calls of `line::answer`, each lent the state as the calls before left it and a buffer of its own.
use Rattle.std.specs.Prelude.{ℕ, ◌≤◌, List, [], ◌∷◌, length}
use Rattle.line.specs.Answer.{longest_answer}
use Rattle.stream.specs.Stream.{empty_state}
use Rattle.sessions.specs.Call.{LineCall}

-- a call: its line, its buffer before and after, and how many digits came back
pub record Answered : Type 0 where
  pub line : List ℕ
  pub out : List ℕ
  pub count : ℕ
  pub out' : List ℕ

-- the calls newest first, and the state that they leave
pub data Session : List Answered → List ℕ → Type 0 where
  begun : Session [] empty_state
  answered : {done : List Answered} {state : List ℕ} → Session done state
      → (line out : List ℕ) (count : ℕ) (state' out' : List ℕ) → longest_answer ≤ length out
      → LineCall state line out count state' out'
      → Session (record { line = line; out = out; count = count; out' = out' } ∷ done) state'
