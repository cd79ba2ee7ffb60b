-- The theorems of `sessions`, as one record with a field for each. `proofs/Theory.antt` proves it.
use Rattle.std.specs.Prelude.{ℕ, ◌≤◌, ◌≡◌, true, List, ◌++◌, get_or}
use Rattle.image.specs.Layout.{is_count}
use Rattle.line.specs.Parlour.{image_of}
use Rattle.line.specs.declared.frame.Frame.TheVariants.{Settled}
use Rattle.line.proofs.answer.Statement as answer
use Rattle.stream.proofs.feed.Statement as feed
use Rattle.stream.proofs.finish.Statement as finish
use Rattle.stream.specs.Stream.{whole_output}
use Rattle.settled.specs.Count.{latest_after}
use Rattle.settled.specs.Theory.{IsSettled}
use Rattle.sessions.specs.Lines.{heads, history_of}
use Rattle.sessions.specs.Answer.{answer_to}
use Rattle.sessions.specs.Session.{Answered, Session}
use Rattle.sessions.specs.Claim.{lines, ImagesOf, Claim}
use Rattle.sessions.specs.Input.{lines_of, answers_to}
use Rattle.sessions.specs.Stream.{Finished}

-- a session of these lines
pub record SessionOf (ls : List (List ℕ)) : Type 0 where
  pub done : List Answered
  pub state : List ℕ
  pub session : Session done state
  pub makes : lines done ≡ ls

-- from an input to its answers: those of its lines, each from the lines alone
pub record InputClaim (input answers state : List ℕ) : Type 0 where
  pub answers_are : answers ≡ answers_to (lines_of input)
  pub images_are : ImagesOf (lines_of input) state

-- some blocks of this input
pub record FinishedOf (input : List ℕ) : Type 0 where
  pub answers : List ℕ
  pub state : List ℕ
  pub finished : Finished input answers state

pub record Theory : Type 0 where
  -- Demand 3, of lines: calls of line::answer, from the empty state on.
  pub claim : (done : List Answered) (state : List ℕ) → Session done state → Claim done state
  -- Request 2026-05, of lines: after lines that leave a parlour of N heads open, where `06` with stall p is answered with N for stall r, every head has the meeting that is p's
  -- latest of r at that moment, or a newer one of r, then and after whatever lines follow. (The number itself may fall: settled/specs/Examples.antt: falls_again.)
  -- What a session, an input in blocks or a run of the program leaves is a state with the images of its lines: `claim`, `blocks`, `runs`.
  pub settled : (ls : List (List ℕ)) (p r : ℕ) → is_count (heads ls) ≡ true
      → 1 ≤ r → r ≤ heads ls → get_or (answer_to (heads ls) (history_of ls) (Settled p)) r 0 ≡ heads ls
      → (later : List (List ℕ)) (state : List ℕ) → ImagesOf (later ++ ls) state
      → IsSettled (heads ls) (history_of (later ++ ls)) (image_of state) r (latest_after (history_of ls) p r)
  -- Every list of lines has its calls.
  pub sessions_exist : (ls : List (List ℕ)) → SessionOf ls
  -- From input to answers, in whatever blocks it comes.
  pub blocks : (input answers state : List ℕ) → Finished input answers state → InputClaim input answers state
  -- The same of what a run of the program ends with.
  pub runs : (input : List ℕ) → let o = whole_output input in InputClaim input o.answers o.state
  -- Every input has its calls.
  pub blocks_exist : (input : List ℕ) → FinishedOf input

-- The three functions meet their contracts: each call is safe, returns, and what was read of its contract holds.
pub record Returns : Type 2 where
  pub answer : {M : Type 1} → answer.statement M
  pub feed : {M : Type 1} → feed.statement M
  pub finish : {M : Type 1} → finish.statement M
