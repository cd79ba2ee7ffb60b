-- An input in blocks: calls of `stream::feed`, and one of `stream::finish` where it ends. Each is lent the state and the line so far as the calls before left them, and a
-- buffer of its own; what it leaves at the front of that buffer is what is written.
use Rattle.std.specs.Prelude.{ℕ, ◌≤◌, ◌≡◌, List, [], ◌++◌, length, take}
use Rattle.stream.specs.Stream.{empty_state}
use Rattle.stream.specs.Kept.{longest_line}
use Rattle.stream.specs.Call.{room}
use Rattle.stream.specs.declared.Fed.{Fed}
use Rattle.sessions.specs.Call.{FeedCall, FinishCall}

-- the input taken and the answers so far, the state and the line so far. A call may leave part of its block, which the next may be lent again.
pub data Feeding : List ℕ → List ℕ → List ℕ → List ℕ → ℕ → Type 0 where
  begun : (text : List ℕ) → length text ≡ longest_line → Feeding [] [] empty_state text 0
  fed : {input answers state text : List ℕ} {kept : ℕ} → Feeding input answers state text kept
      → (block out : List ℕ) (r : Fed) (state' text' out' : List ℕ) → room ≤ length out
      → FeedCall state text kept block out r state' text' out'
      → Feeding (input ++ take r.taken block) (answers ++ take r.end out') state' text' r.kept

-- a whole input
pub record Finished (input answers state' : List ℕ) : Type 0 where
  pub before : List ℕ
  pub state : List ℕ
  pub text : List ℕ
  pub kept : ℕ
  pub feeding : Feeding input before state text kept
  pub out : List ℕ
  pub end : ℕ
  pub out' : List ℕ
  pub long : room ≤ length out
  pub call : FinishCall state text kept out end state' out'
  pub answers_are : answers ≡ before ++ take end out'
