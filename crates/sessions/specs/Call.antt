-- The calls themselves, by the readings of the contracts of `line::answer`, `stream::feed` and `stream::finish`: what whoever calls them learns.
use Rattle.std.specs.Prelude.{ℕ, List}
use contract.Lifetimes.{Lfts}
use Rattle.parlour.specs.Call.{Loan, lent, shared}
use Rattle.line.proofs.answer.Reads as answer
use Rattle.stream.specs.declared.Fed.{Fed}
use Rattle.stream.proofs.feed.Reads as feed
use Rattle.stream.proofs.finish.Reads as finish

-- a call of line::answer that is lent this state, line and buffer, answers so many digits, and leaves this state and buffer
pub record LineCall (state line out : List ℕ) (count : ℕ) (state' out' : List ℕ) : Type 0 where
  pub lifetimes : Lfts 3
  pub one : Loan
  pub other : Loan
  pub third : Loan
  pub learnt : answer.Learnt lifetimes (lent one state, (shared other line, (lent third out, tt))) count (lent one state', (shared other line, (lent third out', tt)))

-- a call of stream::feed that is lent this state, the line so far, a block and a buffer
pub record FeedCall (state text : List ℕ) (kept : ℕ) (block out : List ℕ) (fed : Fed) (state' text' out' : List ℕ) : Type 0 where
  pub lifetimes : Lfts 4
  pub one : Loan
  pub other : Loan
  pub third : Loan
  pub fourth : Loan
  pub learnt : feed.Learnt lifetimes (lent one state, (lent other text, (kept, (shared third block, (lent fourth out, tt))))) fed
      (lent one state', (lent other text', (kept, (shared third block, (lent fourth out', tt)))))

-- a call of stream::finish that is lent this state, the line so far and a buffer
pub record FinishCall (state text : List ℕ) (kept : ℕ) (out : List ℕ) (end : ℕ) (state' out' : List ℕ) : Type 0 where
  pub lifetimes : Lfts 3
  pub one : Loan
  pub other : Loan
  pub third : Loan
  pub learnt : finish.Learnt lifetimes (lent one state, (shared other text, (kept, (lent third out, tt)))) end
      (lent one state', (shared other text, (kept, (lent third out', tt))))
