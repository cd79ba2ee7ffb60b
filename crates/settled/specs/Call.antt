-- The call for the numbers, by the reading of its contract, and the forms in which heads keep their tables.
use Rattle.std.specs.Prelude.{ℕ, List}
use contract.Lifetimes.{Lfts}
use Rattle.std.specs.Borrow.{Bor, MutBor}
use Rattle.head.proofs.wilbryn_settled.Reads as settled
use Rattle.parlour.specs.Call.{Loan, lent, shared}
use Rattle.parlour.specs.Run.{Calls, plain_calls}

-- a call that is lent two runs, an image to read and a buffer to write
abbrev pub ReadLent : Type 0
ReadLent = Bor (List ℕ) × (MutBor (List ℕ) × Unit {0})

-- it is lent this image and this buffer, answers this, leaves the image and this in the buffer
pub record ReadBy (Learnt : Lfts 2 → ReadLent → ℕ → ReadLent → Type 0) (image buffer : List ℕ) (answer : ℕ) (buffer' : List ℕ) : Type 0 where
  pub lifetimes : Lfts 2
  pub one : Loan
  pub other : Loan
  pub learnt : Learnt lifetimes (shared one image, (lent other buffer, tt)) answer (shared one image, (lent other buffer', tt))

-- a form of tables: the calls of lists, the call for the numbers, and the plain image of a table
pub record Form : Type 1 where
  pub calls : Calls
  pub settled : (image buffer : List ℕ) (answer : ℕ) (counts : List ℕ) → Type 0
  pub plain : List ℕ → List ℕ

-- tables as document 01 has them
abbrev pub plain_form : Form
plain_form = record { calls = plain_calls; settled = ReadBy settled.Learnt; plain = λ image. image }
