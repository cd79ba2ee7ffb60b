-- The calls themselves, by the readings of the contracts of `wilbryn_fresh`, `wilbryn_milking` and `wilbryn_meeting`: what whoever calls them learns.
use Rattle.std.specs.Prelude.{ℕ, List}
use contract.Lifetimes.{Lfts}
use Rattle.std.specs.Borrow.{Bor, MutBor}
use Rattle.head.proofs.wilbryn_fresh.Reads as fresh
use Rattle.head.proofs.wilbryn_milking.Reads as milking
use Rattle.head.proofs.wilbryn_meeting.Reads as meeting

-- a run of bytes that is lent to a call: where it lies, and the name of the loan
pub record Loan : Type 0 where
  pub place : ℕ × ℕ
  pub name : ℕ

-- the reference to it while it holds these bytes
abbrev pub lent : Loan → List ℕ → MutBor (List ℕ)
lent loan bytes = record { ref_ptr = loan.place; ghost_name = loan.name; now = bytes }

-- the reference to it where it is only read
abbrev pub shared : Loan → List ℕ → Bor (List ℕ)
shared loan bytes = record { ref_ptr = loan.place; now = bytes }

-- what the three calls are lent: a run and two numbers, a run and a number, three runs
abbrev pub FreshLent : Type 0
FreshLent = MutBor (List ℕ) × (ℕ × (ℕ × Unit {0}))

abbrev pub MilkingLent : Type 0
MilkingLent = MutBor (List ℕ) × (ℕ × Unit {0})

abbrev pub MeetingLent : Type 0
MeetingLent = MutBor (List ℕ) × (MutBor (List ℕ) × (MutBor (List ℕ) × Unit {0}))

-- Each call by what its contract says of what it was lent, what it answered and what it left.

-- it is lent this buffer, answers this and leaves this image
pub record FreshBy (Learnt : Lfts 1 → FreshLent → ℕ → FreshLent → Type 0) (buffer : List ℕ) (n stall answer : ℕ) (image : List ℕ) : Type 0 where
  pub lifetimes : Lfts 1
  pub loan : Loan
  pub learnt : Learnt lifetimes (lent loan buffer, (n, (stall, tt))) answer (lent loan image, (n, (stall, tt)))

-- it is lent this image and leaves that one
pub record MilkingBy (Learnt : Lfts 1 → MilkingLent → ℕ → MilkingLent → Type 0) (image : List ℕ) (yield answer : ℕ) (image' : List ℕ) : Type 0 where
  pub lifetimes : Lfts 1
  pub loan : Loan
  pub learnt : Learnt lifetimes (lent loan image, (yield, tt)) answer (lent loan image', (yield, tt))

-- it is lent two images and a buffer, and leaves these three
pub record MeetingBy (Learnt : Lfts 3 → MeetingLent → ℕ → MeetingLent → Type 0) (first second buffer : List ℕ) (answer : ℕ) (first' second' buffer' : List ℕ) : Type 0 where
  pub lifetimes : Lfts 3
  pub one : Loan
  pub other : Loan
  pub third : Loan
  pub learnt : Learnt lifetimes (lent one first, (lent other second, (lent third buffer, tt))) answer
      (lent one first', (lent other second', (lent third buffer', tt)))

-- a call of wilbryn_fresh, of wilbryn_milking and of wilbryn_meeting
abbrev pub FreshCall : List ℕ → ℕ → ℕ → ℕ → List ℕ → Type 0
FreshCall = FreshBy fresh.Learnt

abbrev pub MilkingCall : List ℕ → ℕ → ℕ → List ℕ → Type 0
MilkingCall = MilkingBy milking.Learnt

abbrev pub MeetingCall : List ℕ → List ℕ → List ℕ → ℕ → List ℕ → List ℕ → List ℕ → Type 0
MeetingCall = MeetingBy meeting.Learnt
