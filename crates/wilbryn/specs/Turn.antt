-- What the program does between one read and the next, and from its start to its end. Reading and writing are calls of the C library, of which no contract can say
-- what they moved: so each statement is about the bytes that a read left in the buffer, and about the answers that were formed to be written.
use Rattle.std.specs.Prelude.{ℕ, ◌≤◌, min, Bool, true, false, ◌≡◌, ◌⊎◌, List, [], ◌∷◌, ℤ, pos, length, take, Option, None, Some, Result, Ok, Err}
use Rattle.stream.specs.Stream.{empty_state, output, last_output, whole_output}
use Rattle.stream.specs.Kept.{longest_line, kept_after}
use Rattle.stream.specs.Call.{keeping, Ready, ending, put_from}
use Rattle.wilbryn.specs.declared.Failure.{Failure}
use Rattle.wilbryn.specs.declared.Failure.TheVariants.{Read, Write}

-- the descriptors of standard input and standard output
abbrev pub standard_input : ℤ
standard_input = pos 0

abbrev pub standard_output : ℤ
standard_output = pos 1

-- to go on, with so much kept of the last line; or the input is over; or a read or a write failed
abbrev pub Turn : Type 0
Turn = Result (Option ℕ) Failure

-- as a turn answers it, whether the input goes on, with what is kept then
abbrev pub taken : Result Bool Failure → ℕ → Turn
taken (Ok true) kept = Ok (Some kept)
taken (Ok false) kept = Ok None
taken (Err e) kept = Err e

-- some input answered, in as many pieces as it took
pub record Went (state text : List ℕ) (kept : ℕ) (input state' text' : List ℕ) (kept' : ℕ) : Type 0 where
  pub state_is : state' ≡ (output state (take kept text) input).state
  pub kept_is : keeping text' kept' ≡ kept_after (keeping text kept) input

-- the front of a block answered, and no more of it
pub record WentPart (state text : List ℕ) (kept : ℕ) (block state' text' : List ℕ) : Type 0 where
  pub count : ℕ
  pub kept' : ℕ
  pub some : 1 ≤ count
  pub within : count ≤ length block
  pub went : Went state text kept (take count block) state' text' kept'

-- a block of some bytes: all of it is answered, or its front up to a write that failed
abbrev pub AfterSome : List ℕ → List ℕ → ℕ → List ℕ → List ℕ → List ℕ → Turn → Type 0
AfterSome state text kept block state' text' (Ok (Some kept')) = (kept' ≤ longest_line) × Went state text kept block state' text' kept'
AfterSome state text kept block state' text' (Ok None) = ⊥
AfterSome state text kept block state' text' (Err Read) = ⊥
AfterSome state text kept block state' text' (Err Write) = WentPart state text kept block state' text'

pub record BlockAnswered (state text : List ℕ) (kept : ℕ) (block state' text' : List ℕ) (turn : Turn) : Type 0 where
  pub after : AfterSome state text kept block state' text' turn

-- the end of the input: a last line that lacks its newline is answered
pub record LastWent (state text : List ℕ) (kept : ℕ) (out state' text' out' : List ℕ) : Type 0 where
  pub end : ℕ
  pub last : ending end state' out' ≡ put_from out 0 (last_output state (take kept text))
  pub same_text : text' ≡ text

abbrev pub AfterEnd : List ℕ → List ℕ → ℕ → List ℕ → List ℕ → List ℕ → List ℕ → Turn → Type 0
AfterEnd state text kept out state' text' out' (Ok (Some kept')) = ⊥
AfterEnd state text kept out state' text' out' (Ok None) = LastWent state text kept out state' text' out'
AfterEnd state text kept out state' text' out' (Err Read) = ⊥
AfterEnd state text kept out state' text' out' (Err Write) = LastWent state text kept out state' text' out'

pub record RestAnswered (state text : List ℕ) (kept : ℕ) (out state' text' out' : List ℕ) (turn : Turn) : Type 0 where
  pub after : AfterEnd state text kept out state' text' out' turn

-- what a read brought: "0 at the end of the input"
abbrev pub AfterBlock : List ℕ → List ℕ → ℕ → List ℕ → List ℕ → List ℕ → List ℕ → List ℕ → Turn → Type 0
AfterBlock state text kept [] out state' text' out' turn = AfterEnd state text kept out state' text' out' turn
AfterBlock state text kept (b ∷ block) out state' text' out' turn = AfterSome state text kept (b ∷ block) state' text' turn

-- a read that failed, and one that put some bytes at the front of the input buffer
abbrev pub AfterRead : List ℕ → List ℕ → ℕ → List ℕ → Result ℕ Failure → List ℕ → List ℕ → List ℕ → List ℕ → Turn → Type 0
AfterRead state text kept input (Ok count) out state' text' out' turn = AfterBlock state text kept (take (min count (length input)) input) out state' text' out' turn
AfterRead state text kept input (Err e) out state' text' out' turn = (turn ≡ Err Read) × (state' ≡ state) × (text' ≡ text) × (out' ≡ out)

pub record ReadAnswered (state text : List ℕ) (kept : ℕ) (input : List ℕ) (got : Result ℕ Failure) (out state' text' out' : List ℕ) (turn : Turn) : Type 0 where
  pub after : AfterRead state text kept input got out state' text' out' turn

-- one read, whatever it answered: the input buffer holds what it put there
pub record TurnTaken (state text : List ℕ) (kept : ℕ) (out state' text' input' out' : List ℕ) (turn : Turn) : Type 0 where
  pub got : Result ℕ Failure
  pub answered : ReadAnswered state text kept input' got out state' text' out' turn

-- all that was read is answered, from the empty state on, and so much is kept of the last line
pub record Gone (text state' text' : List ℕ) (kept' : ℕ) : Type 0 where
  pub input : List ℕ
  pub went : Went empty_state text 0 input state' text' kept'

pub record GoneSome (text state' text' : List ℕ) : Type 0 where
  pub kept' : ℕ
  pub gone : Gone text state' text' kept'

-- and the input is over: its last line is answered too
pub record Ended (state' : List ℕ) : Type 0 where
  pub input : List ℕ
  pub state_is : state' ≡ (whole_output input).state

-- the whole run, by its last turn; a write that failed may have been that of the last line
abbrev pub RanTo : List ℕ → List ℕ → List ℕ → Turn → Type 0
RanTo text state' text' (Ok (Some kept')) = (kept' ≤ longest_line) × Gone text state' text' kept'
RanTo text state' text' (Ok None) = Ended state'
RanTo text state' text' (Err Read) = GoneSome text state' text'
RanTo text state' text' (Err Write) = GoneSome text state' text' ⊎ Ended state'

pub record Ran (text state' text' : List ℕ) (turn : Turn) : Type 0 where
  pub after : RanTo text state' text' turn

-- what a run is lent: no parlour is open, and nothing is kept of a line
pub record Start (state text out : List ℕ) : Type 0 where
  pub empty : state ≡ empty_state
  pub ready : Ready state text 0 out
