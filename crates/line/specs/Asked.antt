-- What the functions inside `line` ask of their callers, and what a meeting in a state leaves. `answer` asks nothing.
use Rattle.std.specs.Prelude.{ℕ, ◌+◌, ◌≤◌, ◌≡◌, false, List, ◌++◌, length, take, drop}
use Rattle.image.specs.Layout.{largest, length_of}
use Rattle.image.specs.Check.{bad_stall}
use Rattle.merge.specs.Call.{MeetingOutcome, meeting_call}
use Rattle.line.specs.Parlour.{state_length, heads_of, slot_place}
use Rattle.line.specs.Answer.{longest_answer}

-- buffers of the right lengths
pub record Ready (state out : List ℕ) : Type 0 where
  pub long : length state ≡ state_length
  pub room : longest_answer ≤ length out

-- and a parlour is open
pub record Opened (state out : List ℕ) : Type 0 where
  pub long : length state ≡ state_length
  pub room : longest_answer ≤ length out
  pub from : 2 ≤ heads_of state
  pub to : heads_of state ≤ largest

-- a stall of a parlour of n heads
pub record StallOf (n stall : ℕ) : Type 0 where
  pub from : 1 ≤ stall
  pub to : stall ≤ n

-- the bytes of a state that are the image of the head at a stall, which is there
pub record IsSlot (state : List ℕ) (stall start end : ℕ) : Type 0 where
  pub good : bad_stall (heads_of state) stall ≡ false
  pub start_is : start ≡ slot_place stall
  pub end_is : end ≡ start + length_of (heads_of state)

-- the heads whose images, so many bytes each, start at two places of a state met, and both images were put back
pub record MetAt (state : List ℕ) (a b count : ℕ) (buffer : List ℕ) (answer : ℕ) (after verdicts : List ℕ) : Type 0 where
  pub first : List ℕ
  pub second : List ℕ
  pub first_long : length first ≡ count
  pub second_long : length second ≡ count
  pub met : ◌≡◌ {A = MeetingOutcome} (record { answer = answer; first = first; second = second; verdicts = verdicts }) (meeting_call (take count (drop a state)) (take count (drop b state)) buffer)
  pub put_back : let y = take a state ++ first ++ drop (a + count) state in after ≡ take b y ++ second ++ drop (b + count) y
