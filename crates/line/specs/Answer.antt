-- The answer to a line.
-- Document 01: "An answer is `00`, then for a meeting the label and N verdicts, for `04` the image, for `05` the count and the records alone; or the refusal
-- number in two hexadecimal digits (ten is `0a`). Order: 10, 11, then 1, 3, 4, 7. An empty line is 10. An opening refused with 1 opens nothing."
use Rattle.std.specs.Prelude.{ℕ, ◌+◌, ◌-◌, ◌*◌, Bool, true, false, ◌&&◌, cond, List, [], ◌∷◌, ◌++◌, leb, ltb, eqb, length, take, drop, replicate}
use Rattle.image.specs.Layout.{is_count, longest}
use Rattle.image.specs.Check.{bad_stall}
use Rattle.head.specs.Calls.{Outcome, milking_call}
use Rattle.head.specs.Heard.{HeardOutcome, heard_call}
use Rattle.head.specs.Settled.{Settled as SettledOutcome, settled_call}
use Rattle.merge.specs.Call.{MeetingOutcome, meeting_call}
use Rattle.line.specs.Digits.{digits_of}
use Rattle.line.specs.Frame.{frame_of}
use Rattle.line.specs.Parlour.{state_length, heads_of, is_open, image_of, with_image, fresh_state}
use Rattle.line.specs.declared.frame.Frame.{Frame}
use Rattle.line.specs.declared.frame.Frame.TheVariants.{Open, Milking, Meeting, Show, Heard, Settled, Bad}

-- the bytes of an answer, and the state afterwards
pub record Reply : Type 0 where
  pub bytes : List ℕ
  pub state : List ℕ

-- "`00`, then" some bytes where a call answers below 256; else it refuses, with 256 plus the number
abbrev pub answer_bytes : ℕ → List ℕ → List ℕ
answer_bytes answer more = cond (ltb answer 256) (0 ∷ more) ((answer - 256) ∷ [])

module _ (state : List ℕ) where
  -- "or the refusal number": every byte of the state stays
  abbrev pub refusal : ℕ → Reply
  refusal number = record { bytes = number ∷ []; state = state }

  -- 1: N not 2 to 16
  unfoldable pub opening : ℕ → Reply
  opening n = cond (is_count n) (record { bytes = 0 ∷ []; state = fresh_state n }) (refusal 1)

  -- a milking answers 0, or its refusal: 4, a new yield over 999
  abbrev pub milked_by : ℕ → Outcome → Reply
  milked_by stall o = record { bytes = o.answer ∷ []; state = with_image state stall o.image }

  -- 3: a stall not 1 to N
  unfoldable pub milking : ℕ → ℕ → Reply
  milking stall yield = cond (bad_stall (heads_of state) stall) (refusal 3) (milked_by stall (milking_call (image_of state stall) yield))

  -- "the label and N verdicts"
  abbrev pub met_by : ℕ → ℕ → MeetingOutcome → Reply
  met_by p q o =
      record { bytes = answer_bytes o.answer (o.answer ∷ o.verdicts); state = with_image (with_image state p o.first) q o.second }

  unfoldable pub meeting_of : ℕ → ℕ → Reply
  meeting_of p q = met_by p q (meeting_call (image_of state p) (image_of state q) (replicate (heads_of state) 0))

  -- 3 for the first stall, then for the second; 7: one stall twice
  unfoldable pub meeting : ℕ → ℕ → Reply
  meeting p q =
      cond (bad_stall (heads_of state) p) (refusal 3)
      (cond (bad_stall (heads_of state) q) (refusal 3)
      (cond (eqb p q) (refusal 7)
      (meeting_of p q)))

  -- "for `04` the image"
  unfoldable pub showing : ℕ → Reply
  showing stall = cond (bad_stall (heads_of state) stall) (refusal 3) (record { bytes = 0 ∷ image_of state stall; state = state })

  -- "for `05` the count and the records alone", or the call's refusal
  abbrev pub heard_by : HeardOutcome → Reply
  heard_by o = record { bytes = answer_bytes o.answer (o.answer ∷ take (3 * o.answer) o.records); state = state }

  -- 3: a stall not 1 to N; the call is lent a buffer of 3 × N bytes
  unfoldable pub hearing : ℕ → Reply
  hearing stall = cond (bad_stall (heads_of state) stall) (refusal 3) (heard_by (heard_call (image_of state stall) (replicate (3 * heads_of state) 0)))

  -- Request 2026-05: "answers `00`, then for each stall the number of stalls that this head knows to have heard its latest of that stall", or the call's refusal
  abbrev pub settled_by : SettledOutcome → Reply
  settled_by o = record { bytes = cond (eqb o.answer 0) (0 ∷ o.counts) (o.answer ∷ []); state = state }

  -- 3: a stall not 1 to N; the call is lent a buffer of N bytes
  unfoldable pub settling : ℕ → Reply
  settling stall = cond (bad_stall (heads_of state) stall) (refusal 3) (settled_by (settled_call (image_of state stall) (replicate (heads_of state) 0)))

  -- what a frame is answered with while a parlour is open, and before
  abbrev pub reply_to : Bool → Frame → Reply
  reply_to opened Bad = refusal 10
  reply_to true (Open n) = refusal 11
  reply_to false (Open n) = opening n
  reply_to true (Milking stall yield) = milking stall yield
  reply_to true (Meeting p q) = meeting p q
  reply_to true (Show stall) = showing stall
  reply_to true (Heard stall) = hearing stall
  reply_to true (Settled stall) = settling stall
  reply_to false (Milking stall yield) = refusal 11
  reply_to false (Meeting p q) = refusal 11
  reply_to false (Show stall) = refusal 11
  reply_to false (Heard stall) = refusal 11
  reply_to false (Settled stall) = refusal 11

  -- and a line
  abbrev pub reply_to_line : List ℕ → Reply
  reply_to_line line = reply_to (is_open state) (frame_of line)

-- some bytes as digits at the start of a buffer, the rest of it as it was
unfoldable pub written : List ℕ → List ℕ → List ℕ
written out bytes = digits_of bytes ++ drop (2 * length bytes) out

-- the longest answer: `00` and the longest image
abbrev pub longest_answer : ℕ
longest_answer = 2 + 2 * longest

-- how many digits come back from a call, and every byte of the state and of the buffer afterwards
pub record AnswerOutcome : Type 0 where
  pub count : ℕ
  pub state : List ℕ
  pub out : List ℕ

abbrev pub outcome : ℕ → List ℕ → List ℕ → AnswerOutcome
outcome count state out = record { count = count; state = state; out = out }

-- a reply in the buffers of a call
abbrev pub replied : List ℕ → Reply → AnswerOutcome
replied out reply = outcome (2 * length reply.bytes) reply.state (written out reply.bytes)

-- a state of another length, or a buffer too short for the longest answer: 0 digits, and every byte as it was
unfoldable pub answer_call : List ℕ → List ℕ → List ℕ → AnswerOutcome
answer_call state line out =
    cond (eqb (length state) state_length && leb longest_answer (length out)) (replied out (reply_to_line state line)) (outcome 0 state out)
