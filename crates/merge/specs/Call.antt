-- A meeting as a call: what comes back, and what every lent byte holds afterwards, refused or not.
-- Document 01: "Numbers 1 to 6 are tried in order over the whole first image, then the second, then 7, 8, 9. The first that applies stops the reading." and "wants a
-- meeting as an exported function that returns the label, or 256 plus the refusal number".
use Rattle.std.specs.Prelude.{ℕ, ◌+◌, ◌||◌, not, cond, List, eqb, length}
use Rattle.image.specs.Check.{checked}
use Rattle.image.specs.Encode.{encode, table_of}
use Rattle.image.specs.declared.Header.{Header}
use Rattle.image.specs.declared.Checked.{Checked}
use Rattle.image.specs.declared.Checked.TheVariants.{Good, Refused}
use Rattle.merge.specs.Verdict.{undecided}
use Rattle.merge.specs.Label.{new_label}
use Rattle.merge.specs.Merged.{merged, verdict_bytes}

pub record MeetingOutcome : Type 0 where
  pub answer : ℕ
  pub first : List ℕ
  pub second : List ℕ
  pub verdicts : List ℕ

module _ (s u buffer : List ℕ) where
  -- refused: 256 plus the number, and every lent byte as before
  abbrev pub refused_meeting : ℕ → MeetingOutcome
  refused_meeting number = record { answer = 256 + number; first = s; second = u; verdicts = buffer }

  -- accepted: the label, and both images and the buffer as the meeting leaves them
  abbrev pub accepted_meeting : ℕ → ℕ → ℕ → MeetingOutcome
  accepted_meeting n p q =
      let a = table_of s n in
      let b = table_of u n in
      record {
        answer = new_label n p a q b;
        first = encode n p (merged n p a q b a.current);
        second = encode n q (merged n p a q b b.current);
        verdicts = verdict_bytes n p a q b;
      }

  -- 9: "the images do not belong together"
  unfoldable pub met_together : ℕ → ℕ → ℕ → MeetingOutcome
  met_together n p q = cond (undecided n p (table_of s n) q (table_of u n)) (refused_meeting 9) (accepted_meeting n p q)

  -- 7: "two images differ in N or have one stall"; 8: "verdict buffer not N bytes"
  unfoldable pub met_good : Header → Header → MeetingOutcome
  met_good h g =
      cond (not (eqb h.n g.n) || eqb h.stall g.stall) (refused_meeting 7)
      (cond (not (eqb (length buffer) h.n)) (refused_meeting 8)
      (met_together h.n h.stall g.stall))

  -- 1 to 6 of the first image, then of the second
  unfoldable pub met_checked : Checked → Checked → MeetingOutcome
  met_checked (Refused number) y = refused_meeting number
  met_checked (Good h) (Refused number) = refused_meeting number
  met_checked (Good h) (Good g) = met_good h g

  unfoldable pub meeting_call : MeetingOutcome
  meeting_call = met_checked (checked s) (checked u)
