-- Every list of items has its calls, if single calls have.
use Prim.Native.Nat.{ℕ, ◌≤◌}
use mathlib.Core.Path.{refl, ap}
use mathlib.Core.List.{List, [], ◌∷◌}
use lib.ListN.{replicate, length-replicate}
use Rattle.image.specs.Layout.{largest, length_of}
use Rattle.image.specs.Fresh.{fresh_image}
use Rattle.head.specs.Calls.{Outcome, milking_call}
use Rattle.head.proofs.Freshness.{fresh_taken}
use Rattle.merge.specs.Call.{MeetingOutcome, meeting_call}
use Rattle.parlour.specs.Item.{Item, milking, meeting}
use Rattle.parlour.specs.Call.{Loan, FreshCall, MilkingCall, MeetingCall}
use Rattle.parlour.specs.Run.{Images, Calls, start, milk, meet, plain_calls}
use Rattle.parlour.specs.Theory.{Items, RunOf}

-- some loan: no contract looks at where a run lies
pub some_loan : Loan
some_loan = record { place = (0, 0); name = 0 }

pub fresh_call : (n p : ℕ) → 2 ≤ n → n ≤ largest → 1 ≤ p → p ≤ n → FreshCall (replicate (length_of n) 0) n p 0 (fresh_image n p)
fresh_call n p i j k l =
    record {
      lifetimes = ([], tt);
      loan = some_loan;
      learnt = fresh_taken (replicate (length_of n) 0) n p i j (length-replicate {A = ℕ} (length_of n) 0) k l;
    }

pub milking_call_lem : (image : List ℕ) (yield : ℕ) → MilkingCall image yield (milking_call image yield).answer (milking_call image yield).image
milking_call_lem image yield = record { lifetimes = ([], tt); loan = some_loan; learnt = refl }

pub meeting_call_lem : (first second buffer : List ℕ)
    → let o = meeting_call first second buffer in MeetingCall first second buffer o.answer o.first o.second o.verdicts
meeting_call_lem first second buffer = record { lifetimes = ([], ([], ([], tt))); one = some_loan; other = some_loan; third = some_loan; learnt = refl }

-- calls that there are, whatever they are lent: a fresh table for each stall, and an answer of every milking and meeting
pub record Possible (by : Calls) (n : ℕ) : Type 0 where
  pub buffers : Images
  pub images : Images
  pub fresh : (p : ℕ) → 1 ≤ p → p ≤ n → by.fresh (buffers p) n p 0 (images p)
  pub milking : (image : List ℕ) (yield : ℕ) → (o : Outcome) × by.milking image yield o.answer o.image
  pub meeting : (first second buffer : List ℕ) → (o : MeetingOutcome) × by.meeting first second buffer o.answer o.first o.second o.verdicts

pub runs_by : {by : Calls} {n : ℕ} → 2 ≤ n → n ≤ largest → Possible by n → (list : List Item) → Items n list → RunOf by n list
runs_by i j w [] fits = record { calls = []; images = w.images; run = start i j w.buffers w.images w.fresh; makes = refl }
runs_by i j w (milking stall yield ∷ earlier) (from, to, fits) =
    let before = runs_by i j w earlier fits in
    record {
      calls = _;
      images = _;
      run = milk before.run stall yield _ _ from to (w.milking (before.images stall) yield).1;
      makes = ap (λ l. milking stall yield ∷ l) before.makes;
    }
runs_by i j w (meeting p q buffer ∷ earlier) (p_from, p_to, q_from, q_to, differ, fits) =
    let before = runs_by i j w earlier fits in
    record {
      calls = _;
      images = _;
      run = meet before.run p q _ buffer _ _ _ p_from p_to q_from q_to differ (w.meeting (before.images p) (before.images q) buffer).1;
      makes = ap (λ l. meeting p q buffer ∷ l) before.makes;
    }

pub runs_exist : (n : ℕ) → 2 ≤ n → n ≤ largest → (list : List Item) → Items n list → RunOf plain_calls n list
runs_exist n i j =
    runs_by i j (record {
      buffers = λ p. replicate (length_of n) 0;
      images = fresh_image n;
      fresh = λ p k l. fresh_call n p i j k l;
      milking = λ image yield. (milking_call image yield, milking_call_lem image yield);
      meeting = λ first second buffer. (meeting_call first second buffer, meeting_call_lem first second buffer);
    })
