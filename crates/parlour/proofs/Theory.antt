-- The theorems of `specs/Theory.antt` hold for every n.
use Prim.Native.Nat.{ℕ}
use Rattle.head.proofs.wilbryn_fresh.Met as fresh
use Rattle.head.proofs.wilbryn_milking.Met as milked
use Rattle.head.proofs.wilbryn_meeting.Met as met
use Rattle.parlour.specs.Theory.{Theory, Returns}
use Rattle.parlour.proofs.Runs.{claim, verdicts_are_best}
use Rattle.parlour.proofs.NotMilked.{not_milked}
use Rattle.parlour.proofs.Existence.{runs_exist}

pub theory : (n : ℕ) → Theory n
theory n =
    record {
      claim = λ calls images. claim;
      verdicts_are_best = λ calls images. verdicts_are_best;
      not_milked = λ calls images. not_milked;
      runs_exist = runs_exist n;
    }

pub returns : Returns
returns = record { fresh = fresh.met; milking = milked.met; meeting = met.met }
