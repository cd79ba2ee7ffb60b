-- The theorems of `specs/Theory.antt` hold for every n.
use Prim.Native.Nat.{ℕ}
use Rattle.packed.proofs.wilbryn_packed_fresh.Met as fresh
use Rattle.packed.proofs.wilbryn_packed_milking.Met as milked
use Rattle.packed.proofs.wilbryn_packed_meeting.Met as met
use Rattle.packed.proofs.wilbryn_packed_settled.Met as packed_settled
use Rattle.storage.specs.Theory.{Theory, Returns}
use Rattle.storage.proofs.Unpacking.{few_heads, unpacked_run}
use Rattle.storage.proofs.Claims.{claim, verdicts_are_best}
use Rattle.storage.proofs.Existence.{runs_exist}
use Rattle.storage.proofs.Compared.{same_answers, traced}
use Rattle.storage.proofs.SettledTables.{settled}

pub theory : (n : ℕ) → Theory n
theory n =
    record {
      unpacked_run = λ calls images. unpacked_run;
      same_answers = λ calls plain images plain_images. same_answers;
      claim = λ calls images. claim;
      verdicts_are_best = λ calls images. verdicts_are_best;
      few_heads = λ calls images. few_heads;
      runs_exist = runs_exist n;
      traced = traced n;
      settled = settled n;
    }

pub returns : Returns
returns = record { fresh = fresh.met; milking = milked.met; meeting = met.met; settled = packed_settled.met }
