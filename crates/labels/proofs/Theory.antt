-- The theorems of `specs/Theory.antt` hold for every N and every history of meetings of 1 to N.
use Prim.Native.Nat.{ℕ}
use Rattle.causality.specs.Event.{History}
use Rattle.causality.specs.Meetings.{Joins}
use Rattle.labels.specs.Theory.{Theory}
use Rattle.labels.proofs.Rule.{label_free, label_lowest, label_agree}
use Rattle.labels.proofs.Unique.{names_agree}
use Rattle.labels.proofs.Limit.{label_bound}

pub theory : (N : ℕ) (h : History) → ((k : ℕ) → Joins N (h k)) → Theory N h
theory N h joins =
    record {
      label_free = label_free N h;
      label_lowest = label_lowest N h;
      label_agree = λ g k. label_agree N k;
      names_agree = names_agree N h joins;
      label_bound = label_bound N h joins;
    }
