-- The theorems of `specs/Theory.antt` hold, of every history, and of the calls on plain images for every n.
use Prim.Native.Nat.{ℕ}
use mathlib.Core.Path.{refl}
use mathlib.Core.List.{List, []}
use Rattle.head.proofs.wilbryn_settled.Met as settled
use Rattle.head.specs.Settled.{settled_call}
use Rattle.parlour.specs.Item.{Item}
use Rattle.parlour.proofs.Existence.{some_loan}
use Rattle.parlour.proofs.Runs.{run_kept}
use Rattle.settled.specs.Call.{plain_form}
use Rattle.settled.specs.Theory.{HistoryTheory, Theory, Returns}
use Rattle.settled.proofs.Counted as Counted
use Rattle.settled.proofs.Settling.{theory_of}

pub history_theory : (n : ℕ) (l : List Item) → HistoryTheory n l
history_theory n l = Counted.history_theory n l

pub theory : (n : ℕ) → Theory plain_form n
theory n =
    theory_of (record {
      kept = λ run. run_kept run;
      call = λ call. call.learnt;
      exists = λ image buffer. (settled_call image buffer, record { lifetimes = ([], ([], tt)); one = some_loan; other = some_loan; learnt = refl });
    })

pub returns : Returns
returns = record { settled = settled.met }
