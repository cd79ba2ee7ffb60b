-- Who has heard it all, of packed tables: their lists leave what the history says, and their numbers are those of the unpacked forms.
use Prim.Native.Nat.{ℕ}
use mathlib.Core.Path.{refl, ◌∙◌}
use mathlib.Core.List.{[]}
use Rattle.packed.specs.Calls.{packed_settled_call}
use Rattle.packed.proofs.Theory as packed
use Rattle.parlour.proofs.Existence.{some_loan}
use Rattle.settled.specs.Theory.{Theory}
use Rattle.settled.proofs.Settling.{theory_of}
use Rattle.storage.specs.Run.{packed_form}
use Rattle.storage.proofs.Exact.{kept}

pub settled : (n : ℕ) → Theory packed_form n
settled n =
    theory_of (record {
      kept = λ run. kept run;
      call = λ {image} {buffer} call. call.learnt ∙ (packed.theory).settled_same image buffer;
      exists = λ image buffer. (packed_settled_call image buffer, record { lifetimes = ([], ([], tt)); one = some_loan; other = some_loan; learnt = refl });
    })
