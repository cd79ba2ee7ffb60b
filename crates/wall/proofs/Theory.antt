-- The theorems of `specs/Theory.antt` hold, of plain and of packed tables, for every n.
use Prim.Native.Nat.{ℕ}
use mathlib.Core.Path.{refl, ◌∙◌}
use mathlib.Core.List.{[]}
use Rattle.panel.proofs.wilbryn_panel.Reads as panel
use Rattle.panel.proofs.wilbryn_packed_panel.Reads as packed_panel
use Rattle.panel.proofs.wilbryn_panel.Met as panel_met
use Rattle.panel.proofs.wilbryn_packed_panel.Met as packed_panel_met
use Rattle.panel.specs.Panel.{panel_call, packed_panel_call}
use Rattle.panel.proofs.Theory.{theory}
use Rattle.packed.specs.Form.{unpacked}
use Rattle.parlour.specs.Run.{plain_calls}
use Rattle.parlour.proofs.Existence.{some_loan}
use Rattle.parlour.proofs.Runs.{run_kept}
use Rattle.settled.specs.Call.{ReadBy}
use Rattle.storage.specs.Run.{packed_calls}
use Rattle.storage.proofs.Exact.{kept}
use Rattle.wall.specs.Theory.{Theory, Returns}
use Rattle.wall.proofs.Showing.{theory_of}

pub plain : (n : ℕ) → Theory plain_calls (ReadBy panel.Learnt) n
plain n =
    theory_of {plain = λ image. image} (record {
      kept = λ run. run_kept run;
      call = λ call. call.learnt;
      exists = λ image buffer. (panel_call image buffer, record { lifetimes = ([], ([], tt)); one = some_loan; other = some_loan; learnt = refl });
    })

pub packed : (n : ℕ) → Theory packed_calls (ReadBy packed_panel.Learnt) n
packed n =
    theory_of {plain = unpacked} (record {
      kept = λ run. kept run;
      call = λ {image} {buffer} call. call.learnt ∙ theory.panel_same image buffer;
      exists = λ image buffer. (packed_panel_call image buffer, record { lifetimes = ([], ([], tt)); one = some_loan; other = some_loan; learnt = refl });
    })

pub returns : Returns
returns = record { panel = panel_met.met; packed_panel = packed_panel_met.met }
