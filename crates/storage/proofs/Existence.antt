-- Every list of items has its calls on packed tables.
use Prim.Native.Nat.{ℕ, ◌≤◌}
use mathlib.Core.Path.{refl}
use mathlib.Core.List.{List, []}
use lib.ListN.{replicate, length-replicate}
use Rattle.image.specs.Encode.{nothing}
use Rattle.packed.specs.Form.{largest_packed, packed_length, packed_image}
use Rattle.packed.specs.Calls.{packed_milking_call, packed_meeting_call}
use Rattle.packed.proofs.Sizes.{packed_few}
use Rattle.packed.proofs.FreshPacked.{fresh_taken}
use Rattle.parlour.specs.Item.{Item}
use Rattle.parlour.specs.Theory.{Items, RunOf}
use Rattle.parlour.proofs.Existence.{some_loan, runs_by}
use Rattle.storage.specs.Run.{packed_calls}

pub runs_exist : (n : ℕ) → 2 ≤ n → n ≤ largest_packed → (list : List Item) → Items n list → RunOf packed_calls n list
runs_exist n i j =
    let buffer : List ℕ = replicate (packed_length n) 0 in
    runs_by i (packed_few j) (record {
      buffers = λ p. buffer;
      images = λ p. packed_image n p nothing;
      fresh = λ p k l. record { lifetimes = ([], tt); loan = some_loan; learnt = fresh_taken buffer n p i j (length-replicate {A = ℕ} (packed_length n) 0) k l };
      milking = λ image yield. (packed_milking_call image yield, record { lifetimes = ([], tt); loan = some_loan; learnt = refl });
      meeting = λ first second buffer. (
        packed_meeting_call first second buffer,
        record { lifetimes = ([], ([], ([], tt))); one = some_loan; other = some_loan; third = some_loan; learnt = refl },
      );
    })
