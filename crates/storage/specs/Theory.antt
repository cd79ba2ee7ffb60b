-- The theorems of `storage`, as one record with a field for each. `proofs/Theory.antt` proves it for every n.
-- Request 2026-04: "Meeting, milking and list on packed tables must equal those on the plain ones."
use Rattle.std.specs.Prelude.{ℕ, ◌≤◌, ◌≡◌, List}
use Rattle.packed.proofs.wilbryn_packed_fresh.Statement as fresh
use Rattle.packed.proofs.wilbryn_packed_milking.Statement as milked
use Rattle.packed.proofs.wilbryn_packed_meeting.Statement as met
use Rattle.packed.proofs.wilbryn_packed_settled.Statement as settled
use Rattle.packed.specs.Form.{largest_packed, packed}
use Rattle.parlour.specs.Item.{Item}
use Rattle.parlour.specs.Run.{Images, Called, Run}
use Rattle.parlour.specs.Claim.{items}
use Rattle.parlour.specs.Verdict.{VerdictsAreBest}
use Rattle.parlour.specs.Theory.{Items, RunOf}
use Rattle.traces.specs.Answer.{answers}
use Rattle.traces.specs.Theory as Traces
use Rattle.settled.specs.Theory as Settled
use Rattle.storage.specs.Run.{packed_calls, PackedRun, packed_form, unpacked_images, unpacked_calls}
use Rattle.storage.specs.Claim.{PackedClaim}

pub record Theory (n : ℕ) : Type 0 where
  -- With its images unpacked a list of calls on packed tables is a list of plain calls, with the same items, answers and verdicts: whatever holds of every list of
  -- plain calls holds of it.
  pub unpacked_run : (calls : List Called) (images : Images) → PackedRun n calls images → Run n (unpacked_calls calls) (unpacked_images images)
  -- Every list of plain calls with the same items gives the same answers and verdicts, and each head's packed image is its image, packed.
  pub same_answers : (calls plain : List Called) (images plain_images : Images) → PackedRun n calls images → Run n plain plain_images → items calls ≡ items plain
      → (answers calls ≡ answers plain) × ((p : ℕ) → 1 ≤ p → p ≤ n → images p ≡ packed (plain_images p))
  -- Demand 3.
  pub claim : (calls : List Called) (images : Images) → PackedRun n calls images → PackedClaim n calls images
  -- Demand 2.
  pub verdicts_are_best : (calls : List Called) (images : Images) → PackedRun n calls images → VerdictsAreBest n calls
  -- Every list has its calls, in every parlour whose tables can be packed, and no other parlour has any: request 2026-09: "a packed table over 8 is still number 1".
  pub few_heads : (calls : List Called) (images : Images) → PackedRun n calls images → n ≤ largest_packed
  pub runs_exist : 2 ≤ n → n ≤ largest_packed → (list : List Item) → Items n list → RunOf packed_calls n list
  -- Request 2026-03, "Which head was named first", of packed tables: either end of the cable, neighbours that trade places, each head's own order.
  pub traced : Traces.Theory packed_calls n
  -- Request 2026-05, "Who has heard it all", of packed tables: the numbers are those of the history, and where one is N, every head has that meeting or a newer one ever after.
  pub settled : Settled.Theory packed_form n

-- The four functions meet their contracts: each call is safe, returns, and what was read of its contract holds.
pub record Returns : Type 2 where
  pub fresh : {M : Type 1} → fresh.statement M
  pub milking : {M : Type 1} → milked.statement M
  pub meeting : {M : Type 1} → met.statement M
  pub settled : {M : Type 1} → settled.statement M
