-- Demand 3 for heads whose memory holds packed tables, sentence by sentence of "The claim" in document 01's "What a list leaves".
use Rattle.std.specs.Prelude.{ℕ, ◌≤◌, ◌≡◌, ◌↔◌, List}
use Rattle.causality.specs.Clock.{latest}
use Rattle.labels.specs.Name.{SameName}
use Rattle.image.specs.Layout.{name_at}
use Rattle.image.specs.declared.Meet.{Meet}
use Rattle.image.specs.declared.Name.TheVariants.{With}
use Rattle.packed.specs.Form.{packed_image, unpacked}
use Rattle.parlour.specs.Item.{history}
use Rattle.parlour.specs.History.{meetings, events}
use Rattle.parlour.specs.Table.{table_after}
use Rattle.parlour.specs.Run.{Images, Called}
use Rattle.parlour.specs.Claim.{CallClaim, CallOf, items, read}

pub record PackedClaim (n : ℕ) (calls : List Called) (images : Images) : Type 0 where
  -- of each call what is claimed of a plain one: accepted or refused and with which number, what a refusal leaves, label and verdicts
  pub each_call : (c : Called) (earlier : List Called) → CallOf calls c earlier → CallClaim n c (history n (items earlier))
  -- "Afterwards every byte of every image is what the section on the table of one head says": the packed image of the history's table
  pub bytes : (p : ℕ) → 1 ≤ p → p ≤ n → images p ≡ packed_image n p (table_after n (history n (items calls)) p)
  -- "Two names in own rows .. are the same pair and label exactly when they stand for the same meeting of the history."
  pub names : (p r q s : ℕ) → 1 ≤ p → p ≤ n → 1 ≤ r → r ≤ n → 1 ≤ q → q ≤ n → 1 ≤ s → s ≤ n → (a b : Meet)
      → name_at (unpacked (images p)) n p r ≡ With a → name_at (unpacked (images q)) n q s ≡ With b
      → let l = history n (items calls) in SameName (read r a) (read s b) ↔ (latest (events l) (meetings l) p r ≡ latest (events l) (meetings l) q s)
