-- The slots of a state: where they stand, and those of a parlour just opened.
use Prim.Native.Nat.{ℕ, ◌+◌, ◌*◌, ◌≤◌, ◌<◌}
use mathlib.Core.Path.{◌≡◌, sym, ap, ◌∙◌}
use mathlib.Core.List.{List, [], ◌∷◌, ◌++◌, append-nil}
use native.Mathlib.Omega.{arith}
use native.Mathlib.Decide.{dec_le}
use borrow.Author.Tests.{le-leb, lt-leb}
use lib.ListN.{length, take, drop, set, replicate, drop_of_length-le}
use Rattle.image.proofs.Zeros.{cleared_whole}
use Rattle.image.specs.Stalls.{each}
use Rattle.image.specs.Layout.{largest, length_of, longest}
use Rattle.image.specs.Fresh.{fresh_in}
use Rattle.image.proofs.Stages.{length_range}
use Rattle.image.proofs.FreshTable.{length_in}
use Rattle.line.specs.Parlour.{state_length, slot_place, fresh_slot, fresh_state}

-- the image of a stall lies within the state
pub slot_fits : (n r : ℕ) → 2 ≤ n → n ≤ largest → 1 ≤ r → r ≤ n → slot_place r + length_of n ≤ state_length
slot_fits n r a b c d = omega (arith, (length_range n a b).1)

module _ (n r : ℕ) where
  pub fresh_slot_lem : r ≤ n → fresh_in longest n r ≡ fresh_slot n r
  unfolding fresh_slot
  fresh_slot_lem l = rw (le-leb r n l)

  pub empty_slot : n < r → replicate longest 0 ≡ fresh_slot n r
  unfolding fresh_slot
  empty_slot l = rw (lt-leb r n l)

  pub length_slot : 2 ≤ n → n ≤ largest → length (fresh_slot n r) ≡ longest
  length_slot from to = elim (dec_le r n) [
    | yes l ↦ ap length (sym (fresh_slot_lem l)) ∙ length_in n r from to longest (length_range n from to).1
    | no l ↦ ap length (sym (empty_slot (omega arith)))
  ]

-- the slots behind N
pub state_opened : (s x : List ℕ) (n : ℕ) → length s ≡ state_length → x ≡ take 1 s ++ each largest (fresh_slot n) → set x 0 n ≡ fresh_state n
unfolding fresh_state
state_opened [] x n e i = absurd (omega arith)
state_opened (a ∷ s) x n e i = ap (λ l. set l 0 n) i

pub slots_whole : (s x : List ℕ) (n : ℕ) → length s ≡ state_length → x ≡ take 1 s ++ each largest (fresh_slot n) ++ drop (1 + largest * longest) s
    → x ≡ take 1 s ++ each largest (fresh_slot n)
slots_whole s x n e i = i ∙ ap (λ r. take 1 s ++ each largest (fresh_slot n) ++ r) (let l : length s ≤ 1 + largest * longest = omega arith in drop_of_length-le s l) ∙ append-nil _

pub ruleset slots = (fresh_slot_lem, empty_slot, cleared_whole)

pub ruleset opened = (state_opened)
