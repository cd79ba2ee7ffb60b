-- The columns of a row, eight at a time, and the own row, as the check of names goes through them. Contracts inside the crate alone speak of it.
use Rattle.std.specs.Prelude.{ℕ, suc, ◌+◌, ◌^◌, ◌<◌, ◌≡◌, Bool, not, List, eqb}
use Rattle.image.specs.Stalls.{some, bits}
use Rattle.image.specs.Lanes.{lane, pairs}
use Rattle.image.specs.Layout.{label_limit, partner_at, label_at, heard_at}
use Rattle.image.specs.Check.{bad_name, bad_diagonal}

-- a word in which no byte has its eighth bit
pub record Low (w : ℕ) : Type 0 where
  pub word : w < 2 ^ 64
  pub bytes : (i : ℕ) → i < 8 → lane 8 w i < 128

-- the four columns behind column c, at the partner bytes of four names
abbrev pub columns_from : ℕ → ℕ
columns_from c = pairs (λ j. c + suc j) (λ j. 0)

-- the name in column c of row r is bad by itself
abbrev pub bad_at : List ℕ → ℕ → ℕ → ℕ → Bool
bad_at s n r c = bad_name n (label_limit n) c (partner_at s n r c) (label_at s n r c)

-- what the own row tells of names: a number that is not 0 where some row has another name of its stall, and the stalls heard
abbrev pub OwnNames : List ℕ → ℕ → ℕ → ℕ → ℕ → Type 0
OwnNames s n own bad set = (not (eqb bad 0) ≡ some n (bad_diagonal s n own)) × (set ≡ bits n (heard_at s n own))
