-- Every case of the table gives what document 01 says. `proofs/Theory.antt` proves it by one test of the whole table.
use Rattle.std.specs.Prelude.{ℕ, ◌<◌, ◌≡◌, [], length, get_or}
use Rattle.cases.specs.Case.{outcome, number}
use Rattle.cases.specs.Table.{table, ◌gives◌}

pub record Theory : Type 0 where
  pub cases_hold : (k : ℕ) → k < length table → let c = get_or table k (number [] gives []) in outcome c.given ≡ c.expected
