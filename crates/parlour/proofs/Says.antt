-- A table that says what a history says, within 1 to n.
use Prim.Native.Nat.{ℕ, ◌≤◌}
use mathlib.Core.Path.{◌≡◌, sym, ap, ◌∙◌}
use Rattle.causality.specs.Event.{History}
use Rattle.causality.specs.Clock.{latest, latest_in, in_past}
use Rattle.causality.proofs.Clocks.{latest_self}
use Rattle.image.specs.Encode.{Table}
use Rattle.parlour.specs.Table.{name_in}

-- the table of head p after m meetings; the own row is a row like the others
pub record Says (n : ℕ) (h : History) (at : ℕ → ℕ → ℕ) (m p : ℕ) (t : Table) : Type 0 where
  pub names : (s r : ℕ) → 1 ≤ s → s ≤ n → 1 ≤ r → r ≤ n → t.names s r ≡ name_in n h r (latest_in h (latest h m p s) r)
  pub yields : (r : ℕ) → 1 ≤ r → r ≤ n → t.yields r ≡ at (latest h m p r) r
  pub order : (r s : ℕ) → 1 ≤ r → r ≤ n → 1 ≤ s → s ≤ n → t.order r s ≡ in_past h (latest h m p r) (latest h m p s)

pub own_names : {n : ℕ} {h : History} {at : ℕ → ℕ → ℕ} {m p : ℕ} {t : Table} → Says n h at m p t → 1 ≤ p → p ≤ n
    → (r : ℕ) → 1 ≤ r → r ≤ n → t.names p r ≡ name_in n h r (latest h m p r)
own_names {n} {h} {m = m} {p = p} w i j r k l = w.names p r i j k l ∙ ap (name_in n h r) (sym (latest_self h m p r))
