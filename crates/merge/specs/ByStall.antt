-- An array with an entry a stall, as the code fills it: of so many entries, the first m are those of the stalls 1 to m.
use Rattle.std.specs.Prelude.{ℕ, ◌-◌, ◌≤◌, ◌≡◌, List, length, get_or}

pub record ByStall {A : Type 0} (d : A) (width m : ℕ) (f : ℕ → A) (out : List A) : Type 0 where
  pub long : length out ≡ width
  pub right : (r : ℕ) → 1 ≤ r → r ≤ m → get_or out (r - 1) d ≡ f r
