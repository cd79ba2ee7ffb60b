-- What the functions that read a table ask of their callers.
use Rattle.std.specs.Prelude.{ℕ, ◌≤◌, ◌≡◌, List, length}
use Rattle.image.specs.Layout.{largest, image_length}

-- an image that has passed the checks 1 and 2
pub record Sized (s : List ℕ) (n : ℕ) : Type 0 where
  pub n_from : 2 ≤ n
  pub n_to : n ≤ largest
  pub long : length s ≡ image_length n

-- and 3: what the later checks, and all that reads a table, may rely on
pub record Framed (s : List ℕ) (n own : ℕ) : Type 0 where
  pub n_from : 2 ≤ n
  pub n_to : n ≤ largest
  pub own_from : 1 ≤ own
  pub own_to : own ≤ n
  pub long : length s ≡ image_length n
