-- The latest news of a process.
-- Document 01: "For head p and stall r, the *latest* is the newest meeting of r in p's past, or none. This holds for r = p too."
use Rattle.std.specs.Prelude.{ℕ, ◌≤◌, ◌<◌}
use Rattle.causality.specs.Event.{History, Of}
use Rattle.causality.specs.Past.{Past, last}

-- k is the newest place up to n that has P, or 0 for none
pub record Newest (P : ℕ → Type 0) (n k : ℕ) : Type 0 where
  pub within : k ≤ n
  pub has : 0 < k → P k
  pub none_newer : (j : ℕ) → k < j → j ≤ n → P j → ⊥

-- k is the newest event of r in the past of y, or 0 for none (document 004, section 2: max_r of the ideal below y)
abbrev pub LatestIn : History → ℕ → ℕ → ℕ → Type 0
LatestIn h y r k = Newest (λ x. Of h r x × Past h x y) y k

-- k is the latest of r for p after n events
abbrev pub Latest : History → ℕ → ℕ → ℕ → ℕ → Type 0
Latest h n p r k = LatestIn h (last h n p) r k
