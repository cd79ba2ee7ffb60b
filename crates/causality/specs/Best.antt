-- Whose news is newer.
-- Document 01: "The verdict on stall r, when heads first and second meet, is document 003's "best" before that meeting: 1 if the first's latest is newer,
-- 2 if the second's is, 0 if equal. None is older than any meeting; none and none are 0."
use Rattle.std.specs.Prelude.{ℕ, zero, suc, cond, List, [], ◌∷◌, ◌++◌, map, ltb}
use Rattle.causality.specs.Event.{History}
use Rattle.causality.specs.Clock.{latest, latest_in}

-- 1 if the first place is newer, 2 if the second is, 0 if they are equal; none, 0, is older than any
unfoldable pub newer : ℕ → ℕ → ℕ
newer a b = cond (ltb b a) 1 (cond (ltb a b) 2 0)

-- best before a meeting of p and q, for r
unfoldable pub best : History → ℕ → ℕ → ℕ → ℕ → ℕ
best h n p q r = newer (latest h n p r) (latest h n q r)

-- the same for the pasts of two events: of the send that arrives and of the receiver's last event, where messages go one way
unfoldable pub best_in : History → ℕ → ℕ → ℕ → ℕ
best_in h x y r = newer (latest_in h x r) (latest_in h y r)

-- the processes 1 to N
unfoldable pub up_to : ℕ → List ℕ
up_to zero = []
up_to (suc n) = up_to n ++ (suc n ∷ [])

-- best for each of N processes: what a meeting of p and q returns
unfoldable pub verdicts : History → ℕ → ℕ → ℕ → ℕ → List ℕ
verdicts h n N p q = map (best h n p q) (up_to N)
