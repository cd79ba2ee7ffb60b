-- How many stalls a head knows to have heard its latest of each stall, from the history alone.
-- Request 2026-05: "the number of stalls that this head knows to have heard its latest of that stall, 0 where never heard. It counts stall s when the latest of r lies in
-- the past of the latest of s."
-- Document 001, section 2.1 (matrix clock): component [s, r] of p's clock, p's view of s's view of r, has come up to p's own view of r exactly for the s that are counted. Where
-- it has for all s, p "knows that it is in all other sites' views", and may discard what is obsolete.
-- Document 000, definition 3 and lemma 1: p's latests are the surface of p's view. Where all are counted, the latest of r lies in the intersection of their pasts, of which
-- all processes know (E of the logic in section 2.2), and p may declare it (theorem 4).
use Rattle.std.specs.Prelude.{ℕ, List, [], ◌∷◌}
use Rattle.causality.specs.Clock.{latest, in_past}
use Rattle.image.specs.Stalls.{each, count_stalls}
use Rattle.parlour.specs.Item.{Item}
use Rattle.parlour.specs.History.{meetings, events}

-- the place of head p's latest of stall r after a history, 0 for none
abbrev pub latest_after : List Item → ℕ → ℕ → ℕ
latest_after l p r = latest (events l) (meetings l) p r

-- the number for stall r, in a parlour of n heads
unfoldable pub count_after : ℕ → List Item → ℕ → ℕ → ℕ
count_after n l p r = count_stalls n (λ s. in_past (events l) (latest_after l p r) (latest_after l p s))

-- the numbers for the stalls 1 to n
unfoldable pub counts_after : ℕ → List Item → ℕ → List ℕ
counts_after n l p = each n (λ r. count_after n l p r ∷ [])
