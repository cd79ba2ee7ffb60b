-- The label of the meeting.
-- Document 01: "The label is the lowest that no name of this pair has in any row of either image."
use Rattle.std.specs.Prelude.{ℕ, zero, suc, ◌*◌, Bool, false, ◌&&◌, ◌||◌, cond, eqb}
use Rattle.image.specs.Stalls.{some}
use Rattle.image.specs.Encode.{Table}
use Rattle.image.specs.declared.Name.{Name}
use Rattle.image.specs.declared.Name.TheVariants.{Never, With}

-- the name is the meeting with this partner that has label k
abbrev pub is_meeting : ℕ → ℕ → Name → Bool
is_meeting partner k Never = false
is_meeting partner k (With m) = eqb m.partner partner && eqb m.label k

-- a name of the pair p, q in row r has label k
abbrev pub row_has : ℕ → ℕ → Table → ℕ → ℕ → Bool
row_has p q t k r = is_meeting q k (t.names r p) || is_meeting p k (t.names r q)

-- some row of either table has it
unfoldable pub label_used : ℕ → ℕ → Table → ℕ → Table → ℕ → Bool
label_used n p a q b k = some n (λ r. row_has p q a k r || row_has p q b k r)

-- the first of k, k + 1, .. that is not used, or the last of them after so many turns
unfoldable pub lowest_from : ℕ → ℕ → (ℕ → Bool) → ℕ
lowest_from zero k used = k
lowest_from (suc turns) k used = let next = lowest_from turns (suc k) used in cond (used k) next k

-- "At most 4 × N names lie in the pair's two columns, so one is always there.": so many turns are enough
abbrev pub pair_names : ℕ → ℕ
pair_names n = 4 * n

unfoldable pub new_label : ℕ → ℕ → Table → ℕ → Table → ℕ
new_label n p a q b = lowest_from (pair_names n) 0 (label_used n p a q b)
