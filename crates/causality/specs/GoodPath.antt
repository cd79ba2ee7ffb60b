-- Document 003's own words: definition 2.2 (path), definition 2.3 (good path), latest and best, for a sequence of meetings.
-- α is the history `h` up to the place M, and α(k) the event at place k. Every agent named is one that takes part in a meeting.
use Rattle.std.specs.Prelude.{ℕ, suc, ◌≤◌, ◌<◌, cond, eqb}
use Rattle.causality.specs.Event.{History}

-- dom(α(k)) = {a_i, a_j}, named in either order
pub data Dom (h : History) : ℕ → ℕ → ℕ → Type 0 where
  as_named : (k : ℕ) → Dom h (suc k) (h k).first (h k).second
  exchanged : (k : ℕ) → Dom h (suc k) (h k).second (h k).first

-- Definition 2.2: pairs (k_1, a_l1) (k_2, a_l2) .. (k_n, a_ln) from a_i to a_j with M ≥ k_1 ≥ k_2 ≥ .. ≥ k_n ≥ 1,
-- dom(α(k_1)) = {a_i, a_l1}, dom(α(k_m)) = {a_l(m-1), a_lm} and a_ln = a_j
pub data Path (h : History) : ℕ → ℕ → ℕ → Type 0 where
  only : {m i j : ℕ} (k : ℕ) → k ≤ m → Dom h k i j → Path h m i j
  pair : {m i l j : ℕ} (k : ℕ) → k ≤ m → Dom h k i l → Path h k l j → Path h m i j

-- source(π) = k_1
unfoldable pub source : {h : History} {m i j : ℕ} → Path h m i j → ℕ
source (only k a d) = k
source (pair k a d π) = k

-- target(π) = k_n
unfoldable pub target : {h : History} {m i j : ℕ} → Path h m i j → ℕ
target (only k a d) = k
target (pair k a d π) = target π

-- Definition 2.3: π is good if for any other path π' from a_i to a_j, target(π') ≤ target(π)
pub record Good (h : History) (m i j : ℕ) (π : Path h m i j) : Type 0 where
  pub newest : (π' : Path h m i j) → target π' ≤ target π

-- latest_{a_i}(α, a_j), what a_j has of a_i: k if there is a good path π from a_j to a_i with target(π) = k, 0 otherwise
pub data LatestByPath (h : History) (M j i : ℕ) : ℕ → Type 0 where
  by_path : (π : Path h M j i) → Good h M j i π → LatestByPath h M j i (target π)
  otherwise : ((π : Path h M j i) → Good h M j i π → ⊥) → LatestByPath h M j i 0

-- a value of best: an agent, or the star
pub data Winner : Type 0 where
  agent : ℕ → Winner
  star : Winner

-- best_c(α)[m] for dom(c) = {a_i, a_j}: a_i if latest_{a_m}(α, a_j) < latest_{a_m}(α, a_i), a_j if it is the other way, * otherwise
pub data BestByPath (h : History) (M i j m : ℕ) : Winner → Type 0 where
  the_first : (a b : ℕ) → LatestByPath h M i m a → LatestByPath h M j m b → b < a → BestByPath h M i j m (agent i)
  the_second : (a b : ℕ) → LatestByPath h M i m a → LatestByPath h M j m b → a < b → BestByPath h M i j m (agent j)
  neither : (a b : ℕ) → LatestByPath h M i m a → LatestByPath h M j m b → (b < a → ⊥) → (a < b → ⊥) → BestByPath h M i j m star

-- document 01's verdicts 1, 2 and 0 as values of best
unfoldable pub winner : ℕ → ℕ → ℕ → Winner
winner i j verdict = cond (eqb verdict 1) (agent i) (cond (eqb verdict 2) (agent j) star)
