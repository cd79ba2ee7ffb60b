-- The theorems of `labels`, as one record with a field for each. `proofs/Theory.antt` proves it for every N and every history of meetings of 1 to N.
use Rattle.std.specs.Prelude.{ℕ, suc, ◌≤◌, ◌<◌, ◌≡◌, ◌↔◌, ◌⊎◌, T}
use Rattle.causality.specs.Event.{History}
use Rattle.causality.specs.Clock.{latest, latest_in}
use Rattle.causality.specs.Meetings.{Agree}
use Rattle.labels.specs.Label.{between, label}
use Rattle.labels.specs.Name.{SameName, name_of}

-- after n meetings head z names a meeting: as its latest of a stall, or as the newest of a stall in the past of one of its latests
pub data Names (N : ℕ) (h : History) (n z : ℕ) : ℕ → Type 0 where
  primary : (r : ℕ) → 1 ≤ r → r ≤ N → Names N h n z (latest h n z r)
  secondary : (s r : ℕ) → 1 ≤ s → s ≤ N → 1 ≤ r → r ≤ N → Names N h n z (latest_in h (latest h n z s) r)

-- one of the two of the next meeting names a meeting between the same two that has label k
pub record Taken (N : ℕ) (h : History) (n k : ℕ) : Type 0 where
  pub place : ℕ
  pub is_named : Names N h n (h n).first place ⊎ Names N h n (h n).second place
  pub same_two : T (between h (h n) place)
  pub has_label_lem : label N h place ≡ k

pub record Theory (N : ℕ) (h : History) : Type 0 where
  -- The label is literally the lowest that is not taken.
  pub label_free : (n : ℕ) → Taken N h n (label N h (suc n)) → ⊥
  pub label_lowest : (n k : ℕ) → k < label N h (suc n) → Taken N h n k
  -- It never depends on what comes later.
  pub label_agree : (g : History) (k : ℕ) → Agree h g k → label N h k ≡ label N g k
  -- 5. Two names in own rows, neither of them none, of any heads and in any columns, give the same pair and label exactly for the same meeting.
  pub names_agree : (n z s y t : ℕ) → 0 < latest h n z s → 0 < latest h n y t
      → SameName (name_of N h s (latest h n z s)) (name_of N h t (latest h n y t)) ↔ (latest h n z s ≡ latest h n y t)
  -- 6. Labels of lists are at most N - 1.
  pub label_bound : (k : ℕ) → label N h (suc k) < N
