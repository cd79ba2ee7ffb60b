-- What callers may use of a meeting, as one record with a field for each law. `proofs/Theory.antt` proves it for every two images, of a list or not.
use Rattle.std.specs.Prelude.{ℕ, ◌+◌, ◌^◌, ◌≤◌, ◌<◌, ◌≡◌, ◌↔◌, true, false, List, length, drop, replicate}
use Rattle.image.specs.Stalls.{count}
use Rattle.image.specs.Layout.{label_limit}
use Rattle.image.specs.Check.{checked}
use Rattle.image.specs.Encode.{Table, table_of}
use Rattle.image.specs.Theory.{Passes}
use Rattle.merge.specs.Verdict.{undecided}
use Rattle.merge.specs.Label.{label_used, pair_names, new_label}
use Rattle.merge.specs.Call.{meeting_call}

pub record Theory : Type 0 where
  -- "The label is the lowest that no name of this pair has in any row of either image. At most 4 × N names lie in the pair's two columns, so one is always there.":
  -- of any two tables, however they are made.
  pub new_label_free : (n p : ℕ) (a : Table) (q : ℕ) (b : Table) → label_used n p a q b (new_label n p a q b) ≡ false
  pub new_label_lowest : (n p : ℕ) (a : Table) (q : ℕ) (b : Table) (k : ℕ) → k < new_label n p a q b → label_used n p a q b k ≡ true
  pub new_label_most : (n p : ℕ) (a : Table) (q : ℕ) (b : Table) → new_label n p a q b ≤ pair_names n
  -- Request 2026-02: "In each table the latest of the partner stands in two rows, so a pair has at most 4 × N − 2 different names in both tables." Names of one pair
  -- differ in their labels, so this counts labels. It holds of any two accepted images, of a list or not, whether they belong together or not.
  pub pair_names_lem : (s u : List ℕ) (n p q : ℕ) → Passes s n p → Passes u n q → (p ≡ q → ⊥) → (t : ℕ) → count t (label_used n p (table_of s n) q (table_of u n)) ≤ label_limit n
  -- So one of 0 to the limit is always free, and the label is one of these; and so is what a meeting answers that is not refused.
  pub new_label_limit : (s u : List ℕ) (n p q : ℕ) → Passes s n p → Passes u n q → (p ≡ q → ⊥) → new_label n p (table_of s n) q (table_of u n) ≤ label_limit n
  pub meeting_limit : (s u buffer : List ℕ) → let o = meeting_call s u buffer in o.answer < 256 → o.answer ≤ label_limit (length buffer)
  -- "Our link people need the label in five bits.", which 2 to 8 heads keep to whatever two images meet; more heads take six.
  pub meeting_bits : (s u buffer : List ℕ) → let o = meeting_call s u buffer in o.answer < 256 → (o.answer < 2 ^ 6) × (length buffer ≤ 8 → o.answer < 2 ^ 5)
  -- Two heads by themselves never reach it: with six different names their own rows have no meeting in common, and they do not belong together.
  pub label_of_two : (s u buffer : List ℕ) → let o = meeting_call s u buffer in o.answer < 256 → length buffer ≡ 2 → o.answer < label_limit 2
  -- Where none of 1 to 8 applies, 9 is for exactly the images that do not belong together.
  pub nine_iff : (s u buffer : List ℕ) (n p q : ℕ) → Passes s n p → Passes u n q → (p ≡ q → ⊥) → length buffer ≡ n
      → ((meeting_call s u buffer).answer ≡ 256 + 9) ↔ (undecided n p (table_of s n) q (table_of u n) ≡ true)
  -- The check says the same of both images afterwards, accepted or refused: an image that passed passes still.
  pub meeting_accepted : (s u buffer : List ℕ) → let o = meeting_call s u buffer in (checked o.first ≡ checked s) × (checked o.second ≡ checked u)
  -- "Afterwards both images have the same rows, yields and marks.": all but N, stall and current yield.
  pub after_same : (s u buffer : List ℕ) → let o = meeting_call s u buffer in o.answer < 256 → drop 4 o.first ≡ drop 4 o.second
  -- A second meeting at once is accepted, and has nothing newer to tell.
  pub meeting_decided : (s u buffer again : List ℕ) → let o = meeting_call s u buffer in o.answer < 256 → length again ≡ length buffer
      → (meeting_call o.first o.second again).answer < 256
  pub meeting_zeros : (s u buffer again : List ℕ) → let o = meeting_call s u buffer in o.answer < 256 → length again ≡ length buffer
      → (meeting_call o.first o.second again).verdicts ≡ replicate (length again) 0
