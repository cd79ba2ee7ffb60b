-- The label of a meeting is free, the lowest that is, and within the limit.
use Prim.Native.Nat.{ℕ, ◌≤◌, ◌<◌}
use mathlib.Core.Path.{◌≡◌, refl, sym, ap, ◌∙◌}
use mathlib.Core.Bool.{Bool, true, false, ◌||◌}
use native.Mathlib.Omega.{arith}
use native.Mathlib.Decide.{dec_lt, ℕ_discrete}
use lib.Bits.{bit_or}
use Rattle.image.specs.Stalls.{some}
use Rattle.image.specs.Layout.{label_limit}
use Rattle.image.specs.Encode.{Table}
use Rattle.image.proofs.Search.{some_or}
use Rattle.image.proofs.Counts.{count_below}
use Rattle.merge.specs.Label.{row_has, lowest_from, label_used, pair_names, new_label}
use Rattle.merge.specs.LabelSet.{label_set, has_label}
use Rattle.merge.proofs.Heads.{Heads}
use Rattle.merge.proofs.label.LabelSets.{has_label_lem, set_or}
use Rattle.merge.proofs.label.Lowest.{lowest_to, lowest_below, lowest_stops, lowest_is, lowest_agree}
use Rattle.merge.proofs.label.Counting.{not_all_used, count_names}

module _ (n p : ℕ) (a : Table) (q : ℕ) (b : Table) where
  -- however the tables are made
  pub new_label_most : new_label n p a q b ≤ pair_names n
  unfolding new_label
  new_label_most = omega (arith, lowest_to (pair_names n) 0 (label_used n p a q b))

  pub new_label_lowest : (k : ℕ) → k < new_label n p a q b → label_used n p a q b k ≡ true
  unfolding new_label
  new_label_lowest k l = lowest_below (pair_names n) 0 (label_used n p a q b) k (omega arith) l

  new_label_stops : new_label n p a q b < pair_names n → label_used n p a q b (new_label n p a q b) ≡ false
  unfolding new_label
  new_label_stops l = lowest_stops (pair_names n) 0 (label_used n p a q b) (omega arith)

  pub new_label_free : label_used n p a q b (new_label n p a q b) ≡ false
  new_label_free = go (label_used n p a q b (new_label n p a q b)) refl
    where
      go : (t : Bool) → label_used n p a q b (new_label n p a q b) ≡ t → t ≡ false
      go false e = refl
      go true e = elim (dec_lt (new_label n p a q b) (pair_names n)) [
        | yes l ↦ sym e ∙ new_label_stops l
        | no l ↦ absurd (not_all_used n p a q b (λ k m. elim (dec_lt k (new_label n p a q b)) [
          | yes i ↦ new_label_lowest k i
          | no i ↦ let d : k ≡ new_label n p a q b = omega (arith, new_label_most) in ap (label_used n p a q b) d ∙ e
        ]))
      ]

  -- more turns find the same
  pub new_label_is : (t : ℕ) (u : ℕ → Bool) → pair_names n ≤ t → ((k : ℕ) → k < t → u k ≡ label_used n p a q b k) → lowest_from t 0 u ≡ new_label n p a q b
  unfolding new_label
  new_label_is t u l e =
      lowest_agree t 0 u (label_used n p a q b) (λ j i m. e j (omega arith))
      ∙ elim (ℕ_discrete (pair_names n) t) [
        | yes i ↦ ap (λ k. lowest_from k 0 (label_used n p a q b)) (sym i)
        | no i ↦ lowest_is t 0 (new_label n p a q b) (label_used n p a q b) (omega arith) (omega (arith, new_label_most)) (λ j i m. new_label_lowest j m) new_label_free
      ]

-- all labels below it are used, so it is at most as many as names of the pair can have
pub new_label_limit : {n p : ℕ} {a : Table} {q : ℕ} {b : Table} → Heads n p a q b → new_label n p a q b ≤ label_limit n
new_label_limit {n} {p} {a} {q} {b} w =
    let t = new_label n p a q b in
    omega (arith, count_below t t (label_used n p a q b) (omega arith) (new_label_lowest n p a q b), count_names w t)

-- the labels of both tables
pub label_chosen : (n p : ℕ) (a : Table) (q : ℕ) (b : Table) → pair_names n ≤ 64
    → lowest_from 64 0 (has_label (bit_or (label_set (λ k. some n (row_has p q a k))) (label_set (λ k. some n (row_has p q b k))))) ≡ new_label n p a q b
unfolding label_used
label_chosen n p a q b l =
    let f : ℕ → Bool = λ k. some n (row_has p q a k) in
    let g : ℕ → Bool = λ k. some n (row_has p q b k) in
    new_label_is n p a q b 64 (has_label (bit_or (label_set f) (label_set g))) l (λ k m.
    ap (λ x. has_label x k) (set_or f g) ∙ has_label_lem (λ k. f k || g k) k m ∙ some_or n (row_has p q a k) (row_has p q b k))
