-- What the numbers of a history say.
use Prim.Native.Nat.{ℕ, suc, ◌≤◌}
use mathlib.Core.Path.{◌≡◌, subst₂, ◌∙◌}
use mathlib.Core.Logic.{◌↔◌}
use mathlib.Core.Bool.{Bool, true, false}
use mathlib.Core.List.{List, ◌++◌}
use native.Mathlib.Omega.{arith}
use native.Mathlib.Decide.{dec_lt}
use Rattle.causality.specs.Past.{Past, here}
use Rattle.causality.specs.Clock.{latest, in_past}
use Rattle.causality.specs.Known.{Order}
use Rattle.causality.proofs.Clocks.{past_test, latest_le}
use Rattle.causality.proofs.Agreement.{past_agree, latest_agree}
use Rattle.causality.proofs.Knowledge.{ordered_heard, order_stays}
use Rattle.image.proofs.Counts.{count_le, count_below, count_grows, stalls_some, stalls_none, stalls_full}
use Rattle.parlour.specs.Item.{Item}
use Rattle.parlour.specs.History.{meetings, events}
use Rattle.parlour.proofs.Verdicts.{true_T, T_true}
use Rattle.settled.specs.Count.{latest_after, count_after}
use Rattle.settled.specs.Theory.{HistoryTheory}
use Rattle.settled.proofs.Extension.{meetings_more, places_stay}

module _ (n : ℕ) (l : List Item) where
  abbrev counted : ℕ → ℕ → ℕ → Bool
  counted p r s = in_past (events l) (latest_after l p r) (latest_after l p s)

  pub all_counted : (p r : ℕ) → (count_after n l p r ≡ n) ↔ ((s : ℕ) → 1 ≤ s → s ≤ n → Past (events l) (latest_after l p r) (latest_after l p s))
  unfolding count_after
  all_counted p r = (
    λ e s i j. (past_test (events l) _ _).0 (true_T (stalls_full n (counted p r) e s i j)),
    λ f. omega (arith, count_le n (λ k. counted p r (suc k)), count_below n n (λ k. counted p r (suc k)) (omega arith) (λ k i. T_true _ ((past_test (events l) _ _).1 (f (suc k) (omega arith) (omega arith))))),
  )

  none_counted : (p r s : ℕ) → latest_after l p r ≡ 0 → counted p r s ≡ false
  unfolding in_past
  none_counted p r s e = rw e

  pub never_heard : (p r : ℕ) → 1 ≤ r → r ≤ n → (count_after n l p r ≡ 0) ↔ (latest_after l p r ≡ 0)
  unfolding count_after
  never_heard p r i j = (
    λ e. elim (dec_lt 0 (latest_after l p r)) [
      | yes a ↦ absurd (omega (arith, stalls_some n (counted p r) r i j (T_true _ ((past_test (events l) _ _).1 (here a)))))
      | no f ↦ omega arith
    ],
    λ e. stalls_none n (counted p r) (λ s a b. none_counted p r s e),
  )

  -- the latests of now, read from a longer history
  module _ (later : List Item) where
    latest_same : (p s : ℕ) → latest_after l p s ≡ latest (events (later ++ l)) (meetings l) p s
    latest_same p s = latest_agree (places_stay later l) p s

    ordered : (p q r : ℕ) → counted p r q ≡ true → Order (events (later ++ l)) (meetings l) p r q
    ordered p q r e =
        subst₂ (Past (events (later ++ l))) (latest_same p r) (latest_same p q)
        (past_agree (places_stay later l) (latest_le (events l) (meetings l) p q) ((past_test (events l) _ _).0 (true_T e)))

  pub counted_heard : (p q r : ℕ) → counted p r q ≡ true → (later : List Item) → latest_after l p r ≤ latest_after (later ++ l) q r
  counted_heard p q r e later =
      omega (arith, latest_same later p r, ordered_heard (events (later ++ l)) (meetings l) (meetings (later ++ l)) p q r (meetings_more later l) (ordered later p q r e))

  pub same_no_fewer : (p r : ℕ) (later : List Item) → latest_after (later ++ l) p r ≡ latest_after l p r → count_after n l p r ≤ count_after n (later ++ l) p r
  unfolding count_after
  same_no_fewer p r later e =
      let h = events (later ++ l) in
      count_grows n (λ k. counted p r (suc k)) _ (λ k d.
      T_true _ ((past_test h _ _).1 (order_stays h (meetings l) (meetings (later ++ l)) p (suc k) r (meetings_more later l) (e ∙ latest_same later p r) (ordered later p (suc k) r d))))

  pub all_heard : (p r : ℕ) → count_after n l p r ≡ n → (later : List Item) (q : ℕ) → 1 ≤ q → q ≤ n → latest_after l p r ≤ latest_after (later ++ l) q r
  unfolding count_after
  all_heard p r e later q i j = counted_heard p q r (stalls_full n (counted p r) e q i j) later

  pub history_theory : HistoryTheory n l
  history_theory =
      record {
        all_counted = all_counted;
        never_heard = never_heard;
        places_stay = λ later. places_stay later l;
        counted_heard = counted_heard;
        same_no_fewer = same_no_fewer;
        all_heard = all_heard;
      }
