-- Items that differ in which of two heads is named first and in what the verdict buffer held do the same after any list that counts.
use Prim.Native.Nat.{ℕ, ◌≤◌}
use mathlib.Core.Path.{◌≡◌, refl, sym, ap, subst₂, fun_ext, ◌∙◌}
use mathlib.Core.Bool.{Bool, true, false, ◌||◌, or_comm, cond}
use mathlib.Core.List.{List, ◌∷◌, map}
use native.Mathlib.Omega.{arith}
use borrow.Author.Tests.{eqb-true}
use lib.Dec.{eqb}
use lib.ListN.{length}
use Rattle.image.specs.Layout.{largest}
use Rattle.merge.specs.Call.{MeetingOutcome, meeting_call}
use Rattle.parlour.specs.Item.{Item, milking, meeting, counts}
use Rattle.parlour.proofs.Existence.{meeting_call_lem, runs_exist}
use Rattle.traces.specs.Own.{is_of, met, act}
use Rattle.traces.specs.Answer.{exchange, seen_by}
use Rattle.traces.specs.Theory.{Turned}
use Rattle.traces.proofs.EitherEnd.{either_end}
use Rattle.traces.proofs.State.{State, reply, image_by, step, state}
use Rattle.traces.proofs.Counted.{Counts, AllCount, count_items}
use Rattle.traces.proofs.Runs.{run_leaves}

-- the same item, but for the order in which the two of a meeting are named, and for its buffer
pub data Renamed : Item → Item → Type 0 where
  milked_too : {stall yield : ℕ} → Renamed (milking stall yield) (milking stall yield)
  as_named : {p q : ℕ} {b c : List ℕ} → Renamed (meeting p q b) (meeting p q c)
  other_way : {p q : ℕ} {b c : List ℕ} → Renamed (meeting p q b) (meeting q p c)

-- the same heads take part in it
pub renamed_of : {a b : Item} → Renamed a b → (r : ℕ) → is_of a r ≡ is_of b r
unfolding is_of
renamed_of milked_too r = refl
renamed_of as_named r = refl
renamed_of (other_way {p} {q}) r = or_comm (eqb p r) (eqb q r)

-- what one head does says which item it is
pub act_renamed : (a c : Item) (r : ℕ) → is_of a r ≡ true → is_of c r ≡ true → act a r ≡ act c r → Renamed a c
unfolding is_of act
act_renamed (milking s y) (milking t z) r i j e =
    let d : s ≡ t = eqb-true s r i ∙ sym (eqb-true t r j) in
    let f : y ≡ z = cc in
    subst₂ (λ u v. Renamed (milking s y) (milking u v)) d f milked_too
act_renamed (milking s y) (meeting p q b) r i j e = let z : ◌≡◌ {A = ℕ} 0 1 = cc in absurd (omega arith)
act_renamed (meeting p q b) (milking s y) r i j e = let z : ◌≡◌ {A = ℕ} 0 1 = cc in absurd (omega arith)
act_renamed (meeting p q b) (meeting u v c) r i j e = go (eqb p r) (eqb u r) refl refl i j (inner e)
  where
    inner : {x y : ℕ} → met x ≡ met y → x ≡ y
    inner e = cc

    go : (x y : Bool) → eqb p r ≡ x → eqb u r ≡ y → (x || eqb q r) ≡ true → (y || eqb v r) ≡ true → cond x q p ≡ cond y v u → Renamed (meeting p q b) (meeting u v c)
    go true true f g i j e = subst₂ (λ s t. Renamed (meeting p q b) (meeting s t c)) (eqb-true p r f ∙ sym (eqb-true u r g)) e as_named
    go true false f g i j e = subst₂ (λ s t. Renamed (meeting p q b) (meeting s t c)) e (eqb-true p r f ∙ sym (eqb-true v r j)) other_way
    go false true f g i j e = subst₂ (λ s t. Renamed (meeting p q b) (meeting s t c)) (eqb-true q r i ∙ sym (eqb-true u r g)) e other_way
    go false false f g i j e = subst₂ (λ s t. Renamed (meeting p q b) (meeting s t c)) e (eqb-true q r i ∙ sym (eqb-true v r j)) as_named

-- two outcomes that are the same, seen from either of the two heads
step_turned : (p q : ℕ) (b c : List ℕ) (s : ℕ → State) → (p ≡ q → ⊥)
    → let one = meeting_call (s p).image (s q).image b in
    let other = meeting_call (s q).image (s p).image c in Turned one other → Turned other one → (r : ℕ) → step (meeting p q b) s r ≡ step (meeting q p c) s r
unfolding step is_of image_by act seen_by reply
step_turned p q b c s differ t u r = go (eqb p r) (eqb q r) refl refl
  where
    one : MeetingOutcome
    one = meeting_call (s p).image (s q).image b

    other : MeetingOutcome
    other = meeting_call (s q).image (s p).image c

    seen : Bool → MeetingOutcome → ℕ → ℕ → State
    seen x o p q =
        record {
          image = cond x o.first o.second;
          parts = record { did = met (cond x q p); answer = record { number = o.answer; verdicts = cond x o.verdicts (map exchange o.verdicts) } } ∷ (s r).parts;
        }

    go : (x y : Bool) → eqb p r ≡ x → eqb q r ≡ y → cond (x || y) (seen x one p q) (s r) ≡ cond (y || x) (seen y other q p) (s r)
    go true true e f = absurd (differ (eqb-true p r e ∙ sym (eqb-true q r f)))
    go true false e f = rw (t.label, t.first, ← u.verdicts)
    go false true e f = rw (t.label, t.second, ← t.verdicts)
    go false false e f = refl

module _ (n : ℕ) (from : 2 ≤ n) (to : n ≤ largest) (l : List Item) (w : AllCount n l) where
  -- by the calls of the list and one meeting more
  call_turned : (p q : ℕ) (b c : List ℕ) → 1 ≤ p → p ≤ n → 1 ≤ q → q ≤ n → (p ≡ q → ⊥) → length b ≡ n → length c ≡ n
      → let s = state n l in Turned (meeting_call (s p).image (s q).image b) (meeting_call (s q).image (s p).image c)
  call_turned p q b c i j k h differ e f =
      let list = runs_exist n from to l (count_items n l w) in
      let images = list.images in
      let is : (r : ℕ) → 1 ≤ r → r ≤ n → images r ≡ (state n l r).image = λ r x y. (run_leaves list.run).image r x y ∙ ap (λ m. (state n m r).image) list.makes in
      subst₂ (λ x y. Turned (meeting_call x y b) (meeting_call y x c)) (is p i j) (is q k h)
      (either_end list.run p q i j k h differ b c e f _ _ (meeting_call_lem (images p) (images q) b) (meeting_call_lem (images q) (images p) c))

  meeting_turned : (p q : ℕ) (b c : List ℕ) → Counts n (meeting p q b) → counts n (meeting q p c) ≡ true → step (meeting p q b) (state n l) ≡ step (meeting q p c) (state n l)
  unfolding counts
  meeting_turned p q b c ((i, j, k, h, differ, t), e) f =
      let long_b = eqb-true (length b) n e in
      let long_c = eqb-true (length c) n f in
      fun_ext (step_turned p q b c (state n l) differ
      (call_turned p q b c i j k h differ long_b long_c)
      (call_turned q p c b k h i j (λ d. differ (sym d)) long_c long_b))

  pub step_renamed : {a b : Item} → Renamed a b → Counts n a → Counts n b → step a (state n l) ≡ step b (state n l)
  unfolding counts
  step_renamed milked_too v u = refl
  step_renamed (other_way {p} {q} {b} {c}) v u = meeting_turned p q b c v u.1
  step_renamed (as_named {p} {q} {b} {c}) v u = meeting_turned p q b c v u.1 ∙ sym (meeting_turned p q c c u u.1)
