-- Only each head's own order counts. An item that each of its heads did last can be brought to the front of a list by trades; so two lists in which every head does the
-- same in the same order leave and answer the same.
use Prim.Native.Nat.{ℕ, ◌≤◌}
use mathlib.Core.Path.{◌≡◌, refl, sym, ap, ◌∙◌}
use mathlib.Core.Bool.{Bool, true, false}
use mathlib.Core.List.{List, [], ◌∷◌, map, nil≢cons, head-eq_of_cons-eq, tail-eq_of_cons-eq}
use mathlib.Core.Logic.{inl, inr}
use Rattle.image.specs.Layout.{largest}
use Rattle.parlour.specs.Item.{Item, history}
use Rattle.parlour.specs.Run.{Images, Called, Run}
use Rattle.parlour.specs.Claim.{items}
use Rattle.parlour.proofs.Runs.{run_kept}
use Rattle.traces.specs.Own.{is_of, Independent, Act, act, own}
use Rattle.traces.specs.Answer.{parts}
use Rattle.traces.specs.Theory.{SameBytes}
use Rattle.traces.proofs.TakingPart.{head_of, head_of_lem, common}
use Rattle.traces.proofs.Counted.{in_range, Counts, AllCount, all_count}
use Rattle.traces.proofs.State.{step, state, step_of, step_apart, step_trade}
use Rattle.traces.proofs.Runs.{run_leaves}
use Rattle.traces.proofs.Naming.{Renamed, renamed_of, act_renamed, step_renamed}

-- What stands for one head

own_of : (a : Item) (l : List Item) (r : ℕ) → is_of a r ≡ true → own (a ∷ l) r ≡ act a r ∷ own l r
unfolding own
own_of a l r o = rw o

own_apart : (a : Item) (l : List Item) (r : ℕ) → is_of a r ≡ false → own (a ∷ l) r ≡ own l r
unfolding own
own_apart a l r o = rw o

state_own : (n : ℕ) (l : List Item) (r : ℕ) → map (λ x. x.did) (state n l r).parts ≡ own l r
unfolding state own
state_own n [] r = refl
state_own n (a ∷ l) r = go (is_of a r) refl (state_own n l r)
  where
    go : (t : Bool) → is_of a r ≡ t → map (λ x. x.did) (state n l r).parts ≡ own l r → map (λ x. x.did) (step a (state n l) r).parts ≡ own (a ∷ l) r
    go true o e = ap (λ s. map (λ x. x.did) s.parts) (step_of a (state n l) r o) ∙ ap (λ m. act a r ∷ m) e ∙ sym (own_of a l r o)
    go false o e = ap (λ s. map (λ x. x.did) s.parts) (step_apart a (state n l) r o) ∙ e ∙ sym (own_apart a l r o)

-- a list in which some item does what another does, with that item brought to the front
record Front (n : ℕ) (a : Item) (l : List Item) : Type 0 where
  item : Item
  rest : List Item
  renamed : Renamed a item
  count : Counts n item × AllCount n rest
  same : state n l ≡ step item (state n rest)

front : (n : ℕ) (a : Item) (l : List Item) (rest : ℕ → List Act) → AllCount n l → ((r : ℕ) → is_of a r ≡ true → own l r ≡ act a r ∷ rest r) → Front n a l
unfolding own state
front n a [] rest w e = absurd (nil≢cons (e (head_of a) (head_of_lem a)))
front n a (c ∷ l) rest (v, w) e =
    elim (common a c) [
      | inl (r, i, j) ↦
          record { item = c; rest = l; renamed = act_renamed a c r i j (sym (head-eq_of_cons-eq (sym (own_of c l r j) ∙ e r i))); count = (v, w); same = refl }
      | inr d ↦
          let f = front n a l rest w (λ r o. sym (own_apart c l r (d.apart r o)) ∙ e r o) in
          let (x, y) = f.count in
          let apart : Independent f.item c = record { apart = λ r o. d.apart r (renamed_of f.renamed r ∙ o) } in
          record { item = f.item; rest = c ∷ f.rest; renamed = f.renamed; count = (x, (v, y)); same = ap (step c) f.same ∙ sym (step_trade apart (state n f.rest)) }
    ]

-- what stands behind the front
behind : (n : ℕ) (a : Item) (l m : List Item) (f : Front n a m) (r : ℕ) → own (a ∷ l) r ≡ own m r → own l r ≡ own f.rest r
unfolding state
behind n a l m f r e =
    go (is_of a r) refl (e ∙ sym (state_own n m r) ∙ ap (λ s. map (λ x. x.did) (s r).parts) f.same ∙ state_own n (f.item ∷ f.rest) r)
  where
    go : (t : Bool) → is_of a r ≡ t → own (a ∷ l) r ≡ own (f.item ∷ f.rest) r → own l r ≡ own f.rest r
    go true o e = tail-eq_of_cons-eq (sym (own_of a l r o) ∙ e ∙ own_of f.item f.rest r (sym (renamed_of f.renamed r) ∙ o))
    go false o e = sym (own_apart a l r o) ∙ e ∙ own_apart f.item f.rest r (sym (renamed_of f.renamed r) ∙ o)

module _ (n : ℕ) (from : 2 ≤ n) (to : n ≤ largest) where
  own_state : (l m : List Item) → AllCount n l → AllCount n m → ((r : ℕ) → 1 ≤ r → r ≤ n → own l r ≡ own m r) → state n l ≡ state n m
  unfolding state own
  own_state [] [] v w e = refl
  own_state [] (c ∷ m) v (x, w) e =
      let (i, j) = in_range n c x.0 (head_of c) (head_of_lem c) in absurd (nil≢cons (e (head_of c) i j ∙ own_of c m (head_of c) (head_of_lem c)))
  own_state (a ∷ l) m (x, v) w e =
      let f = front n a m (own l) w (λ r o. let (i, j) = in_range n a x.0 r o in sym (e r i j) ∙ own_of a l r o) in
      let (y, u) = f.count in
      ap (step a) (own_state l f.rest v u (λ r i j. behind n a l m f r (e r i j))) ∙ step_renamed n from to f.rest u f.renamed x y ∙ sym f.same

pub own_order : {n : ℕ} {calls calls' : List Called} {images images' : Images} → Run n calls images → Run n calls' images'
    → ((r : ℕ) → 1 ≤ r → r ≤ n → own (history n (items calls)) r ≡ own (history n (items calls')) r)
    → SameBytes n images images' × ((r : ℕ) → 1 ≤ r → r ≤ n → parts calls r ≡ parts calls' r)
own_order {n} {calls} {calls'} run run' e =
    let w = run_kept run in
    let s = run_leaves run in
    let u = run_leaves run' in
    let same = own_state n w.n_from w.n_to _ _ (all_count n (items calls) s.fits) (all_count n (items calls') u.fits) e in (
      λ r i j. s.counted_image r i j ∙ ap (λ z. (z r).image) same ∙ sym (u.counted_image r i j),
      λ r i j. s.counted_parts r i j ∙ ap (λ z. (z r).parts) same ∙ sym (u.counted_parts r i j),
    )
