-- A yield is not milked exactly where no milking that counts set it.
use Prim.Native.Nat.{ℕ, suc, ◌≤◌}
use mathlib.Core.Path.{◌≡◌, refl, sym, subst, ◌∙◌}
use mathlib.Core.Logic.{◌↔◌}
use mathlib.Core.Bool.{Bool, true, false, ◌||◌, cond, true≢false}
use mathlib.Core.List.{List, [], ◌∷◌}
use native.Mathlib.Omega.{arith}
use borrow.Author.Tests.{leb-true}
use lib.Dec.{eqb, leb}
use lib.ListN.{length}
use Rattle.causality.specs.Clock.{latest}
use Rattle.image.specs.Layout.{yield_limit, no_yield}
use Rattle.image.specs.Encode.{table_of}
use Rattle.image.proofs.YieldRange.{none_over}
use Rattle.image.proofs.Passing.{either}
use Rattle.parlour.specs.Item.{Item, milking, meeting, counts, history}
use Rattle.parlour.specs.History.{meetings, events, yield_after, yield_at}
use Rattle.parlour.specs.Run.{Images, Called, Run}
use Rattle.parlour.specs.Claim.{items}
use Rattle.parlour.specs.NotMilked.{is_milked, before, NotMilked}
use Rattle.parlour.proofs.Kept.{kept_says, kept_current}
use Rattle.parlour.proofs.Runs.{run_kept}

-- every milking counts
Counted : List Item → Type 0
Counted [] = Unit {0}
Counted (milking stall yield ∷ earlier) = (yield ≤ yield_limit) × Counted earlier
Counted (meeting first second buffer ∷ earlier) = Counted earlier

counted_next : (t : Bool) (stall yield : ℕ) (l : List Item) → leb yield yield_limit ≡ t → Counted l → Counted (cond t (milking stall yield ∷ l) l)
unfolding Counted
counted_next true stall yield l e w = (leb-true yield yield_limit e, w)
counted_next false stall yield l e w = w

history_counted : (n : ℕ) (l : List Item) → Counted (history n l)
unfolding history counts Counted
history_counted n [] = tt
history_counted n (milking stall yield ∷ earlier) = counted_next (leb yield yield_limit) stall yield (history n earlier) refl (history_counted n earlier)
history_counted n (meeting first second buffer ∷ earlier) =
    either Counted (eqb (length buffer) n) {x = meeting first second buffer ∷ history n earlier} (history_counted n earlier) (history_counted n earlier)

before_counted : (l : List Item) (k : ℕ) → Counted l → Counted (before l k)
unfolding before Counted
before_counted [] k w = tt
before_counted (milking stall yield ∷ earlier) k w = before_counted earlier k w.1
before_counted (meeting first second buffer ∷ earlier) k w = either Counted (eqb k (suc (meetings earlier))) w (before_counted earlier k w)

-- the yield at a meeting is the current one before it
at_before : (l : List Item) (k r : ℕ) → yield_at l k r ≡ yield_after (before l k) r
unfolding yield_at yield_after before
at_before [] k r = refl
at_before (milking stall yield ∷ earlier) k r = at_before earlier k r
at_before (meeting first second buffer ∷ earlier) k r = go (eqb k (suc (meetings earlier))) (at_before earlier k r)
  where
    go : (t : Bool) → yield_at earlier k r ≡ yield_after (before earlier k) r → cond t (yield_after earlier r) (yield_at earlier k r) ≡ yield_after (cond t earlier (before earlier k)) r
    go true e = refl
    go false e = e

after_none : (l : List Item) → Counted l → (r : ℕ) → (yield_after l r ≡ no_yield) ↔ (is_milked l r ≡ false)
unfolding yield_after is_milked Counted
after_none [] w r = (λ e. refl, λ e. refl)
after_none (milking stall yield ∷ earlier) w r = go (eqb stall r) (after_none earlier w.1 r)
  where
    go : (t : Bool) → (yield_after earlier r ≡ no_yield) ↔ (is_milked earlier r ≡ false)
        → (cond t yield (yield_after earlier r) ≡ no_yield) ↔ ((t || is_milked earlier r) ≡ false)
    go true f = (λ e. absurd (omega (arith, w.0, none_over)), λ e. absurd (true≢false e))
    go false f = f
after_none (meeting first second buffer ∷ earlier) w r = after_none earlier w r

pub not_milked : {n : ℕ} {calls : List Called} {images : Images} → Run n calls images → NotMilked n calls images
unfolding table_of
not_milked {n} {calls} run =
    let w = run_kept run in
    let l = history n (items calls) in
    let counted = history_counted n (items calls) in
    record {
      current = λ p i j. subst (λ y. (y ≡ no_yield) ↔ (is_milked l p ≡ false)) (sym (kept_current w p i j)) (after_none l counted p);
      stall = λ p r i j k o.
          let b = before l (latest (events l) (meetings l) p r) in
          subst (λ y. (y ≡ no_yield) ↔ (is_milked b r ≡ false)) (sym ((kept_says w p i j).yields r k o ∙ at_before l _ r))
          (after_none b (before_counted l _ counted) r);
    }
