-- Every list of calls leaves and answers what `state` says of its items, and of those that count.
use Prim.Native.Nat.{ℕ, ◌≤◌}
use mathlib.Core.Path.{◌≡◌, refl, sym, ap, ap₂, ◌∙◌}
use mathlib.Core.Bool.{Bool, true, false, cond, ◌&&◌}
use mathlib.Core.List.{List, [], ◌∷◌}
use borrow.Author.Tests.{eq-eqb, ne_eqb}
use lib.Dec.{eqb}
use Rattle.image.proofs.Passing.{or_fails}
use Rattle.merge.specs.Call.{MeetingOutcome, meeting_call}
use Rattle.head.specs.Calls.{Outcome, milking_call}
use Rattle.head.proofs.Freshness.{fresh_zero}
use Rattle.parlour.specs.Item.{Item, milking, meeting, counts, history}
use Rattle.parlour.specs.Call.{MilkingCall, MeetingCall}
use Rattle.parlour.specs.Run.{Images, put, Called, Run, start, milk, meet}
use Rattle.parlour.specs.Claim.{items, CallClaim}
use Rattle.parlour.specs.Theory.{Items}
use Rattle.parlour.proofs.Put.{put_each}
use Rattle.parlour.proofs.Runs.{claim}
use Rattle.traces.specs.Own.{is_of, act}
use Rattle.traces.specs.Answer.{answer_of, answers, seen_by, Part, parts}
use Rattle.traces.proofs.TakingPart.{of_stall, of_first, of_second}
use Rattle.traces.proofs.Counted.{items_more}
use Rattle.traces.proofs.State.{State, reply, image_by, step, state, replies, step_of, step_apart}

-- a call of this parlour: where the heads have these images, it answers and leaves what `reply` and `step` say
record Steps (n : ℕ) (c : Called) : Type 0 where
  fits : Items n (c.item ∷ [])
  steps : (s : ℕ → State) → ((r : ℕ) → 1 ≤ r → r ≤ n → c.before r ≡ (s r).image)
      → (answer_of c ≡ reply c.item s) × ((r : ℕ) → 1 ≤ r → r ≤ n → c.after r ≡ (step c.item s r).image)

milk_steps : {n : ℕ} (images : Images) (stall y answer : ℕ) (image : List ℕ) → 1 ≤ stall → stall ≤ n → MilkingCall (images stall) y answer image
    → Steps n (record { item = milking stall y; before = images; answer = answer; after = put images stall image; verdicts = [] })
unfolding reply image_by is_of
milk_steps images stall y answer image i j call =
    record {
      fits = (i, j, tt);
      steps = λ s e.
          let a = milking stall y in
          let same : ◌≡◌ {A = Outcome} (record { answer = answer; image = image }) (milking_call (s stall).image y) = call.learnt ∙ ap (λ z. milking_call z y) (e stall i j) in (
            ap (λ o. record { number = o.answer; verdicts = [] }) same,
            λ r k l. put_each (λ z x. x ≡ (step a s z).image) images stall r
                (ap (λ o. o.image) same ∙ sym (ap (λ z. z.image) (step_of a s stall (of_stall stall y))))
                (λ f. e r k l ∙ sym (ap (λ z. z.image) (step_apart a s r (ne_eqb stall r (λ x. f (sym x)))))),
          );
    }

meet_steps : {n : ℕ} (images : Images) (p q answer : ℕ) (buffer first second verdicts : List ℕ) → 1 ≤ p → p ≤ n → 1 ≤ q → q ≤ n → (p ≡ q → ⊥)
    → MeetingCall (images p) (images q) buffer answer first second verdicts
    → Steps n (record { item = meeting p q buffer; before = images; answer = answer; after = put (put images p first) q second; verdicts = verdicts })
unfolding reply image_by is_of
meet_steps images p q answer buffer first second verdicts i j k l differ call =
    record {
      fits = (i, j, k, l, differ, tt);
      steps = λ s e.
          let a = meeting p q buffer in
          let o = meeting_call (s p).image (s q).image buffer in
          let same : ◌≡◌ {A = MeetingOutcome} (record { answer = answer; first = first; second = second; verdicts = verdicts }) o =
          call.learnt ∙ ap₂ (λ x y. meeting_call x y buffer) (e p i j) (e q k l) in (
            ap (λ o. record { number = o.answer; verdicts = o.verdicts }) same,
            λ r u v. put_each (λ z x. x ≡ (step a s z).image) (put images p first) q r
                (ap (λ o. o.second) same ∙ ap (λ t. cond t o.first o.second) (sym (ne_eqb p q differ)) ∙ sym (ap (λ z. z.image) (step_of a s q (of_second p q buffer))))
                (λ g. put_each (λ z x. x ≡ (step a s z).image) images p r
                (ap (λ o. o.first) same ∙ ap (λ t. cond t o.first o.second) (sym (eq-eqb p p refl)) ∙ sym (ap (λ z. z.image) (step_of a s p (of_first p q buffer))))
                (λ f. e r u v
                ∙ sym (ap (λ z. z.image) (step_apart a s r ((or_fails (eqb p r) (eqb q r)).1 (ne_eqb p r (λ x. f (sym x)), ne_eqb q r (λ x. g (sym x)))))))),
          );
    }

-- what a list of calls leaves and answers
pub record Leaves (n : ℕ) (calls : List Called) (images : Images) : Type 0 where
  pub fits : Items n (items calls)
  pub image : (r : ℕ) → 1 ≤ r → r ≤ n → images r ≡ (state n (items calls) r).image
  pub replied : answers calls ≡ replies n (items calls)
  pub counted_image : (r : ℕ) → 1 ≤ r → r ≤ n → images r ≡ (state n (history n (items calls)) r).image
  pub counted_parts : (r : ℕ) → 1 ≤ r → r ≤ n → parts calls r ≡ (state n (history n (items calls)) r).parts

module _ {n : ℕ} {calls : List Called} {c : Called} (m : Steps n c) (claimed : CallClaim n c (history n (items calls))) (w : Leaves n calls c.before) where
  abbrev before : List Item
  before = history n (items calls)

  -- the part of head r in the call
  abbrev part : ℕ → Part
  part r = record { did = act c.item r; answer = seen_by r c.item (answer_of c) }

  image_next : (r : ℕ) → 1 ≤ r → r ≤ n → c.after r ≡ (state n (history n (items (c ∷ calls))) r).image
  unfolding history state
  image_next r i j = go (counts n c.item) refl
    where
      go : (t : Bool) → counts n c.item ≡ t → c.after r ≡ (state n (cond t (c.item ∷ before) before) r).image
      go true e = (m.steps (state n before) w.counted_image).1 r i j
      go false e = claimed.unchanged e r ∙ w.counted_image r i j

  parts_next : (r : ℕ) → 1 ≤ r → r ≤ n → parts (c ∷ calls) r ≡ (state n (history n (items (c ∷ calls))) r).parts
  unfolding history state parts step
  parts_next r i j =
      ap (λ t. cond (t && is_of c.item r) (part r ∷ parts calls r) (parts calls r)) claimed.accepted ∙ go (counts n c.item) (is_of c.item r) refl
    where
      go : (t u : Bool) → is_of c.item r ≡ u
          → cond (t && u) (part r ∷ parts calls r) (parts calls r) ≡ (state n (cond t (c.item ∷ before) before) r).parts
      go true true o =
          ap₂ (λ x y. record { did = act c.item r; answer = seen_by r c.item x } ∷ y) (m.steps (state n before) w.counted_image).0 (w.counted_parts r i j)
          ∙ sym (ap (λ z. z.parts) (step_of c.item (state n before) r o))
      go true false o = w.counted_parts r i j ∙ sym (ap (λ z. z.parts) (step_apart c.item (state n before) r o))
      go false u o = w.counted_parts r i j

  leaves_next : Leaves n (c ∷ calls) c.after
  unfolding state replies
  leaves_next =
      let made = m.steps (state n (items calls)) w.image in
      record {
        fits = items_more n c.item (items calls) m.fits w.fits;
        image = made.1;
        replied = ap₂ ◌∷◌ made.0 w.replied;
        counted_image = image_next;
        counted_parts = parts_next;
      }

pub run_leaves : {n : ℕ} {calls : List Called} {images : Images} → Run n calls images → Leaves n calls images
unfolding state replies history parts
run_leaves {n} (start i j buffers images calls) =
    let is : (r : ℕ) → 1 ≤ r → r ≤ n → images r ≡ (state n [] r).image = λ r k l. fresh_zero (buffers r) n r (images r) (calls r k l).learnt in
    record { fits = tt; image = is; replied = refl; counted_image = is; counted_parts = λ r k l. refl }
run_leaves (milk {calls} {images} run stall y answer image i j call) =
    leaves_next (milk_steps images stall y answer image i j call)
    ((claim (milk run stall y answer image i j call)).each_call _ calls (record { later = []; split = refl })) (run_leaves run)
run_leaves (meet {calls} {images} run p q answer buffer first second verdicts i j k l differ call) =
    leaves_next (meet_steps images p q answer buffer first second verdicts i j k l differ call)
    ((claim (meet run p q answer buffer first second verdicts i j k l differ call)).each_call _ calls (record { later = []; split = refl })) (run_leaves run)
