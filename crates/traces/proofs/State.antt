-- What a list leaves each head and answers it, computed by what the contracts say of single calls. An item changes what its own heads have, by what these had: so two
-- neighbours without a head in common may trade places.
use Prim.Native.Nat.{ℕ}
use mathlib.Core.Path.{◌≡◌, refl, sym, ap, fun_ext, ◌∙◌}
use mathlib.Core.Bool.{Bool, true, false, cond}
use mathlib.Core.List.{List, [], ◌∷◌}
use lib.Dec.{eqb}
use Rattle.image.specs.Fresh.{fresh_image}
use Rattle.merge.specs.Call.{meeting_call}
use Rattle.head.specs.Calls.{milking_call}
use Rattle.parlour.specs.Item.{Item, milking, meeting}
use Rattle.traces.specs.Own.{is_of, Independent, act}
use Rattle.traces.specs.Answer.{Answer, seen_by, Part}
use Rattle.traces.proofs.TakingPart.{of_stall, of_first, of_second, independent_sym}

-- what a head has: its image, and what it did and was answered so far
pub record State : Type 0 where
  pub image : List ℕ
  pub parts : List Part

-- what the call of an item answers
unfoldable pub reply : Item → (ℕ → State) → Answer
reply (milking stall yield) s = record { number = (milking_call (s stall).image yield).answer; verdicts = [] }
reply (meeting p q buffer) s = let call = meeting_call (s p).image (s q).image buffer in record { number = call.answer; verdicts = call.verdicts }

-- the image that it leaves to a head that takes part
unfoldable pub image_by : Item → (ℕ → State) → ℕ → List ℕ
image_by (milking stall yield) s r = (milking_call (s r).image yield).image
image_by (meeting p q buffer) s r = let call = meeting_call (s p).image (s q).image buffer in cond (eqb p r) call.first call.second

unfoldable pub step : Item → (ℕ → State) → ℕ → State
step a s r = cond (is_of a r) (record { image = image_by a s r; parts = record { did = act a r; answer = seen_by r a (reply a s) } ∷ (s r).parts }) (s r)

-- what each head has after a list from fresh images, and the answers of the list
unfoldable pub state : ℕ → List Item → ℕ → State
state n [] r = record { image = fresh_image n r; parts = [] }
state n (a ∷ l) r = step a (state n l) r

unfoldable pub replies : ℕ → List Item → List Answer
replies n [] = []
replies n (a ∷ l) = reply a (state n l) ∷ replies n l

pub step_of : (a : Item) (s : ℕ → State) (r : ℕ) → is_of a r ≡ true
    → step a s r ≡ record { image = image_by a s r; parts = record { did = act a r; answer = seen_by r a (reply a s) } ∷ (s r).parts }
unfolding step
step_of a s r o = rw o

pub step_apart : (a : Item) (s : ℕ → State) (r : ℕ) → is_of a r ≡ false → step a s r ≡ s r
unfolding step
step_apart a s r o = rw o

module _ (s u : ℕ → State) where
  -- the answer and what is left to its own heads depend on what these had
  reply_same : (a : Item) → ((r : ℕ) → is_of a r ≡ true → s r ≡ u r) → reply a s ≡ reply a u
  unfolding reply
  reply_same (milking stall y) e = rw (e stall (of_stall stall y))
  reply_same (meeting p q b) e = rw (e p (of_first p q b), e q (of_second p q b))

  image_same : (a : Item) → ((r : ℕ) → is_of a r ≡ true → s r ≡ u r) → (r : ℕ) → is_of a r ≡ true → image_by a s r ≡ image_by a u r
  unfolding image_by
  image_same (milking stall y) e r o = ap (λ z. (milking_call z.image y).image) (e r o)
  image_same (meeting p q b) e r o = rw (e p (of_first p q b), e q (of_second p q b))

  step_same : (a : Item) → ((r : ℕ) → is_of a r ≡ true → s r ≡ u r) → (r : ℕ) → is_of a r ≡ true → step a s r ≡ step a u r
  step_same a e r o = step_of a s r o ∙ rw (image_same a e r o, reply_same a e, e r o) (sym (step_of a u r o))

-- an item does not notice another that has no head in common with it
pub reply_apart : {a b : Item} → Independent a b → (s : ℕ → State) → reply a (step b s) ≡ reply a s
reply_apart {a} {b} w s = reply_same (step b s) s a (λ r o. step_apart b s r (w.apart r o))

-- a trade, seen by a head of the one
trade_own : {a b : Item} → Independent a b → (s : ℕ → State) (r : ℕ) → is_of a r ≡ true → step a (step b s) r ≡ step b (step a s) r
trade_own {a} {b} w s r o =
    step_same (step b s) s a (λ z i. step_apart b s z (w.apart z i)) r o ∙ sym (step_apart b (step a s) r (w.apart r o))

-- so two such may trade places
pub step_trade : {a b : Item} → Independent a b → (s : ℕ → State) → step a (step b s) ≡ step b (step a s)
step_trade {a} {b} w s = fun_ext (λ r. go r (is_of a r) (is_of b r) refl refl)
  where
    go : (r : ℕ) (x y : Bool) → is_of a r ≡ x → is_of b r ≡ y → step a (step b s) r ≡ step b (step a s) r
    go r true y i j = trade_own w s r i
    go r false true i j = sym (trade_own (independent_sym w) s r j)
    go r false false i j = step_apart a (step b s) r i ∙ step_apart b s r j ∙ sym (step_apart a s r i) ∙ sym (step_apart b (step a s) r j)
