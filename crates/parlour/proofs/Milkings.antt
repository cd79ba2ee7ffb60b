-- A milking of a list.
use Prim.Native.Nat.{ℕ, ◌≤◌, ◌<◌}
use mathlib.Core.Path.{◌≡◌, refl, sym, ap, subst, ◌∙◌}
use mathlib.Core.Bool.{Bool, true, false, cond}
use mathlib.Core.List.{List, [], ◌∷◌}
use native.Mathlib.Omega.{arith}
use borrow.Author.Tests.{eq-eqb, ne_eqb, leb-true, leb-false}
use lib.Dec.{eqb, leb}
use Rattle.image.specs.Layout.{yield_limit}
use Rattle.image.specs.Encode.{Table, encode}
use Rattle.image.proofs.Accepted.{Accepted, checked_accepted}
use Rattle.head.specs.Calls.{Outcome, with_current}
use Rattle.head.proofs.Milking.{milking_over, milking_done}
use Rattle.head.proofs.Milked.{milked_accepted}
use Rattle.parlour.specs.Item.{Item, milking, meeting, counts}
use Rattle.parlour.specs.History.{meetings, events, yield_after, yield_at}
use Rattle.parlour.specs.Table.{table_at, table_after, image_after}
use Rattle.parlour.specs.Call.{MilkingCall}
use Rattle.parlour.specs.Run.{Images, put, Called}
use Rattle.parlour.specs.Claim.{refusal, is_accepted, buffer_of, CallClaim}
use Rattle.parlour.proofs.Put.{put_same, put_each}
use Rattle.parlour.proofs.Kept.{Kept, kept_same}

-- the image with another current yield
current_set : (n p : ℕ) (t : Table) (y : ℕ) → with_current (encode n p t) y ≡ encode n p (record { current = y; names = t.names; yields = t.yields; order = t.order })
unfolding encode
current_set n p t y = refl

-- a milking changes the current yield of its stall
after_own : (n : ℕ) (l : List Item) (stall y : ℕ) → with_current (image_after n l stall) y ≡ image_after n (milking stall y ∷ l) stall
unfolding image_after table_after table_at events yield_after yield_at meetings
after_own n l stall y =
    let e : y ≡ cond (eqb stall stall) y (yield_after l stall) = rw (eq-eqb stall stall refl) in
    current_set n stall (table_after n l stall) y ∙ ap (λ c. encode n stall (table_at n (events l) (yield_at l) (meetings l) stall c)) e

after_apart : (n : ℕ) (l : List Item) (stall y p : ℕ) → (p ≡ stall → ⊥) → image_after n l p ≡ image_after n (milking stall y ∷ l) p
unfolding image_after table_after table_at events yield_after yield_at meetings
after_apart n l stall y p f =
    let e : yield_after l p ≡ cond (eqb stall p) y (yield_after l p) = rw (ne_eqb stall p (λ d. f (sym d))) in
    ap (λ c. encode n p (table_at n (events l) (yield_at l) (meetings l) p c)) e

module _ {n : ℕ} {l : List Item} {images : Images} (w : Kept n l images) (stall y answer : ℕ) (image : List ℕ) (from : 1 ≤ stall) (to : stall ≤ n)
    (call : MilkingCall (images stall) y answer image) where
  abbrev called : Called
  called = record { item = milking stall y; before = images; answer = answer; after = put images stall image; verdicts = [] }

  taken : y ≤ yield_limit → ◌≡◌ {A = Outcome} (record { answer = answer; image = image }) (record { answer = 0; image = with_current (images stall) y })
  taken k = call.learnt ∙ sym (milking_done (images stall) y (checked_accepted (w.good stall from to)) k)

  over : yield_limit < y → ◌≡◌ {A = Outcome} (record { answer = answer; image = image }) (record { answer = 4; image = images stall })
  over k = call.learnt ∙ sym (milking_over (images stall) y (checked_accepted (w.good stall from to)) k)

  pub milking_claim : CallClaim n called l
  unfolding is_accepted counts refusal buffer_of
  milking_claim =
      record {
        accepted = go (leb y yield_limit) refl;
        refused = λ e. ap (λ o. o.answer) (over (leb-false y yield_limit e));
        unchanged = λ e p. put_same images stall p (ap (λ o. o.image) (over (leb-false y yield_limit e)));
        buffer_unchanged = λ e. refl;
        label = λ p q buffer e. absurd (no_meeting e);
        label_in = λ p q buffer e. absurd (no_meeting e);
        label_below = λ p q buffer e. absurd (no_meeting e);
        verdicts = λ p q buffer e. absurd (no_meeting e);
      }
    where
      no_meeting : {p q : ℕ} {buffer : List ℕ} → milking stall y ≡ meeting p q buffer → ⊥
      no_meeting e = let z : ◌≡◌ {A = ℕ} 0 1 = cc in omega arith

      go : (t : Bool) → leb y yield_limit ≡ t → eqb answer 0 ≡ t
      go true e = eq-eqb answer 0 (ap (λ o. o.answer) (taken (leb-true y yield_limit e)))
      go false e = let d : answer ≡ 4 = ap (λ o. o.answer) (over (leb-false y yield_limit e)) in ne_eqb answer 0 (λ z. omega arith)

  counted : y ≤ yield_limit → Kept n (milking stall y ∷ l) (put images stall image)
  unfolding events
  counted k =
      record {
        n_from = w.n_from;
        n_to = w.n_to;
        joins = w.joins;
        good = λ p i j.
            put_each (λ r s. Accepted s n r) images stall p (subst (λ s. Accepted s n stall) (sym (ap (λ o. o.image) (taken k))) (milked_accepted (images stall) y (w.good stall from to) k)) (λ f. w.good p i j);
        is = λ p i j. put_each (λ r s. s ≡ image_after n (milking stall y ∷ l) r) images stall p (ap (λ o. o.image) (taken k) ∙ ap (λ s. with_current s y) (w.is stall from to) ∙ after_own n l stall y) (λ f. w.is p i j ∙ after_apart n l stall y p f);
      }

  -- the next history and its images
  pub milking_kept : Kept n (cond (counts n (milking stall y)) (milking stall y ∷ l) l) (put images stall image)
  unfolding counts
  milking_kept = go (leb y yield_limit) refl
    where
      go : (t : Bool) → leb y yield_limit ≡ t → Kept n (cond t (milking stall y ∷ l) l) (put images stall image)
      go true e = counted (leb-true y yield_limit e)
      go false e = kept_same w (λ p. milking_claim.unchanged e p)
