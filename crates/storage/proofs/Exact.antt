-- Along a list each head's packed image is its unpacked form, packed; so it is the packed image of the history's table.
use Prim.Native.Nat.{ℕ, ◌≤◌}
use mathlib.Core.Path.{◌≡◌, sym, ap, subst, ◌∙◌}
use mathlib.Core.List.{List}
use Rattle.image.specs.Encode.{nothing, table_of}
use Rattle.image.specs.Made.{Made}
use Rattle.image.proofs.Accepted.{checked_accepted}
use Rattle.image.proofs.AcceptedMade.{accepted_made}
use Rattle.image.proofs.Made.{nothing_made, made_agree}
use Rattle.packed.specs.Form.{packed_image, packed, unpacked}
use Rattle.packed.proofs.Small.{Small}
use Rattle.packed.proofs.FreshPacked.{fresh_zero}
use Rattle.packed.proofs.SmallImages.{small_packed_image, packed_image_lem, small_milking, small_meeting}
use Rattle.packed.proofs.Theory.{theory}
use Rattle.parlour.specs.Item.{Item, history}
use Rattle.parlour.specs.History.{meetings, events, yield_after, yield_at}
use Rattle.parlour.specs.Table.{table_at, table_after, image_after}
use Rattle.parlour.specs.Run.{Images, put, Called, start, milk, meet}
use Rattle.parlour.specs.Claim.{items}
use Rattle.parlour.proofs.Put.{put_each}
use Rattle.parlour.proofs.Images.{table_says}
use Rattle.parlour.proofs.Kept.{Kept, kept_says, kept_current}
use Rattle.parlour.proofs.Runs.{run_kept}
use Rattle.storage.specs.Run.{PackedRun, unpacked_images}
use Rattle.storage.proofs.Unpacking.{few_heads, unpacked_run}
use Rattle.storage.proofs.SameCalls.{same_items}

-- bytes only
small_run : {n : ℕ} {calls : List Called} {images : Images} → PackedRun n calls images → (p : ℕ) → 1 ≤ p → p ≤ n → Small (images p)
small_run {n} (start i j buffers images calls) p k l =
    subst Small (sym (fresh_zero (buffers p) n p (images p) (calls p k l).learnt)) (small_packed_image n p nothing (few_heads (start i j buffers images calls)) l (nothing_made n p))
small_run (milk {images = images} run stall y answer image i j call) p k l =
    put_each (λ r s. Small s) images stall p
    (subst Small (sym (ap (λ o. o.image) call.learnt)) (small_milking (images stall) y (small_run run stall i j))) (λ f. small_run run p k l)
small_run (meet {images = images} run p q answer buffer first second verdicts i j k l differ call) z from to =
    let (x, y) = small_meeting (images p) (images q) buffer (small_run run p i j) (small_run run q k l) in
    put_each (λ r s. Small s) (put images p first) q z (subst Small (sym (ap (λ o. o.second) call.learnt)) y)
    (λ g. put_each (λ r s. Small s) images p z (subst Small (sym (ap (λ o. o.first) call.learnt)) x) (λ f. small_run run z from to))

-- the history's table is well made
table_made : {n : ℕ} {l : List Item} {images : Images} → Kept n l images → (p : ℕ) → 1 ≤ p → p ≤ n → Made n p (table_after n l p)
unfolding table_after table_at
table_made {n} {l} {images} w p i j =
    let says = table_says n (events l) (yield_at l) (meetings l) p (yield_after l p) in
    let kept = kept_says w p i j in
    made_agree n p (table_after n l p) (table_of (images p) n) i j (sym (kept_current w p i j))
    (λ r c a b d e. says.names r c a b d e ∙ sym (kept.names r c a b d e))
    (λ r a b. says.yields r a b ∙ sym (kept.yields r a b))
    (λ r s a b d e. says.order r s a b d e ∙ sym (kept.order r s a b d e))
    (accepted_made (w.good p i j))

module _ {n : ℕ} {calls : List Called} {images : Images} (run : PackedRun n calls images) where
  pub kept : Kept n (history n (items calls)) (unpacked_images images)
  kept = subst (λ l. Kept n (history n l) (unpacked_images images)) (same_items calls) (run_kept (unpacked_run run))

  pub exact : (p : ℕ) → 1 ≤ p → p ≤ n → packed (unpacked (images p)) ≡ images p
  exact p i j =
      theory.unpack_pack (images p) n p (sym (theory.unpacked_checked (images p)) ∙ checked_accepted (kept.good p i j)) (small_run run p i j)

  pub bytes : (p : ℕ) → 1 ≤ p → p ≤ n → images p ≡ packed_image n p (table_after n (history n (items calls)) p)
  unfolding image_after
  bytes p i j =
      let t = table_after n (history n (items calls)) p in
      sym (exact p i j) ∙ ap packed (kept.is p i j) ∙ packed_image_lem n p t (few_heads run) j (table_made kept p i j) kept.n_from i
