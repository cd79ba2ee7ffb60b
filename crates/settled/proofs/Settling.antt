-- From the images of a list to the numbers, and from the numbers to what every head has heard: for any form of tables whose lists and calls are those of plain images.
use Prim.Native.Nat.{ℕ, ◌-◌, ◌≤◌, ◌<◌}
use mathlib.Core.Path.{◌≡◌, refl, sym, ap, subst, ◌∙◌}
use mathlib.Core.List.{List, [], ◌∷◌, ◌++◌}
use native.Mathlib.Omega.{arith}
use native.Mathlib.Decide.{ℕ_discrete}
use lib.ListN.{length, get_or}
use Rattle.causality.specs.Best.{best}
use Rattle.causality.proofs.Pasts.{past_pos}
use Rattle.causality.proofs.Clocks.{latest_of}
use Rattle.causality.proofs.Newer.{Newer, by_first, by_second, newer_is}
use Rattle.image.specs.Layout.{mark_at}
use Rattle.image.specs.Encode.{table_of}
use Rattle.image.proofs.Accepted.{checked_accepted}
use Rattle.image.proofs.Counts.{stalls_agree}
use Rattle.image.proofs.Has.{each_byte}
use Rattle.merge.proofs.pairs.PairRows.{each_agree}
use Rattle.head.specs.Settled.{settled_counts, Settled, settled_call}
use Rattle.head.proofs.SettledCounts.{settled_short, settled_done}
use Rattle.parlour.specs.Item.{Item, history}
use Rattle.parlour.specs.History.{meetings, events}
use Rattle.parlour.specs.Run.{Images, Called, RunBy}
use Rattle.parlour.specs.Claim.{items}
use Rattle.parlour.proofs.Says.{own_names}
use Rattle.parlour.proofs.Kept.{Kept, kept_says}
use Rattle.settled.specs.Count.{latest_after, count_after, counts_after}
use Rattle.settled.specs.Call.{Form}
use Rattle.settled.specs.Theory.{Answered, HasHeard, IsSettled, plain_images, Theory}
use Rattle.settled.proofs.Extension.{history_longer}
use Rattle.settled.proofs.Counted.{all_counted, all_heard}

-- one head's table
module _ {n : ℕ} {l : List Item} {images : Images} (w : Kept n l images) (p : ℕ) (p_from : 1 ≤ p) (p_to : p ≤ n) where
  -- it has the numbers of the history
  pub counts_are : settled_counts (images p) n ≡ counts_after n l p
  unfolding settled_counts counts_after count_after table_of
  counts_are =
      each_agree n _ _ (λ r i j. ap (λ k. k ∷ []) (stalls_agree n (mark_at (images p) n r) _ (λ s a b. (kept_says w p p_from p_to).order r s i j a b)))

  pub answered : {buffer counts : List ℕ} {answer : ℕ} → ◌≡◌ {A = Settled} (record { answer = answer; counts = counts }) (settled_call (images p) buffer)
      → Answered n l p buffer answer counts
  answered {buffer} call =
      let good = checked_accepted (w.good p p_from p_to) in
      record {
        accepted = λ e. let o = call ∙ sym (settled_done (images p) buffer good e refl) in (ap (λ o. o.answer) o, ap (λ o. o.counts) o ∙ counts_are);
        refused = λ f. let o = call ∙ sym (settled_short (images p) buffer good f) in (ap (λ o. o.answer) o, ap (λ o. o.counts) o);
      }

  -- and names what is not older than a place that its latest is not older than
  pub has_heard : (r k : ℕ) → 1 ≤ r → r ≤ n → 0 < k → k ≤ latest_after l p r → HasHeard n l (images p) p r k
  unfolding table_of
  has_heard r k i j pos since =
      record {
        place = latest_after l p r;
        is_latest = refl;
        is_named = own_names (kept_says w p p_from p_to) p_from p_to r i j;
        of_stall = latest_of (events l) (meetings l) p r (omega arith);
        not_older = since;
      }

-- of two heads that have both heard of a meeting, whichever has newer news has it of a newer one
newer_than : (l : List Item) (a b r k : ℕ) → k ≤ latest_after l a r → k ≤ latest_after l b r
    → (best (events l) (meetings l) a b r ≡ 1 → k < latest_after l a r) × (best (events l) (meetings l) a b r ≡ 2 → k < latest_after l b r)
unfolding best
newer_than l a b r k i j = (λ e. first (subst (Newer _ _) e (newer_is _ _)), λ e. second (subst (Newer _ _) e (newer_is _ _)))
  where
    first : Newer (latest_after l a r) (latest_after l b r) 1 → k < latest_after l a r
    first (by_first m) = omega arith

    second : Newer (latest_after l a r) (latest_after l b r) 2 → k < latest_after l b r
    second (by_second m) = omega arith

-- where the number was n, all heads of a parlour with more behind its history have heard
pub settled_after : {n : ℕ} {after : List Item} {images : Images} → Kept n after images → (more l : List Item) → after ≡ more ++ l
    → (p r : ℕ) → 1 ≤ r → r ≤ n → count_after n l p r ≡ n → IsSettled n after images r (latest_after l p r)
settled_after {n} {after} w more l e p r i j full =
    let pos = past_pos ((all_counted n l p r).0 full r i j) in
    let all : (q : ℕ) → 1 ≤ q → q ≤ n → latest_after l p r ≤ latest_after after q r = λ q a b.
    subst (λ m. latest_after l p r ≤ latest_after m q r) (sym e) (all_heard n l p r full more q a b) in
    record {
      heard = λ q a b. has_heard w q a b r (latest_after l p r) i j pos (all q a b);
      no_news = λ a b a_from a_to b_from b_to. newer_than after a b r (latest_after l p r) (all a a_from a_to) (all b b_from b_to);
    }

-- an accepted call with n for stall r found p's latest of r in the past of all its latests
found : {n : ℕ} {l : List Item} {images : Images} → Kept n l images → (p r : ℕ) → 1 ≤ p → p ≤ n → 1 ≤ r → r ≤ n → (buffer : List ℕ) {counts : List ℕ}
    → ◌≡◌ {A = Settled} (record { answer = 0; counts = counts }) (settled_call (images p) buffer) → get_or counts (r - 1) 0 ≡ n → count_after n l p r ≡ n
unfolding counts_after
found {n} {l} kept p r i j k o buffer call e =
    let said = answered kept p i j call in
    elim (ℕ_discrete (length buffer) n) [
      | yes long ↦ sym (each_byte n (count_after n l p) r k o) ∙ ap (λ c. get_or c (r - 1) 0) (sym (said.accepted long).1) ∙ e
      | no short ↦ absurd (omega (arith, (said.refused short).0))
    ]

-- the lists and calls of a form of tables are those of plain images
pub record Formed (form : Form) (n : ℕ) : Type 0 where
  pub kept : {calls : List Called} {images : Images} → RunBy form.calls n calls images → Kept n (history n (items calls)) (plain_images form images)
  pub call : {image buffer counts : List ℕ} {answer : ℕ} → form.settled image buffer answer counts
      → ◌≡◌ {A = Settled} (record { answer = answer; counts = counts }) (settled_call (form.plain image) buffer)
  pub exists : (image buffer : List ℕ) → (o : Settled) × form.settled image buffer o.answer o.counts

module _ {form : Form} {n : ℕ} (w : Formed form n) where
  settled : {calls : List Called} {images : Images} → RunBy form.calls n calls images → (p r : ℕ) → 1 ≤ p → p ≤ n → 1 ≤ r → r ≤ n
      → (buffer : List ℕ) {counts : List ℕ} → form.settled (images p) buffer 0 counts → get_or counts (r - 1) 0 ≡ n
      → (later : List Called) {images' : Images} → RunBy form.calls n (later ++ calls) images'
      → IsSettled n (history n (items (later ++ calls))) (plain_images form images') r (latest_after (history n (items calls)) p r)
  settled {calls} run p r i j k o buffer call e later run' =
      settled_after (w.kept run') (history n (items later)) (history n (items calls)) (history_longer n later calls) p r k o (found (w.kept run) p r i j k o buffer (w.call call) e)

  pub theory_of : Theory form n
  theory_of =
      record {
        answered = λ calls images run p i j buffer answer counts call. answered (w.kept run) p i j (w.call call);
        settled = λ calls images run p r i j k o buffer counts call e later images' run'. settled run p r i j k o buffer call e later run';
        calls_exist = w.exists;
      }
