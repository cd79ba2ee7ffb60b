-- Lists on packed tables beside plain ones, and beside each other: what `traces` says of plain lists.
use Prim.Native.Nat.{ℕ, ◌≤◌}
use mathlib.Core.Path.{◌≡◌, sym, ap, subst, subst₂, ◌∙◌}
use mathlib.Core.List.{List}
use lib.ListN.{length}
use Rattle.merge.specs.Call.{MeetingOutcome}
use Rattle.packed.specs.Form.{packed, unpacked}
use Rattle.packed.proofs.MetPacked.{meeting_exact}
use Rattle.parlour.specs.Item.{Item, history}
use Rattle.parlour.specs.Run.{Images, Called, Run}
use Rattle.parlour.specs.Claim.{items}
use Rattle.traces.specs.Own.{own}
use Rattle.traces.specs.Answer.{answers}
use Rattle.traces.specs.Theory.{Gives, Traded, SameBytes, Theory}
use Rattle.traces.proofs.State.{state, replies}
use Rattle.traces.proofs.Runs.{run_leaves}
use Rattle.traces.proofs.Theory.{theory}
use Rattle.storage.specs.Run.{packed_calls, PackedRun, unpacked_images, unpacked_calls}
use Rattle.storage.proofs.Unpacking.{plain_meeting, unpacked_run}
use Rattle.storage.proofs.SameCalls.{same_items, same_answers as answers_unpacked, same_parts}
use Rattle.storage.proofs.Exact.{exact}

-- a plain list with the same items
pub same_answers : {n : ℕ} {calls plain : List Called} {images plain_images : Images} → PackedRun n calls images → Run n plain plain_images → items calls ≡ items plain
    → (answers calls ≡ answers plain) × ((p : ℕ) → 1 ≤ p → p ≤ n → images p ≡ packed (plain_images p))
same_answers {n} {calls} run other e =
    let one = run_leaves (unpacked_run run) in
    let two = run_leaves other in
    let i = same_items calls ∙ e in (
      sym (answers_unpacked calls) ∙ one.replied ∙ ap (replies n) i ∙ sym two.replied,
      λ p from to. sym (exact run p from to)
          ∙ ap packed (one.image p from to ∙ ap (λ l. (state n l p).image) i ∙ sym (two.image p from to)),
    )

-- two packed lists whose images unpack alike have the same bytes
same_bytes : {n : ℕ} {calls calls' : List Called} {images images' : Images} → PackedRun n calls images → PackedRun n calls' images'
    → SameBytes n (unpacked_images images) (unpacked_images images') → SameBytes n images images'
same_bytes run run' e p i j = sym (exact run p i j) ∙ ap packed (e p i j) ∙ exact run' p i j

-- the two ends of a cable: what a meeting leaves is exact too
outcome_exact : {n : ℕ} {calls : List Called} {images : Images} → PackedRun n calls images → (p q : ℕ) → 1 ≤ p → p ≤ n → 1 ≤ q → q ≤ n
    → (b : List ℕ) (o : MeetingOutcome) → Gives packed_calls (images p) (images q) b o → (packed (unpacked o.first) ≡ o.first) × (packed (unpacked o.second) ≡ o.second)
outcome_exact {images = images} run p q i j k l b o call =
    subst (λ m. (packed (unpacked m.first) ≡ m.first) × (packed (unpacked m.second) ≡ m.second)) (sym call.learnt)
    (meeting_exact (images p) (images q) b (exact run p i j) (exact run q k l))

-- an outcome of two packed images, unpacked
plain : MeetingOutcome → MeetingOutcome
plain o = record { answer = o.answer; first = unpacked o.first; second = unpacked o.second; verdicts = o.verdicts }

pub traced : (n : ℕ) → Theory packed_calls n
unfolding plain
traced n =
    let on_plain = theory n in
    record {
      either_end = λ calls images run p q i j k l differ b c long short one other f g.
          let t = on_plain.either_end _ _ (unpacked_run run) p q i j k l differ b c long short (plain one) (plain other) (plain_meeting f) (plain_meeting g) in
          let (x, y) = outcome_exact run p q i j k l b one f in
          let (z, w) = outcome_exact run q p k l i j c other g in
          record { label = t.label; first = sym x ∙ ap packed t.first ∙ w; second = sym y ∙ ap packed t.second ∙ z; verdicts = t.verdicts };
      trade_places = λ calls calls' images images' run run' later earlier p q r s b c p_r p_s q_r q_s e f.
          carried run run' later
          (on_plain.trade_places _ _ _ _ (unpacked_run run) (unpacked_run run') later earlier p q r s b c p_r p_s q_r q_s (same_items calls ∙ e) (same_items calls' ∙ f));
      trade_independent = λ calls calls' images images' run run' later earlier a b w e f.
          carried run run' later
          (on_plain.trade_independent _ _ _ _ (unpacked_run run) (unpacked_run run') later earlier a b w (same_items calls ∙ e) (same_items calls' ∙ f));
      own_order = λ calls calls' images images' run run' e.
          let own_same : (l : List Called) (r : ℕ) → own (history n (items (unpacked_calls l))) r ≡ own (history n (items l)) r = λ l r. ap (λ x. own (history n x) r) (same_items l) in
          let t = on_plain.own_order _ _ _ _ (unpacked_run run) (unpacked_run run') (λ r i j. own_same calls r ∙ e r i j ∙ sym (own_same calls' r)) in
          (same_bytes run run' t.0, λ r i j. sym (same_parts calls r) ∙ t.1 r i j ∙ same_parts calls' r);
    }
  where
    carried : {calls calls' : List Called} {images images' : Images} → PackedRun n calls images → PackedRun n calls' images' → (later : List Item)
        → Traded (length later) (answers (unpacked_calls calls)) (answers (unpacked_calls calls')) × SameBytes n (unpacked_images images) (unpacked_images images')
        → Traded (length later) (answers calls) (answers calls') × SameBytes n images images'
    carried {calls} {calls'} run run' later t =
        (subst₂ (Traded (length later)) (answers_unpacked calls) (answers_unpacked calls') t.0, same_bytes run run' t.1)
