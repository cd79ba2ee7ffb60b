-- Two neighbours of a list that have no head in common may trade places.
use Prim.Native.Nat.{ℕ, suc}
use mathlib.Core.Path.{◌≡◌, refl, sym, ap, ap₂, ◌∙◌}
use mathlib.Core.List.{List, [], ◌∷◌, ◌++◌}
use lib.ListN.{length}
use Rattle.parlour.specs.Item.{Item}
use Rattle.parlour.specs.Run.{Images, Called, Run}
use Rattle.parlour.specs.Claim.{items}
use Rattle.traces.specs.Own.{Independent}
use Rattle.traces.specs.Answer.{answers}
use Rattle.traces.specs.Theory.{Traded, SameBytes}
use Rattle.traces.proofs.TakingPart.{independent_sym}
use Rattle.traces.proofs.State.{reply, step, state, replies, reply_apart, step_trade}
use Rattle.traces.proofs.Runs.{run_leaves}

module _ (n : ℕ) (a b : Item) (earlier : List Item) (w : Independent a b) where
  state_trade : (later : List Item) → state n (later ++ (a ∷ b ∷ earlier)) ≡ state n (later ++ (b ∷ a ∷ earlier))
  unfolding state
  state_trade [] = step_trade w (state n earlier)
  state_trade (c ∷ later) = ap (step c) (state_trade later)

  replies_trade : (later : List Item) → Traded (length later) (replies n (later ++ (a ∷ b ∷ earlier))) (replies n (later ++ (b ∷ a ∷ earlier)))
  unfolding replies state
  replies_trade [] =
      record {
        newer = [];
        a = reply a (state n earlier);
        b = reply b (state n earlier);
        older = replies n earlier;
        at = refl;
        is_one = ap (λ x. x ∷ reply b (state n earlier) ∷ replies n earlier) (reply_apart w (state n earlier));
        is_other = ap (λ x. x ∷ reply a (state n earlier) ∷ replies n earlier) (reply_apart (independent_sym w) (state n earlier));
      }
  replies_trade (c ∷ later) =
      let t = replies_trade later in
      record {
        newer = reply c (state n (later ++ (a ∷ b ∷ earlier))) ∷ t.newer;
        a = t.a;
        b = t.b;
        older = t.older;
        at = ap suc t.at;
        is_one = ap (λ l. reply c (state n (later ++ (a ∷ b ∷ earlier))) ∷ l) t.is_one;
        is_other = ap₂ ◌∷◌ (ap (reply c) (sym (state_trade later))) t.is_other;
      }

pub trade_independent : {n : ℕ} {calls calls' : List Called} {images images' : Images} → Run n calls images → Run n calls' images'
    → (later earlier : List Item) (a b : Item) → Independent a b
    → items calls ≡ later ++ (a ∷ b ∷ earlier) → items calls' ≡ later ++ (b ∷ a ∷ earlier)
    → Traded (length later) (answers calls) (answers calls') × SameBytes n images images'
trade_independent {n} {calls} {calls'} run run' later earlier a b w e f =
    let s = run_leaves run in
    let u = run_leaves run' in (
      rw (s.replied ∙ ap (replies n) e, u.replied ∙ ap (replies n) f) (replies_trade n a b earlier w later),
      λ r i j. s.image r i j ∙ ap (λ l. (state n l r).image) e ∙ ap (λ z. (z r).image) (state_trade n a b earlier w later)
          ∙ sym (u.image r i j ∙ ap (λ l. (state n l r).image) f),
    )
