-- The functions of `stream`, by the lengths of what they are lent.
use Prim.Native.Nat.{ℕ, ◌+◌, ◌≤◌}
use mathlib.Core.Path.{◌≡◌, refl, sym, ap, subst, ◌∙◌}
use mathlib.Core.Bool.{true, false, ◌&&◌}
use mathlib.Core.List.{List}
use native.Mathlib.Omega.{arith}
use borrow.Author.Tests.{eq-eqb, eqb-true, le-leb, leb-true}
use lib.Dec.{leb, eqb}
use lib.ListN.{length, take, drop, length-append}
use Rattle.image.proofs.Passing.{and_holds}
use Rattle.line.specs.Parlour.{state_length}
use Rattle.stream.specs.Stream.{last_output}
use Rattle.stream.specs.Kept.{longest_line}
use Rattle.stream.specs.Call.{room, is_ready, Ready, ending, put_from, Taken, FeedIn, FeedCall, finish_call}
use Rattle.stream.specs.declared.Fed.{Fed}

module _ {state text : List ℕ} {kept : ℕ} {out : List ℕ} where
  -- the test and the facts
  pub ready : is_ready state text kept out ≡ true → Ready state text kept out
  unfolding is_ready
  ready e =
      let (abc, d) = (and_holds (eqb (length state) state_length && eqb (length text) longest_line && leb kept longest_line) (leb room (length out))).0 e in
      let (ab, c) = (and_holds (eqb (length state) state_length && eqb (length text) longest_line) (leb kept longest_line)).0 abc in
      let (a, b) = (and_holds (eqb (length state) state_length) (eqb (length text) longest_line)).0 ab in
      record {
        state_long = eqb-true (length state) state_length a;
        text_long = eqb-true (length text) longest_line b;
        kept_to = leb-true kept longest_line c;
        out_long = leb-true room (length out) d;
      }

  pub is_ready_lem : Ready state text kept out → is_ready state text kept out ≡ true
  unfolding is_ready
  is_ready_lem w =
      rw (eq-eqb (length state) state_length w.state_long, eq-eqb (length text) longest_line w.text_long, le-leb kept longest_line w.kept_to, le-leb room (length out) w.out_long)

  module _ {block : List ℕ} {fed : Fed} {state' text' out' : List ℕ} where
    pub feed_taken : is_ready state text kept out ≡ true → Taken state text kept block out fed state' text' out' → FeedCall state text kept block out fed state' text' out'
    feed_taken e w = record { fed_is = subst (FeedIn state text kept block out fed state' text' out') (sym e) w }

    -- what a caller with the right runs learns
    pub taken_of : Ready state text kept out → FeedCall state text kept block out fed state' text' out' → Taken state text kept block out fed state' text' out'
    taken_of r w = subst (FeedIn state text kept block out fed state' text' out') (is_ready_lem r) w.fed_is

  pub feed_nothing : {block : List ℕ} → is_ready state text kept out ≡ false → FeedCall state text kept block out (record { taken = 0; kept = kept; end = 0 }) state text out
  feed_nothing {block} e = record { fed_is = subst (FeedIn state text kept block out _ state text out) (sym e) (refl, refl, refl, refl) }

module _ (state text : List ℕ) (kept : ℕ) (out : List ℕ) where
  pub finish_last : is_ready state text kept out ≡ true → finish_call state text kept out ≡ put_from out 0 (last_output state (take kept text))
  unfolding finish_call
  finish_last e = rw e

  pub finish_nothing : is_ready state text kept out ≡ false → finish_call state text kept out ≡ ending 0 state out
  unfolding finish_call
  finish_nothing e = rw e

-- what a caller with the right runs learns
module _ {state text : List ℕ} {kept : ℕ} {out : List ℕ} {end : ℕ} {state' out' : List ℕ} (r : Ready state text kept out) (w : ending end state' out' ≡ finish_call state text kept out) where
  pub last_of : ending end state' out' ≡ put_from out 0 (last_output state (take kept text))
  last_of = w ∙ finish_last state text kept out (is_ready_lem r)

  pub end_within : end ≤ length out'
  end_within =
      let said = (last_output state (take kept text)).answers in
      omega (arith, ap (λ o. o.end) last_of, ap (λ o. length o.out) last_of, length-append said (drop (0 + length said) out))

pub ruleset feeds = (ready, feed_taken, feed_nothing)

pub ruleset finishes = (ready, finish_last, finish_nothing)
