-- How the state stands after some lines, and after one more.
use Prim.Native.Nat.{ℕ, ◌≤◌}
use mathlib.Core.Path.{◌≡◌, refl, sym, ap, subst, subst₂, ◌∙◌}
use mathlib.Core.Bool.{Bool, true, false, true≢false}
use mathlib.Core.List.{List, [], ◌∷◌, ◌++◌}
use lib.ListN.{length}
use Rattle.image.specs.Layout.{is_count}
use Rattle.parlour.specs.Item.{history}
use Rattle.parlour.specs.Table.{image_after}
use Rattle.line.specs.Frame.{frame_of}
use Rattle.line.specs.Parlour.{state_length, heads_of, is_open}
use Rattle.line.specs.Answer.{Reply, reply_to, reply_to_line}
use Rattle.stream.specs.Stream.{empty_state}
use Rattle.sessions.specs.Lines.{opens, heads, items_of, items, history_of}
use Rattle.sessions.specs.Answer.{answer_to, answer_after}
use Rattle.sessions.specs.Claim.{ImagesOf}
use Rattle.sessions.proofs.Standing as standing
use Rattle.sessions.proofs.Answers.{open_step, Shut, shut_step}

-- how the state stands after some lines
pub data Stands (ls : List (List ℕ)) (state : List ℕ) : Type 0 where
  shut : length state ≡ state_length → is_count (heads ls) ≡ false → is_open state ≡ false → items ls ≡ [] → Stands ls state
  open_to : is_count (heads ls) ≡ true → heads_of state ≡ heads ls → standing.Open (history_of ls) state → Stands ls state

-- one line more
pub record Next (ls : List (List ℕ)) (line : List ℕ) (reply : Reply) : Type 0 where
  pub answer : reply.bytes ≡ answer_after ls line
  pub stands : Stands (line ∷ ls) reply.state

module _ (ls : List (List ℕ)) (state line : List ℕ) where
  -- an open parlour stays open
  next_open : is_count (heads ls) ≡ true → heads_of state ≡ heads ls → standing.Open (history_of ls) state → Next ls line (reply_to state true (frame_of line))
  unfolding heads items
  next_open a b w =
      let before = subst (λ k. standing.Open (history k (items ls)) state) (sym b) w in
      let step = open_step (items ls) state before (frame_of line) in
      let after = (reply_to state true (frame_of line)).state in
      let same : heads (line ∷ ls) ≡ heads ls = rw a in
      let more : items (line ∷ ls) ≡ items_of (heads ls) (frame_of line) ++ items ls = rw a in
      record {
        answer = step.answer ∙ ap (λ k. answer_to k (history k (items ls)) (frame_of line)) b;
        stands = open_to (ap is_count same ∙ a) (step.heads ∙ b ∙ sym same)
            (subst₂ (λ k i. standing.Open (history k i) after) (sym same) (sym more)
            (subst (λ k. standing.Open (history k (items_of k (frame_of line) ++ items ls)) after) b step.after));
      }

  next_shut : length state ≡ state_length → is_count (heads ls) ≡ false → is_open state ≡ false → items ls ≡ [] → Next ls line (reply_to state false (frame_of line))
  unfolding heads items history
  next_shut long a b c =
      let step = shut_step state (heads ls) a (frame_of line) in
      record {
        answer = step.answer ∙ ap (λ i. answer_to (heads ls) (history (heads ls) i) (frame_of line)) (sym c);
        stands = go (is_count (opens (frame_of line))) refl step;
      }
    where
      now : heads (line ∷ ls) ≡ opens (frame_of line)
      now = rw a

      none : items (line ∷ ls) ≡ []
      none = rw a

      go : {reply : Reply} (t : Bool) → is_count (opens (frame_of line)) ≡ t → Shut state (heads ls) a (frame_of line) reply → Stands (line ∷ ls) reply.state
      go {reply} true e s =
          open_to (ap is_count now ∙ e) (s.heads e ∙ sym now)
          (subst (λ i. standing.Open (history (heads (line ∷ ls)) i) reply.state) (sym none) (s.opened e))
      go false e s = shut (ap length (s.same e) ∙ long) (ap is_count now ∙ e) (ap is_open (s.same e) ∙ b) none

  pub next : Stands ls state → Next ls line (reply_to_line state line)
  next (shut long a b c) = subst (λ t. Next ls line (reply_to state t (frame_of line))) (sym b) (next_shut long a b c)
  next (open_to a b w) = subst (λ t. Next ls line (reply_to state t (frame_of line))) (sym (ap is_count b ∙ a)) (next_open a b w)

-- before any line
pub stands_start : Stands [] empty_state
unfolding heads items
stands_start = shut refl refl refl refl

pub stands_long : {ls : List (List ℕ)} {state : List ℕ} → Stands ls state → length state ≡ state_length
stands_long (shut long a b c) = long
stands_long (open_to a b w) = w.long

pub stands_images : {ls : List (List ℕ)} {state : List ℕ} → Stands ls state → ImagesOf ls state
stands_images (shut long a b c) = record { images = λ e p i j. absurd (true≢false (sym e ∙ a)) }
stands_images {ls} {state} (open_to a b w) =
    record { images = λ e p i j. w.kept.is p i (subst (λ k. p ≤ k) (sym b) j) ∙ ap (λ k. image_after k (history_of ls) p) b }
