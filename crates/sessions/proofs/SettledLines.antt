-- Who has heard it all, of lines: what follows opens no other parlour, and only adds to the history.
use Prim.Native.Nat.{ℕ, zero, suc, ◌-◌, ◌≤◌}
use mathlib.Core.Path.{◌≡◌, refl, sym, ap, ap₂, subst, ◌∙◌}
use mathlib.Core.Bool.{Bool, true, false, cond, true≢false}
use mathlib.Core.List.{List, [], ◌∷◌, ◌++◌, append_assoc}
use native.Mathlib.Omega.{arith}
use lib.ListN.{get_or}
use Rattle.image.specs.Layout.{is_count}
use Rattle.image.specs.Check.{bad_stall}
use Rattle.image.proofs.Has.{each_byte}
use Rattle.line.specs.Frame.{frame_of}
use Rattle.line.specs.Parlour.{image_of}
use Rattle.line.specs.declared.frame.Frame.TheVariants.{Settled}
use Rattle.line.proofs.Replying.{count_range}
use Rattle.parlour.specs.Item.{Item, history}
use Rattle.parlour.proofs.Kept.{Kept}
use Rattle.settled.specs.Count.{latest_after, count_after, counts_after}
use Rattle.settled.specs.Theory.{IsSettled}
use Rattle.settled.proofs.Extension.{history_append}
use Rattle.settled.proofs.Settling.{settled_after}
use Rattle.sessions.specs.Lines.{heads, items_of, items, history_of}
use Rattle.sessions.specs.Answer.{answer_to}
use Rattle.sessions.specs.Claim.{ImagesOf}
use Rattle.sessions.proofs.Standing.{kept_agree}
use Rattle.sessions.proofs.Stands.{Stands, shut, open_to}
use Rattle.sessions.proofs.Calls.{session_stands, sessions_exist}

-- images of the history of some lines are as a session of these lines leaves them
kept_images : (ls : List (List ℕ)) (state : List ℕ) → is_count (heads ls) ≡ true → ImagesOf ls state → Kept (heads ls) (history_of ls) (image_of state)
kept_images ls state is_open w =
    let s = sessions_exist ls in
    go (subst (λ l. Stands l s.state) s.makes (session_stands s.session))
  where
    go : {other : List ℕ} → Stands ls other → Kept (heads ls) (history_of ls) (image_of state)
    go (shut long a b c) = absurd (true≢false (sym is_open ∙ a))
    go {other} (open_to a b v) =
        let kept = subst (λ n. Kept n (history_of ls) (image_of other)) b v.kept in
        kept_agree kept (λ p i. w.images is_open p i.from i.to ∙ sym (kept.is p i.from i.to))

-- lines behind an open parlour
module _ (ls : List (List ℕ)) (is_open : is_count (heads ls) ≡ true) where
  heads_stay : (later : List (List ℕ)) → heads (later ++ ls) ≡ heads ls
  unfolding heads
  heads_stay [] = refl
  heads_stay (line ∷ later) = let same = heads_stay later in rw (ap is_count same ∙ is_open) same

  items_more : (later : List (List ℕ)) → (more : List Item) × (items (later ++ ls) ≡ more ++ items ls)
  unfolding items
  items_more [] = ([], refl)
  items_more (line ∷ later) =
      let (more, e) = items_more later in
      let made = items_of (heads (later ++ ls)) (frame_of line) in
      (made ++ more, rw (ap is_count (heads_stay later) ∙ is_open) (ap (λ l. made ++ l) e ∙ sym (append_assoc made more (items ls))))

  history_more : (later : List (List ℕ)) → (more : List Item) × (history_of (later ++ ls) ≡ more ++ history_of ls)
  history_more later =
      let (more, e) = items_more later in
      (history (heads ls) more, ap₂ history (heads_stay later) e ∙ history_append (heads ls) more (items ls))

-- behind the first byte of an answer
behind : (a : ℕ) (s : List ℕ) (r : ℕ) → 1 ≤ r → get_or (a ∷ s) r 0 ≡ get_or s (r - 1) 0
behind a s zero l = absurd (omega arith)
behind a s (suc r) l = let e : r ≡ suc r - 1 = omega arith in ap (λ k. get_or s k 0) e

-- N in an answer is the number of the history: a refusal has one byte
said_count : (n : ℕ) (l : List Item) (p r : ℕ) → is_count n ≡ true → 1 ≤ r → r ≤ n → get_or (answer_to n l (Settled p)) r 0 ≡ n → count_after n l p r ≡ n
unfolding counts_after
said_count n l p r is_open i j e = go (bad_stall n p) (rw is_open at e)
  where
    go : (t : Bool) → get_or (cond t (3 ∷ []) (0 ∷ counts_after n l p)) r 0 ≡ n → count_after n l p r ≡ n
    go true d = absurd (omega (arith, behind 3 [] r i, (count_range n is_open).0))
    go false d = sym (behind 0 (counts_after n l p) r i ∙ each_byte n (count_after n l p) r i j) ∙ d

pub settled : (ls : List (List ℕ)) (p r : ℕ) → is_count (heads ls) ≡ true → 1 ≤ r → r ≤ heads ls
    → get_or (answer_to (heads ls) (history_of ls) (Settled p)) r 0 ≡ heads ls → (later : List (List ℕ)) (state : List ℕ) → ImagesOf (later ++ ls) state
    → IsSettled (heads ls) (history_of (later ++ ls)) (image_of state) r (latest_after (history_of ls) p r)
settled ls p r is_open i j e later state w =
    let (more, longer) = history_more ls is_open later in
    let same = heads_stay ls is_open later in
    let kept = subst (λ n. Kept n (history_of (later ++ ls)) (image_of state)) same (kept_images (later ++ ls) state (ap is_count same ∙ is_open) w) in
    settled_after kept more (history_of ls) longer p r i j (said_count (heads ls) (history_of ls) p r is_open i j e)
