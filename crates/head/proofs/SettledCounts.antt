-- The numbers of an image, written one by one, and the call for them.
use Prim.Native.Nat.{ℕ, suc, ◌+◌, ◌*◌, ◌≤◌, ◌<◌}
use mathlib.Core.Path.{◌≡◌, refl, ap, ◌∙◌}
use mathlib.Core.List.{List, [], ◌∷◌, ◌++◌, append-nil}
use native.Mathlib.Omega.{arith}
use native.Mathlib.Numerals.{add-one}
use borrow.Author.Tests.{eq-eqb, ne_eqb}
use lib.ListN.{length, drop, set}
use lib.Seq.{sets-eq, drop-length}
use Rattle.image.specs.Stalls.{each, count_stalls, has}
use Rattle.image.specs.Layout.{order_from, order_place, mark_at}
use Rattle.image.specs.declared.Header.{Header}
use Rattle.image.specs.declared.Checked.{Checked}
use Rattle.image.specs.declared.Checked.TheVariants.{Good}
use Rattle.image.proofs.Has.{length_each}
use Rattle.image.proofs.Blocks.{blocks, pasted_next, blocks_end}
use Rattle.head.specs.Settled.{settled_counts, Settled, settled_from}

-- the byte of stall r
abbrev pub count_at : List ℕ → ℕ → ℕ → List ℕ
count_at s n r = count_stalls n (mark_at s n r) ∷ []

-- the order entry behind r others tells the marks of stall r + 1
marks_counted : (s : List ℕ) (n r at order v : ℕ) → at ≡ order_place n (r + 1) → order ≡ order_from s n at → v ≡ count_stalls n (has order) → v ∷ [] ≡ count_at s n (suc r)
unfolding mark_at
marks_counted s n r at order v e i j =
    let place : at ≡ order_place n (suc r) = e ∙ ap (order_place n) (add-one r) in
    ap (λ x. x ∷ []) (j ∙ ap (λ o. count_stalls n (has o)) (i ∙ ap (order_from s n) place))

pub counts_next : (s buffer out : List ℕ) (n r at order v : ℕ) → r < n → length buffer ≡ n → at ≡ order_place n (r + 1) → order ≡ order_from s n at → v ≡ count_stalls n (has order)
    → out ≡ blocks buffer 0 1 (count_at s n) r → length out ≡ length buffer
    → (set out r v ≡ blocks buffer 0 1 (count_at s n) (r + 1)) × (length (set out r v) ≡ length buffer)
counts_next s buffer out n r at order v l long e i j so_far same =
    pasted_next buffer out (v ∷ []) (set out r v) 0 1 r r (count_at s n) (length_each 1 (count_at s n) (λ k. refl) r) (omega arith) (omega arith)
    (marks_counted s n r at order v e i j) (omega arith) so_far same (sets-eq (v ∷ []) out r (omega arith))

pub counts_end : (s buffer out : List ℕ) (n r : ℕ) → r ≤ n → n ≤ r → length buffer ≡ n → out ≡ blocks buffer 0 1 (count_at s n) r → out ≡ settled_counts s n
unfolding settled_counts
counts_end s buffer out n r a b long so_far =
    let e : 0 + n * 1 ≡ length buffer = omega arith in
    blocks_end buffer out 0 1 (count_at s n) r n a b so_far
    ∙ ap (λ k. each n (count_at s n) ++ drop k buffer) e ∙ ap (λ l. each n (count_at s n) ++ l) (drop-length buffer) ∙ append-nil _

-- The call, by what the check answers and by the buffer

module _ (s buffer : List ℕ) where
  pub settled_short : {x : Checked} {h : Header} → x ≡ Good h → (length buffer ≡ h.n → ⊥) → ◌≡◌ {A = Settled} (record { answer = 8; counts = buffer }) (settled_from s buffer x)
  unfolding settled_from
  settled_short {h = h} e f = rw (e, ne_eqb (length buffer) h.n f)

  pub settled_done : {x : Checked} {h : Header} {out : List ℕ} → x ≡ Good h → length buffer ≡ h.n → out ≡ settled_counts s h.n
      → ◌≡◌ {A = Settled} (record { answer = 0; counts = out }) (settled_from s buffer x)
  unfolding settled_from
  settled_done {h = h} e i w = rw (e, eq-eqb (length buffer) h.n i, w)
