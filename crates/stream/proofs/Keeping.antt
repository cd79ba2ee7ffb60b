-- What is kept of a line is its first 9 bytes, after any input.
use Prim.Native.Nat.{ℕ, ◌+◌, ◌≤◌, ◌<◌}
use mathlib.Core.Path.{◌≡◌, refl, sym, ap, subst, ◌∙◌}
use mathlib.Core.Bool.{Bool, true, false, cond}
use mathlib.Core.List.{List, [], ◌∷◌, ◌++◌}
use native.Mathlib.Omega.{arith}
use native.Mathlib.Numerals.{add-one}
use native.Mathlib.Decide.{dec_le}
use borrow.Author.Tests.{lt-ltb, le-ltb}
use lib.Dec.{eqb}
use lib.ListN.{length, take, set, length-set, length-append}
use lib.Seq.{take_all, take-take, take-append-le, take-suc-set, length-take-le}
use Rattle.stream.specs.Stream.{newline, followed, output, line_after, last_output}
use Rattle.stream.specs.Kept.{longest_line, Kept, kept_line, with_byte, begun, kept_after}
use Rattle.stream.proofs.Streams.{Alike, take_snoc, output_append, output_alike, last_alike}

-- a run of 9 bytes, no more of them kept than there are
pub record Fits (k : Kept) : Type 0 where
  pub long : length k.text ≡ longest_line
  pub to : k.count ≤ longest_line

-- one byte more, by whether there is room for it
pub byte_kept : (k : Kept) (b : ℕ) → k.count < longest_line → with_byte k b ≡ record { text = set k.text k.count b; count = k.count + 1 }
unfolding with_byte
byte_kept k b l = rw (lt-ltb k.count longest_line l)

pub byte_dropped : (k : Kept) (b : ℕ) → longest_line ≤ k.count → with_byte k b ≡ k
unfolding with_byte
byte_dropped k b l = rw (le-ltb k.count longest_line l)

-- a run that fits, and its first bytes, after one byte more
module _ (k : Kept) (b : ℕ) (w : Fits k) where
  kept_long : length (kept_line k) ≡ k.count
  kept_long = length-take-le k.count k.text (omega (arith, w.long, w.to))

  pub byte_fits : Fits (with_byte k b)
  byte_fits = elim (dec_le longest_line k.count) [
    | yes l ↦ subst Fits (sym (byte_dropped k b l)) w
    | no l ↦
        subst Fits (sym (byte_kept k b (omega arith)))
        (record { long = length-set k.text k.count b ∙ w.long; to = omega arith })
  ]

  byte_line : kept_line (with_byte k b) ≡ take longest_line (kept_line k ++ (b ∷ []))
  byte_line = elim (dec_le longest_line k.count) [
    | yes l ↦
        ap kept_line (byte_dropped k b l)
        ∙ sym (take-append-le longest_line (kept_line k) (b ∷ []) (omega (arith, kept_long)) ∙ take_all longest_line (kept_line k) (omega (arith, kept_long, w.to)))
    | no l ↦
        ap kept_line (byte_kept k b (omega arith))
        ∙ ap (λ n. take n (set k.text k.count b)) (add-one k.count)
        ∙ take-suc-set k.text k.count b (omega (arith, w.long))
        ∙ sym (take_all longest_line (kept_line k ++ (b ∷ [])) (omega (arith, kept_long, length-append (kept_line k) (b ∷ []))))
  ]

pub kept_most : {k k' : Kept} (b : ℕ) → Fits k → k' ≡ with_byte k b → k'.count ≤ longest_line
kept_most {k} b w e = subst (λ x. x.count ≤ longest_line) (sym e) (byte_fits k b w).to

pub fits_after : (k : Kept) (input : List ℕ) → Fits k → Fits (kept_after k input)
unfolding kept_after
fits_after k [] w = w
fits_after k (b ∷ input) w = fits_after (cond (eqb b newline) (begun k) (with_byte k b)) input (go (eqb b newline))
  where
    go : (t : Bool) → Fits (cond t (begun k) (with_byte k b))
    go true = record { long = w.long; to = omega arith }
    go false = byte_fits k b w

-- after any input
pub line_kept : (k : Kept) (line input : List ℕ) → Fits k → kept_line k ≡ take longest_line line → kept_line (kept_after k input) ≡ take longest_line (line_after line input)
unfolding kept_after line_after
line_kept k line [] w e = e
line_kept k line (b ∷ input) w e =
    go (eqb b newline) (line_kept (begun k) [] input (record { long = w.long; to = omega arith }) refl)
    (line_kept (with_byte k b) (line ++ (b ∷ [])) input (byte_fits k b w)
    (byte_line k b w ∙ ap (λ l. take longest_line (l ++ (b ∷ []))) e ∙ take_snoc longest_line line b))
  where
    go : (t : Bool) → kept_line (kept_after (begun k) input) ≡ take longest_line (line_after [] input)
        → kept_line (kept_after (with_byte k b) input) ≡ take longest_line (line_after (line ++ (b ∷ [])) input)
        → kept_line (kept_after (cond t (begun k) (with_byte k b)) input) ≡ take longest_line (cond t (line_after [] input) (line_after (line ++ (b ∷ [])) input))
    go true x y = x
    go false x y = y

-- what is kept goes on as the line does
pub kept_alike : (k : Kept) (input : List ℕ) → Fits k → Alike (kept_line (kept_after k input)) (line_after (kept_line k) input)
kept_alike k input w =
    let whole : kept_line k ≡ take longest_line (kept_line k) = sym (take_all longest_line (kept_line k) (omega (arith, kept_long k 0 w, w.to))) in
    ap (take longest_line) (line_kept k (kept_line k) input w whole) ∙ take-take longest_line longest_line (line_after (kept_line k) input) (omega arith)

pub kept_append : (k : Kept) (m n : List ℕ) → kept_after k (m ++ n) ≡ kept_after (kept_after k m) n
unfolding kept_after
kept_append k [] n = refl
kept_append k (b ∷ m) n = kept_append (cond (eqb b newline) (begun k) (with_byte k b)) m n

-- an input goes on from what was kept
pub output_join : (m n state : List ℕ) {k next : Kept} → Fits k → next ≡ kept_after k m → let first = output state (kept_line k) m in
    followed first (output first.state (kept_line next) n) ≡ output state (kept_line k) (m ++ n)
output_join m n state {k} {next} fits e =
    let first = output state (kept_line k) m in
    ap (followed first) (output_alike n first.state (kept_line next) (line_after (kept_line k) m) (ap (λ x. take longest_line (kept_line x)) e ∙ kept_alike k m fits))
    ∙ sym (output_append m n state (kept_line k))

-- and so does its end
pub last_kept : (input state : List ℕ) {k next : Kept} → Fits k → k.count ≡ 0 → next ≡ kept_after k input → last_output state (kept_line next) ≡ last_output state (line_after [] input)
last_kept input state {k} {next} fits none e =
    let begins : kept_line k ≡ take longest_line [] = ap (λ n. take n k.text) none in
    last_alike state (kept_line next) (line_after [] input)
    (ap (λ x. take longest_line (kept_line x)) e ∙ ap (take longest_line) (line_kept k [] input fits begins) ∙ take-take longest_line longest_line (line_after [] input) (omega arith))

pub ruleset keeps = (byte_kept, byte_dropped)
