-- Inputs one after the other, and lines that begin with the same 9 bytes.
use Prim.Native.Nat.{ℕ, ◌≤◌}
use mathlib.Core.Path.{◌≡◌, refl, sym, ap, ap₂, ◌∙◌}
use mathlib.Core.Bool.{cond}
use mathlib.Core.List.{List, [], ◌∷◌, ◌++◌, append_assoc}
use native.Mathlib.Omega.{arith}
use native.Mathlib.Decide.{ℕ_discrete, dec_le}
use borrow.Author.Tests.{eq-eqb, ne_eqb}
use lib.Dec.{eqb}
use lib.ListN.{length, take}
use lib.Seq.{take_all, take-take, take-append-le, length-take-le}
use Rattle.line.specs.Frame.{frame_of}
use Rattle.line.specs.Parlour.{is_open}
use Rattle.line.specs.Answer.{reply_to}
use Rattle.line.proofs.Parsing.{other_length}
use Rattle.stream.specs.Stream.{newline, answer_text, followed, line_output, output, line_after, last_output}
use Rattle.stream.specs.Kept.{longest_line}

-- one input after another: so what blocks leave, the whole input leaves
pub output_append : (m n state line : List ℕ) → let first = output state line m in output state line (m ++ n) ≡ followed first (output first.state (line_after line m) n)
unfolding output line_after
output_append [] n state line = refl
output_append (b ∷ m) n state line = elim (ℕ_discrete b newline) [
  | yes e ↦
      let first = line_output state line in
      let more = output first.state [] m in
      let next = output more.state (line_after [] m) n in
      rw (eq-eqb b newline e)
      (ap (followed first) (output_append m n first.state [])
      ∙ ap (λ a. record { answers = a; state = next.state }) (sym (append_assoc first.answers more.answers next.answers)))
  | no f ↦ rw (ne_eqb b newline f) (output_append m n state (line ++ (b ∷ [])))
]

-- 9 bytes of a line have the frame of the whole line
frame_kept : (line : List ℕ) → frame_of (take longest_line line) ≡ frame_of line
frame_kept line = elim (dec_le (length line) longest_line) [
  | yes l ↦ ap frame_of (take_all longest_line line l)
  | no l ↦
      let nine : length (take longest_line line) ≡ longest_line = length-take-le longest_line line (omega arith) in
      other_length (take longest_line line) (λ e. omega arith) (λ e. omega arith) (λ e. omega arith)
      ∙ sym (other_length line (λ e. omega arith) (λ e. omega arith) (λ e. omega arith))
]

-- two lines that begin with the same 9 bytes
abbrev pub Alike : List ℕ → List ℕ → Type 0
Alike l m = take longest_line l ≡ take longest_line m

frame_alike : (l m : List ℕ) → Alike l m → frame_of l ≡ frame_of m
frame_alike l m e = sym (frame_kept l) ∙ ap frame_of e ∙ frame_kept m

-- one byte more of the 9 is one byte more of the line
pub take_snoc : (n : ℕ) (l : List ℕ) (b : ℕ) → take n (take n l ++ (b ∷ [])) ≡ take n (l ++ (b ∷ []))
take_snoc n l b = elim (dec_le (length l) n) [
  | yes k ↦ ap (λ x. take n (x ++ (b ∷ []))) (take_all n l k)
  | no k ↦
      let long : n ≤ length (take n l) = omega (arith, length-take-le n l (omega arith)) in
      take-append-le n (take n l) (b ∷ []) long ∙ take-take n n l (omega arith) ∙ sym (take-append-le n l (b ∷ []) (omega arith))
]

alike_snoc : (l m : List ℕ) (b : ℕ) → Alike l m → Alike (l ++ (b ∷ [])) (m ++ (b ∷ []))
alike_snoc l m b e = sym (take_snoc longest_line l b) ∙ ap (λ x. take longest_line (x ++ (b ∷ []))) e ∙ take_snoc longest_line m b

-- they have the same output
line_alike : (state l m : List ℕ) → Alike l m → line_output state l ≡ line_output state m
unfolding line_output
line_alike state l m e = ap (λ f. let reply = reply_to state (is_open state) f in record { answers = answer_text reply.bytes; state = reply.state }) (frame_alike l m e)

pub output_alike : (input state l m : List ℕ) → Alike l m → output state l input ≡ output state m input
unfolding output
output_alike [] state l m e = refl
output_alike (b ∷ input) state l m e =
    ap₂ (cond (eqb b newline)) (ap (λ first. followed first (output first.state [] input)) (line_alike state l m e))
    (output_alike input state (l ++ (b ∷ [])) (m ++ (b ∷ [])) (alike_snoc l m b e))

pub last_alike : (state l m : List ℕ) → Alike l m → last_output state l ≡ last_output state m
last_alike state [] [] e = refl
last_alike state [] (c ∷ m) e = let z : ◌≡◌ {A = ℕ} 0 1 = cc in absurd (omega arith)
last_alike state (b ∷ l) [] e = let z : ◌≡◌ {A = ℕ} 0 1 = cc in absurd (omega arith)
last_alike state (b ∷ l) (c ∷ m) e = line_alike state (b ∷ l) (c ∷ m) e
