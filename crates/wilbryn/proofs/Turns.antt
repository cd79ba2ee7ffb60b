-- A block in pieces, and how a turn ends where a write fails.
use Prim.Native.Nat.{ℕ, ◌-◌, ◌≤◌}
use mathlib.Core.Path.{◌≡◌, refl, sym, ap, subst, ◌∙◌}
use mathlib.Core.Bool.{Bool, true, false}
use mathlib.Core.List.{List, [], ◌∷◌, ◌++◌, append_assoc, append-nil}
use native.Mathlib.Omega.{arith}
use Rattle.std.specs.Prelude.{Result, Err, IsErr}
use Rattle.std.specs.Result.{IsErrAnd}
use Rattle.std.proofs.lemmas.Result.{err_from_is_err_and}
use Rattle.std.proofs.Math.Seq.{take-append_seam}
use Rattle.std.proofs.lemmas.Bool.{eqb-true, eqb-false}
use lib.Dec.{eqb}
use lib.ListN.{length, take, drop, take-append-drop, length-append, length-drop}
use lib.Seq.{take_all, length-take-le}
use Rattle.stream.specs.Stream.{output}
use Rattle.stream.specs.Kept.{longest_line, kept_after}
use Rattle.stream.specs.Call.{keeping, Ready, FeedCall}
use Rattle.stream.specs.declared.Fed.{Fed}
use Rattle.stream.proofs.Keeping.{Fits, kept_append, output_join}
use Rattle.stream.proofs.Calls.{taken_of}
use Rattle.wilbryn.specs.Turn.{Turn, Went, WentPart, BlockAnswered}
use Rattle.wilbryn.specs.declared.Failure.{Failure}
use Rattle.wilbryn.specs.declared.Failure.TheVariants.{Write}

-- nothing yet, and one piece more
pub went_start : {state text : List ℕ} {kept : ℕ} → Went state text kept [] state text kept
unfolding output kept_after
went_start = record { state_is = refl; kept_is = refl }

pub went_append : {state text m n : List ℕ} {kept kept₁ kept₂ : ℕ} {state₁ text₁ state₂ text₂ : List ℕ} → Fits (keeping text kept)
    → Went state text kept m state₁ text₁ kept₁ → Went state₁ text₁ kept₁ n state₂ text₂ kept₂ → Went state text kept (m ++ n) state₂ text₂ kept₂
went_append {state} {text} {m} {n} {kept} {kept₁} {text₁ = text₁} fits v w =
    record {
      state_is = w.state_is ∙ ap (λ s. (output s (take kept₁ text₁) n).state) v.state_is ∙ ap (λ o. o.state) (output_join m n state fits v.kept_is);
      kept_is = w.kept_is ∙ ap (λ k. kept_after k n) v.kept_is ∙ sym (kept_append (keeping text kept) m n);
    }

-- the front of a block is answered, and this is the rest of it
pub record Before (state text : List ℕ) (kept : ℕ) (block rest state' text' : List ℕ) (kept' : ℕ) : Type 0 where
  pub front : List ℕ
  pub joined : front ++ rest ≡ block
  pub went : Went state text kept front state' text' kept'

-- nothing of it yet, and all of it
pub before_start : {state text block : List ℕ} {kept : ℕ} → Before state text kept block block state text kept
before_start = record { front = []; joined = refl; went = went_start }

pub before_end : {state text block rest state₁ text₁ : List ℕ} {kept kept₁ : ℕ} → length rest ≡ 0 → Before state text kept block rest state₁ text₁ kept₁
    → Went state text kept block state₁ text₁ kept₁
before_end {rest = []} e b = subst (λ i. Went _ _ _ i _ _ _) (sym (append-nil b.front) ∙ b.joined) b.went
before_end {rest = x ∷ rest} e b = absurd (omega arith)

-- whether there is a rest
pub some_left : (rest : List ℕ) {b : Bool} → b ≡ eqb (length rest) 0 → b ≡ false → 1 ≤ length rest
some_left [] e f = absurd (eqb-false 0 0 (sym e ∙ f) refl)
some_left (x ∷ rest) e f = omega arith

pub none_left : (rest : List ℕ) {b : Bool} → b ≡ eqb (length rest) 0 → b ≡ true → length rest ≡ 0
none_left rest e f = eqb-true (length rest) 0 (sym e ∙ f)

-- one piece more of a block, by a call of feed that is lent the rest of it
pub record Piece (state text : List ℕ) (kept : ℕ) (block rest out : List ℕ) (fed : Fed) (state' text' : List ℕ) : Type 0 where
  pub some : 1 ≤ fed.taken
  pub within : fed.taken ≤ length rest
  pub kept_to : fed.kept ≤ longest_line
  pub end_to : fed.end ≤ length out
  pub before : Before state text kept block (take (length rest - fed.taken) (drop fed.taken rest)) state' text' fed.kept
  pub ahead : 1 ≤ length before.front

pub piece : {state text out : List ℕ} {kept : ℕ} {block rest : List ℕ} {state₁ text₁ out₁ : List ℕ} {kept₁ : ℕ} {fed : Fed} {state₂ text₂ out₂ : List ℕ} → Ready state text kept out
    → Ready state₁ text₁ kept₁ out₁ → Before state text kept block rest state₁ text₁ kept₁
    → 1 ≤ length rest → FeedCall state₁ text₁ kept₁ rest out₁ fed state₂ text₂ out₂ → Piece state text kept block rest out₁ fed state₂ text₂
piece {rest = rest} {fed = fed} ready now b l call =
    let w = taken_of now call in
    record {
      some = w.taken_some l;
      within = w.taken_to;
      kept_to = w.kept_to;
      end_to = w.end_to;
      before =
          record {
            front = b.front ++ take fed.taken rest;
            joined =
                ap (λ i. (b.front ++ take fed.taken rest) ++ i) (take_all (length rest - fed.taken) (drop fed.taken rest) (omega (arith, length-drop fed.taken rest)))
                ∙ append_assoc b.front _ _
                ∙ ap (λ i. b.front ++ i) (take-append-drop fed.taken rest)
                ∙ b.joined;
            went = went_append (record { long = ready.text_long; to = ready.kept_to }) b.went (record { state_is = ap (λ o. o.state) w.answers.answered; kept_is = w.answers.kept_is });
          };
      ahead = omega (arith, w.taken_some l, length-append b.front (take fed.taken rest), length-take-le fed.taken rest w.taken_to);
    }

-- its answers end within the buffer
pub end_fits : {state text out block state' text' out' : List ℕ} {kept : ℕ} {fed : Fed} → Ready state text kept out → FeedCall state text kept block out fed state' text' out' → fed.end ≤ length out
end_fits ready call = (taken_of ready call).end_to

-- a failure, as `?` hands it on
pub handed_on : {A : Type 0} (r : Result A Failure) {e : Failure} → IsErr r × IsErrAnd r (λ x. x ≡ e) → r ≡ Err e
handed_on r w = let p = err_from_is_err_and r w.1 in p.1 ∙ ap Err p.2

pub write_failed : {A : Type 0} (r : Result A Failure) {e : Failure} → IsErr r × IsErrAnd r (λ x. x ≡ e) → e ≡ Write → r ≡ Err Write
write_failed r w i = handed_on r w ∙ ap Err i

-- behind a piece: the block is answered up to there
pub piece_unwritten : {state text : List ℕ} {kept : ℕ} {block rest out : List ℕ} {fed : Fed} {state₁ text₁ : List ℕ} {turn : Turn} → turn ≡ Err Write
    → Piece state text kept block rest out fed state₁ text₁ → BlockAnswered state text kept block state₁ text₁ turn
piece_unwritten {state} {text} {kept} {block} {rest} {fed = fed} {state₁} {text₁} e p =
    let b = p.before in
    let l = take (length rest - fed.taken) (drop fed.taken rest) in
    let part : WentPart state text kept block state₁ text₁ =
    record {
      count = length b.front;
      kept' = fed.kept;
      some = p.ahead;
      within = omega (arith, ap length b.joined, length-append b.front l);
      went = subst (λ i. Went state text kept i state₁ text₁ fed.kept) (sym (take-append_seam b.front l) ∙ ap (take (length b.front)) b.joined) b.went;
    } in
    subst (BlockAnswered state text kept block state₁ text₁) (sym e) (record { after = part })
