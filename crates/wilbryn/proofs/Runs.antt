-- One turn more of a run.
use Prim.Native.Nat.{ℕ, min}
use mathlib.Core.Path.{◌≡◌, refl, sym, ap, subst, subst₂, ◌∙◌}
use mathlib.Core.Logic.{inl, inr}
use Rattle.std.specs.Prelude.{Some, None, Result, Ok, Err}
use mathlib.Core.List.{List, [], ◌∷◌, ◌++◌}
use lib.ListN.{length, take}
use Rattle.stream.specs.Stream.{empty_state, output, last_output}
use Rattle.stream.specs.Call.{keeping}
use Rattle.stream.proofs.Keeping.{Fits, last_kept}
use Rattle.wilbryn.specs.Turn.{Went, LastWent, AfterBlock, AfterRead, TurnTaken, Gone, Ended, Turn, Ran}
use Rattle.wilbryn.specs.declared.Failure.{Failure}
use Rattle.wilbryn.specs.declared.Failure.TheVariants.{Read, Write}
use Rattle.wilbryn.proofs.Turns.{went_start, went_append}

pub gone_start : {state text : List ℕ} → state ≡ empty_state → Gone text state text 0
gone_start {text = text} e = record { input = []; went = subst (λ s. Went empty_state text 0 [] s text 0) (sym e) went_start }

-- from what was read so far, by one turn
module _ {text state₁ text₁ : List ℕ} {kept₁ : ℕ} (fits : Fits (keeping text 0)) (before : Gone text state₁ text₁ kept₁) where
  gone_more : {block state₂ text₂ : List ℕ} {kept₂ : ℕ} → Went state₁ text₁ kept₁ block state₂ text₂ kept₂ → Gone text state₂ text₂ kept₂
  gone_more {block} w = record { input = before.input ++ block; went = went_append fits before.went w }

  ended : {out state₂ text₂ out₂ : List ℕ} → LastWent state₁ text₁ kept₁ out state₂ text₂ out₂ → Ended state₂
  ended w =
      record {
        input = before.input;
        state_is =
            ap (λ o. o.state) w.last
            ∙ ap (λ s. (last_output s (take kept₁ text₁)).state) before.went.state_is
            ∙ ap (λ o. o.state) (last_kept before.input (output empty_state [] before.input).state fits refl before.went.kept_is);
      }

  -- by what the read brought
  module _ (out state₂ text₂ out₂ : List ℕ) where
    block_ran : (block : List ℕ) (turn : Turn) → AfterBlock state₁ text₁ kept₁ block out state₂ text₂ out₂ turn → Ran text state₂ text₂ turn
    block_ran [] (Ok (Some kept)) w = absurd w
    block_ran [] (Ok None) w = record { after = ended w }
    block_ran [] (Err Read) w = absurd w
    block_ran [] (Err Write) w = record { after = inr (ended w) }
    block_ran (b ∷ block) (Ok (Some kept)) (to, w) = record { after = (to, gone_more w) }
    block_ran (b ∷ block) (Ok None) w = absurd w
    block_ran (b ∷ block) (Err Read) w = absurd w
    block_ran (b ∷ block) (Err Write) w = record { after = inl (record { kept' = w.kept'; gone = gone_more w.went }) }

    read_ran : (input : List ℕ) (got : Result ℕ Failure) (turn : Turn) → AfterRead state₁ text₁ kept₁ input got out state₂ text₂ out₂ turn → Ran text state₂ text₂ turn
    read_ran input (Ok count) turn w = block_ran (take (min count (length input)) input) turn w
    read_ran input (Err e) turn (is, same, same_text, _) =
        subst (Ran text state₂ text₂) (sym is) (subst₂ (λ s t. Ran text s t (Err Read)) (sym same) (sym same_text) (record { after = record { kept' = kept₁; gone = before } }))

  pub turn_ran : {out state₂ text₂ input out₂ : List ℕ} {turn : Turn} → TurnTaken state₁ text₁ kept₁ out state₂ text₂ input out₂ turn → Ran text state₂ text₂ turn
  turn_ran {out} {state₂} {text₂} {input} {out₂} {turn} w = read_ran out state₂ text₂ out₂ input w.got turn w.answered.after
