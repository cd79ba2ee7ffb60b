-- One test over the table, and the law that leads from it to each case.
use Prim.Native.Nat.{ℕ, zero, suc, ◌<◌}
use mathlib.Core.Path.{◌≡◌, refl, ap₂}
use mathlib.Core.Bool.{Bool, true, false, ◌&&◌, false≢true}
use mathlib.Core.List.{List, [], ◌∷◌}
use native.Mathlib.Omega.{arith}
use borrow.Author.Tests.{eqb-true}
use lib.Dec.{eqb}
use lib.ListN.{length, get_or}
use Rattle.image.proofs.Passing.{and_holds}
use Rattle.line.specs.Examples.{answered, answers_to}
use Rattle.cases.specs.Case.{fresh_to, labels_of, after_all, outcome, number}
use Rattle.cases.specs.Table.{Case, first_meetings, table, ◌gives◌}
use Rattle.cases.specs.Theory.{Theory}

same : List ℕ → List ℕ → Bool
same [] [] = true
same [] (b ∷ m) = false
same (a ∷ l) [] = false
same (a ∷ l) (b ∷ m) = eqb a b && same l m

same_is : (l m : List ℕ) → same l m ≡ true → l ≡ m
unfolding same
same_is [] [] e = refl
same_is [] (b ∷ m) e = absurd (false≢true e)
same_is (a ∷ l) [] e = absurd (false≢true e)
same_is (a ∷ l) (b ∷ m) e = let (i, j) = (and_holds (eqb a b) (same l m)).0 e in ap₂ (λ x y. x ∷ y) (eqb-true a b i) (same_is l m j)

-- the test
pass : List Case → Bool
pass [] = true
pass (c ∷ l) = same (outcome c.given) c.expected && pass l

pass_each : (l : List Case) (d : Case) → pass l ≡ true → (k : ℕ) → k < length l → let c = get_or l k d in outcome c.given ≡ c.expected
unfolding pass
pass_each [] d e k i = absurd (omega arith)
pass_each (c ∷ l) d e zero i = same_is (outcome c.given) c.expected ((and_holds (same (outcome c.given) c.expected) (pass l)).0 e).0
pass_each (c ∷ l) d e (suc k) i = pass_each l d ((and_holds (same (outcome c.given) c.expected) (pass l)).0 e).1 k (omega arith)

table_passes : pass table ≡ true
unfolding answered answers_to fresh_to labels_of after_all outcome first_meetings same pass table
table_passes = refl

pub theory : Theory
theory = record { cases_hold = pass_each table (number [] gives []) table_passes }
