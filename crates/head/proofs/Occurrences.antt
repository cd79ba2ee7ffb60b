-- How often a list has each number: of the stalls that pass a test, and of lists with the same numbers.
use Prim.Native.Nat.{ℕ, zero, suc, ◌+◌, ◌≤◌, ◌<◌}
use mathlib.Core.Path.{◌≡◌, refl, sym, ap, ap₂, ◌∙◌}
use mathlib.Core.Bool.{Bool, true, false, ◌&&◌, cond, and-false}
use mathlib.Core.List.{List, [], ◌∷◌, ◌++◌, map}
use native.Mathlib.Omega.{arith}
use native.Mathlib.Nat.{zero-add, add-zero}
use native.Mathlib.Decide.{dec_le, ℕ_discrete}
use borrow.Author.Tests.{le-leb, lt-leb, eq-eqb, ne_eqb}
use lib.Dec.{leb, eqb}
use Rattle.rank.specs.declared.Record.{Record}
use Rattle.rank.specs.Order.{Same, none, more, exchanged, through}
use Rattle.rank.proofs.Ranking.{same_self}
use Rattle.head.specs.Heard.{occurrences, chosen}

occurrences_append : (r : ℕ) (l m : List ℕ) → occurrences r (l ++ m) ≡ occurrences r l + occurrences r m
unfolding occurrences
occurrences_append r [] m = omega arith
occurrences_append r (a ∷ l) m = omega (arith, occurrences_append r l m)

-- the last stall counts for itself alone
last_other : (r n : ℕ) (t : Bool) → (r ≡ suc n → ⊥) → occurrences r (cond t (suc n ∷ []) []) ≡ 0
unfolding occurrences
last_other r n true f = rw (ne_eqb r (suc n) f)
last_other r n false f = refl

last_same : (n : ℕ) (t : Bool) → occurrences (suc n) (cond t (suc n ∷ []) []) ≡ cond t 1 0
unfolding occurrences
last_same n true = rw (eq-eqb (suc n) (suc n) refl)
last_same n false = refl

above : (r n : ℕ) (a b : Bool) → n < r → ◌≡◌ {A = ℕ} (cond (a && (leb r n && b)) 1 0) 0
above r n a b l = rw (lt-leb r n l, and-false a)

at_end : (n : ℕ) (t : Bool) → ◌≡◌ {A = ℕ} (cond (leb 1 (suc n) && (leb (suc n) (suc n) && t)) 1 0) (cond t 1 0)
at_end n t = rw (le-leb 1 (suc n) (omega arith), le-leb (suc n) (suc n) (omega arith))

same_test : (r n : ℕ) → (r ≡ suc n → ⊥) → leb r n ≡ leb r (suc n)
same_test r n e =
    elim (dec_le r n) [
      | yes l ↦ le-leb r n l ∙ sym (le-leb r (suc n) (omega arith))
      | no l ↦ lt-leb r n (omega arith) ∙ sym (lt-leb r (suc n) (omega arith))
    ]

pub occurrences_chosen : (r n : ℕ) (f : ℕ → Bool) → occurrences r (chosen n f) ≡ cond (leb 1 r && (leb r n && f r)) 1 0
unfolding occurrences chosen
occurrences_chosen zero zero f = refl
occurrences_chosen (suc r) zero f = rw (lt-leb (suc r) 0 (omega arith), and-false (leb 1 (suc r)))
occurrences_chosen r (suc n) f =
    occurrences_append r (chosen n f) (cond (f (suc n)) (suc n ∷ []) []) ∙ elim (ℕ_discrete r (suc n)) [
      | yes e ↦
          let before : occurrences r (chosen n f) ≡ 0 = occurrences_chosen r n f ∙ above r n (leb 1 r) (f r) (omega arith) in
          ap₂ ◌+◌ before (ap (λ k. occurrences k (cond (f (suc n)) (suc n ∷ []) [])) e ∙ last_same n (f (suc n)))
          ∙ zero-add _ ∙ sym (ap (λ k. cond (leb 1 k && (leb k (suc n) && f k)) 1 0) e ∙ at_end n (f (suc n)))
      | no e ↦
          ap₂ ◌+◌ (occurrences_chosen r n f) (last_other r n (f (suc n)) e)
          ∙ add-zero _ ∙ ap (λ t. cond (leb 1 r && (t && f r)) 1 0) (same_test r n e)
    ]

-- a number that a list has, taken out of it
module _ (f : ℕ → Record) where
  record Without (a : ℕ) (l : List ℕ) : Type 0 where
    pub rest : List ℕ
    pub often : (r : ℕ) → occurrences r l ≡ cond (eqb r a) 1 0 + occurrences r rest
    pub same : Same (f a ∷ map f rest) (map f l)

  without : (a : ℕ) (l : List ℕ) → 1 ≤ occurrences a l → Without a l
  unfolding occurrences
  without a [] h = absurd (omega arith)
  without a (b ∷ l) h =
      elim (ℕ_discrete a b) [
        | yes e ↦ record { rest = l; often = λ r. ap (λ x. cond (eqb r x) 1 0 + occurrences r l) (sym e); same = rw e (same_self (f b ∷ map f l)) }
        | no e ↦
            let none : occurrences a (b ∷ l) ≡ occurrences a l = rw (ne_eqb a b e) (zero-add _) in
            let w = without a l (omega arith) in
            record { rest = b ∷ w.rest; often = λ r. omega (arith, w.often r); same = through exchanged (more w.same) }
      ]

  -- lists that have each number as often have the same records
  pub same_often : (l m : List ℕ) → ((r : ℕ) → occurrences r l ≡ occurrences r m) → Same (map f l) (map f m)
  unfolding occurrences
  same_often [] [] e = none
  same_often [] (b ∷ m) e = let one : ◌≡◌ {A = ℕ} (cond (eqb b b) 1 0) 1 = rw (eq-eqb b b refl) in absurd (omega (arith, e b))
  same_often (a ∷ l) m e =
      let one : ◌≡◌ {A = ℕ} (cond (eqb a a) 1 0) 1 = rw (eq-eqb a a refl) in
      let w = without a m (omega (arith, e a)) in
      through (more (same_often l w.rest (λ r. omega (arith, e r, w.often r)))) w.same
