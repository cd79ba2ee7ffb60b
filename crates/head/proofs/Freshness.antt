-- A fresh table, by the tests in their order.
use Prim.Native.Nat.{ℕ, ◌≤◌}
use mathlib.Core.Path.{◌≡◌, refl, sym, ap, ◌∙◌}
use mathlib.Core.Bool.{Bool, true, false, not}
use mathlib.Core.List.{List}
use native.Mathlib.Omega.{arith}
use borrow.Author.Tests.{eq-eqb, le-leb}
use lib.Dec.{eqb}
use lib.ListN.{length}
use Rattle.image.specs.Layout.{largest, is_count, length_of}
use Rattle.image.specs.Fresh.{fresh_image, fresh_in}
use Rattle.image.specs.Check.{bad_stall}
use Rattle.image.proofs.Stages.{in_range}
use Rattle.image.proofs.FreshTable.{fresh_alone}
use Rattle.head.specs.Calls.{Outcome, accepted, fresh_into, fresh_call}

-- By what the tests find: answered 0, it is the image; else the buffer stays

pub into_zero : (x y z : Bool) (image s : List ℕ) → (fresh_into x y z image s).answer ≡ 0 → (fresh_into x y z image s).image ≡ image
into_zero true y z image s e = absurd (omega arith)
into_zero false true z image s e = absurd (omega arith)
into_zero false false true image s e = absurd (omega arith)
into_zero false false false image s e = refl

pub into_refused : (x y z : Bool) (image s : List ℕ) → ((fresh_into x y z image s).answer ≡ 0 → ⊥) → (fresh_into x y z image s).image ≡ s
into_refused true y z image s f = refl
into_refused false true z image s f = refl
into_refused false false true image s f = refl
into_refused false false false image s f = absurd (f refl)

-- and neither counts for the answer
pub into_same : (x y z : Bool) (image s other u : List ℕ) → (fresh_into x y z image s).answer ≡ (fresh_into x y z other u).answer
into_same true y z image s other u = refl
into_same false true z image s other u = refl
into_same false false true image s other u = refl
into_same false false false image s other u = refl

-- Over all of a run of its length the image stands alone
pub fresh_whole : {out : List ℕ} {long : ℕ} (n stall : ℕ) → is_count n ≡ true → long ≡ length_of n → out ≡ fresh_in long n stall → out ≡ fresh_image n stall
fresh_whole n stall a e w =
    let (p, q) = in_range 2 largest n (ap not a) in
    w ∙ ap (λ k. fresh_in k n stall) e ∙ fresh_alone n stall p q

module _ (s : List ℕ) (n stall : ℕ) where
  -- For callers: none of 1 to 3 applies ..
  pub fresh_taken : 2 ≤ n → n ≤ largest → length s ≡ length_of n → 1 ≤ stall → stall ≤ n → accepted (fresh_image n stall) ≡ fresh_call s n stall
  unfolding fresh_call
  fresh_taken i j e k l = rw (eq-eqb (length s) (length_of n) e, le-leb 2 n i, le-leb n largest j, le-leb 1 stall k, le-leb stall n l)

  -- .. and whoever is answered 0 holds the fresh image
  pub fresh_zero : (out : List ℕ) → ◌≡◌ {A = Outcome} (record { answer = 0; image = out }) (fresh_call s n stall) → out ≡ fresh_image n stall
  unfolding fresh_call
  fresh_zero out e =
      ap (λ o. o.image) e
      ∙ into_zero (not (is_count n)) (not (eqb (length s) (length_of n))) (bad_stall n stall) (fresh_image n stall) s (sym (ap (λ o. o.answer) e))

pub ruleset fresh_ones = (fresh_whole)
