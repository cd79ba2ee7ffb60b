-- The verdicts that the code finds as sets are those of the tables.
use Prim.Native.Nat.{ℕ}
use mathlib.Core.Path.{◌≡◌, refl, ap, ap₂, ◌∙◌}
use mathlib.Core.List.{List}
use mathlib.Core.Bool.{Bool, true, false, ◌&&◌, ◌||◌, not, cond, not-not}
use lib.Bits.{bit_and, bit_or}
use lib.Dec.{eqb}
use Rattle.image.specs.Stalls.{bits, has, without}
use Rattle.image.specs.Layout.{row_place, order_at, name_at, mark_at}
use Rattle.image.specs.Encode.{Table, table_of}
use Rattle.image.specs.Row.{is_never}
use Rattle.image.specs.declared.Name.{Name}
use Rattle.image.proofs.Bits.{common_test, bits_agree}
use Rattle.image.proofs.StallSets.{and_bits, or_bits, without_bits}
use Rattle.merge.specs.declared.View.{View}
use Rattle.merge.specs.declared.Decided.{Decided}
use Rattle.merge.specs.Known.{common, known}
use Rattle.merge.specs.Verdict.{same_name, judge, verdict}
use Rattle.merge.specs.Views.{row_name, Views, Decides}

-- The latests that are known to the other, as a set: x is what the own row shows, and order gives the order marks of each stall

pub known_set : (n : ℕ) (mine theirs : ℕ → Name) (order : ℕ → ℕ) (x : View) → Views n mine theirs x → (all marked : ℕ)
    → all ≡ bits n (λ s. true) → marked ≡ bits n (λ r. not (eqb (bit_and (order r) x.common) 0))
    → bit_or (without all x.heard) marked ≡ bits n (λ r. known n mine (has (order r)) theirs r)
unfolding known
known_set n mine theirs order x w all marked e i =
    rw (e, i, w.heard_is, w.common_is, without_bits n (λ s. true) (λ c. not (is_never (mine c))))
    (or_bits n (λ s. not (not (is_never (mine s)))) (λ r. not (eqb (bit_and (order r) (bits n (common n mine theirs))) 0))
    ∙ bits_agree n _ _ (λ r a b. ap₂ ◌||◌ (not-not (is_never (mine r))) (common_test n (order r) (common n mine theirs))))

-- The verdicts, by whether the first's latest is known, the second's, and whether they have the same name

judge_one : (x y s : Bool) → (y && not x) ≡ eqb (judge x y s) 1
judge_one true true true = refl
judge_one true true false = refl
judge_one true false s = refl
judge_one false true s = refl
judge_one false false s = refl

judge_two : (x y s : Bool) → (x && not y) ≡ eqb (judge x y s) 2
judge_two true true true = refl
judge_two true true false = refl
judge_two true false s = refl
judge_two false true s = refl
judge_two false false s = refl

judge_nine : (x y s : Bool) → (not (x || y) || (x && y) && not s) ≡ eqb (judge x y s) 9
judge_nine true true true = refl
judge_nine true true false = refl
judge_nine true false s = refl
judge_nine false true s = refl
judge_nine false false s = refl

-- one of two tests
choice : (h k t : Bool) → (h && not t || k && t) ≡ cond t k h
choice true true true = refl
choice true false true = refl
choice false true true = refl
choice false false true = refl
choice true true false = refl
choice true false false = refl
choice false true false = refl
choice false false false = refl

module _ (n p : ℕ) (a : Table) (q : ℕ) (b : Table) where
  -- the first's latest of r is known to the second, and the second's to the first
  abbrev pub first_known : ℕ → Bool
  first_known r = known n (a.names p) (a.order r) (b.names q) r

  abbrev pub second_known : ℕ → Bool
  second_known r = known n (b.names q) (b.order r) (a.names p) r

  abbrev pub same : ℕ → Bool
  same r = same_name (a.names p r) (b.names q r)

  pub decides : (x y : View) → Views n (a.names p) (b.names q) x → Views n (b.names q) (a.names p) y → (all first second : ℕ)
      → all ≡ bits n (λ s. true) → first ≡ bits n first_known → second ≡ bits n second_known → (d : Decided)
      → d.one ≡ without second first → d.two ≡ without first second
      → d.nine ≡ bit_or (without all (bit_or first second)) (without (bit_and first second) x.same)
      → d.heard ≡ bit_or (without x.heard d.two) (bit_and y.heard d.two)
      → Decides n p a q b d
  unfolding verdict
  decides x y v w all first second e f g d one two nine heard =
      record {
        one_is = one ∙ rw (f, g) (without_bits n second_known first_known ∙ bits_agree n _ _ (λ r i j. judge_one (first_known r) (second_known r) (same r)));
        two_is = two_is;
        nine_is =
            nine
            ∙ rw (e, f, g, v.same_is, or_bits n first_known second_known, and_bits n first_known second_known, without_bits n (λ s. true) (λ r. first_known r || second_known r), without_bits n (λ r. first_known r && second_known r) same)
            (or_bits n (λ r. not (first_known r || second_known r)) (λ r. (first_known r && second_known r) && not (same r))
            ∙ bits_agree n _ _ (λ r i j. judge_nine (first_known r) (second_known r) (same r)));
        heard_is =
            heard
            ∙ rw (two_is, v.heard_is, w.heard_is, without_bits n (λ r. not (is_never (a.names p r))) is_two, and_bits n (λ r. not (is_never (b.names q r))) is_two)
            (or_bits n (λ r. not (is_never (a.names p r)) && not (is_two r)) (λ r. not (is_never (b.names q r)) && is_two r)
            ∙ bits_agree n _ _ (λ r i j. choice (not (is_never (a.names p r))) (not (is_never (b.names q r))) (is_two r)));
      }
    where
      is_two : ℕ → Bool
      is_two r = eqb (judge (first_known r) (second_known r) (same r)) 2

      two_is : d.two ≡ bits n is_two
      two_is = two ∙ rw (f, g) (without_bits n first_known second_known ∙ bits_agree n _ _ (λ r i j. judge_two (first_known r) (second_known r) (same r)))

-- The same of two images: their own rows, looked at from both sides, and the stalls with a mark to a common column
pub verdict_sets : (s u : List ℕ) (n p q : ℕ) (x y : View)
    → Views n (row_name s (row_place n p)) (row_name u (row_place n q)) x → Views n (row_name u (row_place n q)) (row_name s (row_place n p)) y
    → (all v e w f : ℕ) → all ≡ bits n (λ r. true)
    → v ≡ without all x.heard → e ≡ bits n (λ r. not (eqb (bit_and (order_at s n r) x.common) 0))
    → w ≡ without all y.heard → f ≡ bits n (λ r. not (eqb (bit_and (order_at u n r) y.common) 0))
    → (d : Decided) → let first = bit_or v e in let second = bit_or w f in
    d.one ≡ without second first → d.two ≡ without first second
    → d.nine ≡ bit_or (without all (bit_or first second)) (without (bit_and first second) x.same)
    → d.heard ≡ bit_or (without x.heard d.two) (bit_and y.heard d.two)
    → Decides n p (table_of s n) q (table_of u n) d
unfolding table_of name_at mark_at
verdict_sets s u n p q x y a b all v e w f all_is v_is e_is w_is f_is d =
    decides n p (table_of s n) q (table_of u n) x y a b all (bit_or v e) (bit_or w f) all_is
    (ap (λ k. bit_or k e) v_is ∙ known_set n ((table_of s n).names p) ((table_of u n).names q) (order_at s n) x a all e all_is e_is)
    (ap (λ k. bit_or k f) w_is ∙ known_set n ((table_of u n).names q) ((table_of s n).names p) (order_at u n) y b all f all_is f_is)
    d
