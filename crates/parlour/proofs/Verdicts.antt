-- For two tables of one history the verdict by what is known is best, and it is never 9.
use Prim.Native.Nat.{ℕ, ◌≤◌, ◌<◌}
use mathlib.Core.Path.{◌≡◌, refl, sym, ap, subst, ◌∙◌}
use mathlib.Core.Bool.{Bool, true, false, ◌&&◌, true≢false}
use mathlib.Core.Logic.{inl, inr}
use native.Mathlib.Omega.{arith}
use borrow.Author.Tests.{eq-eqb, ne_eqb, eqb-true}
use lib.Dec.{T, eqb}
use Rattle.causality.specs.Event.{History}
use Rattle.causality.specs.Clock.{latest, in_past}
use Rattle.causality.specs.Best.{best}
use Rattle.causality.specs.Known.{Known, none_heard, common}
use Rattle.causality.specs.Meetings.{Joins}
use Rattle.causality.proofs.Pasts.{past_pos, past_le}
use Rattle.causality.proofs.Clocks.{latest_of, past_test}
use Rattle.causality.proofs.Newer.{newer_in}
use Rattle.causality.proofs.Knowledge as Knowledge
use Rattle.labels.proofs.Unique.{of_range}
use Rattle.image.specs.Stalls.{some}
use Rattle.image.specs.Row.{is_never}
use Rattle.image.specs.Encode.{Table}
use Rattle.image.specs.declared.Name.{Name}
use Rattle.image.proofs.Passing.{and_holds, or_holds, some_holds, some_fails}
use Rattle.merge.specs.Known as Rule
use Rattle.merge.specs.Verdict.{same_name, judge, verdict, undecided}
use Rattle.merge.proofs.known.Agreeing.{known_agree}
use Rattle.parlour.specs.Table.{name_in}
use Rattle.parlour.proofs.Names.{never_is, same_self, same_place}
use Rattle.parlour.proofs.Says.{Says, own_names}

pub true_T : {b : Bool} → b ≡ true → T b
true_T e = subst T (sym e) tt

pub T_true : (b : Bool) → T b → b ≡ true
T_true true t = refl
T_true false t = absurd t

module _ (n : ℕ) (h : History) (joins : (k : ℕ) → Joins n (h k)) (m : ℕ) where
  abbrev own : ℕ → ℕ → Name
  own p r = name_in n h r (latest h m p r)

  abbrev marks : ℕ → ℕ → ℕ → Bool
  marks p r s = in_past h (latest h m p r) (latest h m p s)

  -- a latest is of a stall of the parlour
  heard_range : (p r : ℕ) → 0 < latest h m p r → (1 ≤ r) × (r ≤ n)
  heard_range p r l = of_range n h joins (latest_of h m p r l)

  known_means : (p q r : ℕ) → Rule.known n (own p) (marks p r) (own q) r ≡ true → Known h m p q r
  unfolding Rule.known Rule.common
  known_means p q r e =
      elim ((or_holds (is_never (own p r)) (some n (λ s. marks p r s && some n (λ d. Rule.same_meeting s (own p s) d (own q d))))).0 e) [
        | inl z ↦ none_heard (eqb-true _ 0 (sym (never_is n h r (latest h m p r)) ∙ z))
        | inr z ↦
            let (s, i, j, w) = (some_holds n _).0 z in
            let (mark, shared) = (and_holds (marks p r s) _).0 w in
            let (d, k, l, same) = (some_holds n _).0 shared in
            common s d ((same_place n h joins m p s q d).0 same).1 ((past_test h _ _).0 (true_T mark))
      ]

  means_known : (p q r : ℕ) → Known h m p q r → Rule.known n (own p) (marks p r) (own q) r ≡ true
  unfolding Rule.known Rule.common
  means_known p q r (none_heard e) = (or_holds (is_never (own p r)) _).1 (inl (never_is n h r (latest h m p r) ∙ eq-eqb _ 0 e))
  means_known p q r (common s d e o) =
      let l : 0 < latest h m p s = omega (arith, past_pos o, past_le o) in
      let (i, j) = heard_range p s l in
      let (u, v) = heard_range q d (omega (arith, l, e)) in
      (or_holds (is_never (own p r)) _).1 (inr
      ((some_holds n (λ s. marks p r s && some n (λ d. Rule.same_meeting s (own p s) d (own q d)))).1 (
        s,
        i,
        j,
        (and_holds (marks p r s) _).1 (
          T_true _ ((past_test h _ _).1 o),
          (some_holds n (λ d. Rule.same_meeting s (own p s) d (own q d))).1 (d, u, v, (same_place n h joins m p s q d).1 (l, e)),
        ),
      )))

  judged : (p q r : ℕ) (x y : Bool) → Rule.known n (own p) (marks p r) (own q) r ≡ x → Rule.known n (own q) (marks q r) (own p) r ≡ y
      → judge x y (same_name (own p r) (own q r)) ≡ best h m p q r
  judged p q r true false e f =
      sym (Knowledge.only_first_known h m p q r (known_means p q r e) (λ k. true≢false (sym (means_known q p r k) ∙ f)))
  judged p q r false true e f =
      sym (Knowledge.only_second_known h m p q r (λ k. true≢false (sym (means_known p q r k) ∙ e)) (known_means q p r f))
  judged p q r false false e f =
      absurd (Knowledge.one_is_known h m p q r (λ k. true≢false (sym (means_known p q r k) ∙ e)) (λ k. true≢false (sym (means_known q p r k) ∙ f)))
  judged p q r true true e f =
      let k = known_means p q r e in
      let l = known_means q p r f in
      let same = Knowledge.both_known_same h m p q r k l in
      ap (judge true true) (subst (λ x. same_name (own p r) (name_in n h r x) ≡ true) same (same_self n h r (latest h m p r)))
      ∙ sym (Knowledge.both_known h m p q r k l)

  module _ {at : ℕ → ℕ → ℕ} {p q : ℕ} {a b : Table} (v : Says n h at m p a) (w : Says n h at m q b)
      (p_from : 1 ≤ p) (p_to : p ≤ n) (q_from : 1 ≤ q) (q_to : q ≤ n) where
    pub verdict_best : (r : ℕ) → 1 ≤ r → r ≤ n → verdict n p a q b r ≡ best h m p q r
    unfolding verdict
    verdict_best r i j =
        let first = own_names v p_from p_to in
        let second = own_names w q_from q_to in
        rw (
          known_agree n (a.names p) (own p) (b.names q) (own q) (a.order r) (marks p r) first second (λ s. v.order r s i j) r i j,
          known_agree n (b.names q) (own q) (a.names p) (own p) (b.order r) (marks q r) second first (λ s. w.order r s i j) r i j,
          first r i j,
          second r i j,
        )
        (judged p q r _ _ refl refl)

    pub decided : undecided n p a q b ≡ false
    unfolding undecided best
    decided =
        (some_fails n _).1
        (λ r i j. ap (λ x. eqb x 9) (verdict_best r i j) ∙ ne_eqb (best h m p q r) 9 (λ e. omega (arith, newer_in (latest h m p r) (latest h m q r))))
