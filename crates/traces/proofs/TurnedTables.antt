-- A meeting of two tables with its two heads named the other way. The label is the same and the verdicts are exchanged for any two tables; what both hold afterwards is
-- the same where the two tell the same of the news that both have.
use Prim.Native.Nat.{ℕ, ◌≤◌}
use mathlib.Core.Path.{◌≡◌, refl, sym, ap, ap₂, fun_ext, ◌∙◌}
use mathlib.Core.Bool.{Bool, true, false, ◌&&◌, ◌||◌, not, cond, or_comm, or-false}
use mathlib.Core.List.{map, map-map}
use native.Mathlib.Decide.{ℕ_discrete}
use native.Mathlib.Omega.{arith}
use borrow.Author.Tests.{eq-eqb, ne_eqb, eqb-true}
use lib.Dec.{eqb}
use Rattle.causality.specs.Best.{up_to}
use Rattle.image.specs.Encode.{Table, encode}
use Rattle.image.specs.declared.Name.{Name}
use Rattle.image.specs.declared.Name.TheVariants.{Never, With}
use Rattle.image.proofs.Passing.{and_holds, not_fails}
use Rattle.image.proofs.Search.{some_agree}
use Rattle.image.proofs.Encoding.{encode_agree}
use Rattle.merge.specs.Known.{known}
use Rattle.merge.specs.Verdict.{same_name, judge, verdict}
use Rattle.merge.specs.Label.{is_meeting, row_has, pair_names, label_used, lowest_from, new_label}
use Rattle.merge.specs.Merged.{is_met, first_has, second_has, supplier, supplier_stall, latest_name, merged_names, merged_yields, order_between, merged_order, merged, verdict_bytes}
use Rattle.parlour.proofs.Meetings.{each_map}
use Rattle.traces.specs.Answer.{exchange}

-- Tests, one way and the other

eqb_turned : (x y : ℕ) → eqb x y ≡ eqb y x
eqb_turned x y =
    elim (ℕ_discrete x y) [
      | yes e ↦ eq-eqb x y e ∙ sym (eq-eqb y x (sym e))
      | no f ↦ ne_eqb x y f ∙ sym (ne_eqb y x (λ e. f (sym e)))
    ]

same_turned : (x y : Name) → same_name x y ≡ same_name y x
same_turned Never Never = refl
same_turned Never (With k) = refl
same_turned (With m) Never = refl
same_turned (With m) (With k) = ap₂ ◌&&◌ (eqb_turned m.partner k.partner) (eqb_turned m.label k.label)

judge_turned : (x y same : Bool) → exchange (judge x y same) ≡ judge y x same
unfolding exchange
judge_turned true true true = refl
judge_turned true true false = refl
judge_turned true false same = refl
judge_turned false true same = refl
judge_turned false false same = refl

second_exchanged : (v : ℕ) → eqb (exchange v) 2 ≡ eqb v 1
unfolding exchange
second_exchanged v = go (eqb v 1) (eqb v 2) refl
  where
    go : (x y : Bool) → eqb v 2 ≡ y → eqb (cond x 2 (cond y 1 v)) 2 ≡ x
    go true y e = refl
    go false true e = refl
    go false false e = e

-- no verdict is for both
one_has : (v : ℕ) → not (eqb v 2) ≡ false → not (eqb v 1) ≡ false → ⊥
one_has v e f = let z : ◌≡◌ {A = ℕ} 2 1 = sym (eqb-true v 2 ((not_fails (eqb v 2)).0 e)) ∙ eqb-true v 1 ((not_fails (eqb v 1)).0 f) in omega arith

-- Choices, one way and the other

-- of two that are not both so
pick_turned : {A : Type 0} (x y : Bool) (u v : A) {z w : A} → (x ≡ true → y ≡ true → ⊥) → z ≡ w → cond x u (cond y v z) ≡ cond y v (cond x u w)
pick_turned true true u v f e = absurd (f refl refl)
pick_turned true false u v f e = refl
pick_turned false true u v f e = refl
pick_turned false false u v f e = e

-- of two of whom one has it, or both have the same
has_either : {A : Type 0} (x y : Bool) (u v : A) → (x ≡ false → y ≡ false → ⊥) → (x ≡ true → y ≡ true → u ≡ v) → cond x u v ≡ cond y v u
has_either true true u v f e = e refl refl
has_either true false u v f e = refl
has_either false true u v f e = refl
has_either false false u v f e = absurd (f refl refl)

-- a mark that one has, or both have alike
between_turned : (t u x y : Bool) → (t ≡ true → u ≡ true → x ≡ y) → (t && x || not t && u && y) ≡ (u && y || not u && t && x)
between_turned true true x y e = ap (λ z. z || false) (e refl refl)
between_turned true false x y e = or-false x
between_turned false true x y e = sym (or-false y)
between_turned false false x y e = refl

-- for any two tables

module _ (n p : ℕ) (a : Table) (q : ℕ) (b : Table) where
  pub label_turned : new_label n p a q b ≡ new_label n q b p a
  unfolding new_label label_used
  label_turned =
      ap (lowest_from (pair_names n) 0)
      (fun_ext (λ k. some_agree n _ _ (λ r i j.
      or_comm (row_has p q a k r) (row_has p q b k r) ∙ ap₂ ◌||◌ (or_comm (is_meeting q k (b.names r p)) _) (or_comm (is_meeting q k (a.names r p)) _))))

  verdict_turned : (r : ℕ) → exchange (verdict n p a q b r) ≡ verdict n q b p a r
  unfolding verdict
  verdict_turned r =
      let x = known n (a.names p) (a.order r) (b.names q) r in
      let y = known n (b.names q) (b.order r) (a.names p) r in
      judge_turned x y (same_name (a.names p r) (b.names q r)) ∙ ap (judge y x) (same_turned (a.names p r) (b.names q r))

  pub verdicts_turned : map exchange (verdict_bytes n p a q b) ≡ verdict_bytes n q b p a
  unfolding verdict_bytes
  verdicts_turned =
      ap (map exchange) (each_map n (verdict n p a q b)) ∙ map-map exchange (verdict n p a q b) (up_to n)
      ∙ ap (λ f. map f (up_to n)) (fun_ext verdict_turned) ∙ sym (each_map n (verdict n q b p a))

  -- who is named first has the news that who is named second has the other way round
  has_turned : (r : ℕ) → first_has n q b p a r ≡ second_has n p a q b r
  has_turned r = ap (λ v. not (eqb v 2)) (sym (verdict_turned r)) ∙ ap not (second_exchanged (verdict n p a q b r))

  -- both have the news of r
  abbrev pub Both : ℕ → Type 0
  Both r = (first_has n p a q b r ≡ true) × (second_has n p a q b r ≡ true)

-- what two tables tell of the stalls that both have the news of is the same
pub record Shared (n p : ℕ) (a : Table) (q : ℕ) (b : Table) : Type 0 where
  pub latests : (r : ℕ) → 1 ≤ r → r ≤ n → Both n p a q b r → a.names p r ≡ b.names q r
  pub names : (r c : ℕ) → 1 ≤ r → r ≤ n → 1 ≤ c → c ≤ n → Both n p a q b r → a.names r c ≡ b.names r c
  pub yields : (r : ℕ) → 1 ≤ r → r ≤ n → Both n p a q b r → a.yields r ≡ b.yields r
  pub order : (r s : ℕ) → 1 ≤ r → r ≤ n → 1 ≤ s → s ≤ n → Both n p a q b r → Both n p a q b s → a.order r s ≡ b.order r s

module _ {n p : ℕ} {a : Table} {q : ℕ} {b : Table} (differ : p ≡ q → ⊥) (w : Shared n p a q b) where
  -- r is one of the two, and not both
  only_one : (r : ℕ) → eqb r p ≡ true → eqb r q ≡ true → ⊥
  only_one r e f = differ (sym (eqb-true r p e) ∙ eqb-true r q f)

  -- what comes from the supplier
  supplied : {A : Type 0} (f : Table → ℕ → A) (r : ℕ) → (Both n p a q b r → f a p ≡ f b q)
      → f (supplier n p a q b r) (supplier_stall n p a q b r) ≡ f (supplier n q b p a r) (supplier_stall n q b p a r)
  supplied f r e =
      push (first_has n p a q b r) p a q b
      ∙ has_either (first_has n p a q b r) (second_has n p a q b r) (f a p) (f b q) (one_has (verdict n p a q b r)) (λ x y. e (x, y))
      ∙ ap (λ t. cond t (f b q) (f a p)) (sym (has_turned n p a q b r))
      ∙ sym (push (first_has n q b p a r) q b p a)
    where
      push : (t : Bool) (p : ℕ) (a : Table) (q : ℕ) (b : Table) → f (cond t a b) (cond t p q) ≡ cond t (f a p) (f b q)
      push true p a q b = refl
      push false p a q b = refl

  latest_turned : (r : ℕ) → 1 ≤ r → r ≤ n → latest_name n p a q b r ≡ latest_name n q b p a r
  unfolding latest_name
  latest_turned r i j =
      rw (label_turned n p a q b) (pick_turned (eqb r p) (eqb r q) _ _ (only_one r) (supplied (λ t z. t.names z r) r (w.latests r i j)))

  names_turned : (r c : ℕ) → 1 ≤ r → r ≤ n → 1 ≤ c → c ≤ n → merged_names n p a q b r c ≡ merged_names n q b p a r c
  unfolding merged_names
  names_turned r c i j k l =
      rw (or_comm (eqb r p) (eqb r q)) (ap₂ (cond (is_met q p r)) (latest_turned c k l) (supplied (λ t z. t.names r c) r (w.names r c i j k l)))

  yields_turned : (r : ℕ) → 1 ≤ r → r ≤ n → merged_yields n p a q b r ≡ merged_yields n q b p a r
  unfolding merged_yields
  yields_turned r i j = pick_turned (eqb r p) (eqb r q) _ _ (only_one r) (supplied (λ t z. t.yields r) r (w.yields r i j))

  order_turned : (r s : ℕ) → 1 ≤ r → r ≤ n → 1 ≤ s → s ≤ n → merged_order n p a q b r s ≡ merged_order n q b p a r s
  unfolding merged_order
  order_turned r s i j k l = rw (or_comm (eqb s p) (eqb s q), or_comm (eqb r p) (eqb r q), latest_turned r i j, between)
    where
      between : order_between n p a q b r s ≡ order_between n q b p a r s
      between =
          between_turned (first_has n p a q b r && first_has n p a q b s) (second_has n p a q b r && second_has n p a q b s) (a.order r s) (b.order r s)
          (λ x y.
          let (fr, fs) = (and_holds (first_has n p a q b r) (first_has n p a q b s)).0 x in
          let (sr, ss) = (and_holds (second_has n p a q b r) (second_has n p a q b s)).0 y in
          w.order r s i j k l (fr, sr) (fs, ss))
          ∙ rw (has_turned n p a q b r, has_turned n p a q b s, has_turned n q b p a r, has_turned n q b p a s)

  -- so both hold the same afterwards
  pub merged_turned : (z current : ℕ) → encode n z (merged n p a q b current) ≡ encode n z (merged n q b p a current)
  unfolding merged
  merged_turned z current = encode_agree n z _ _ refl names_turned yields_turned order_turned
