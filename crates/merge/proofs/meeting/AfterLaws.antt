-- What a meeting leaves: well-made tables that say the same, so that a second meeting at once has nothing newer to tell.
use Prim.Native.Nat.{ℕ, ◌+◌, ◌≤◌}
use mathlib.Core.Path.{◌≡◌, refl, sym, ap, subst, ◌∙◌}
use mathlib.Core.Bool.{Bool, true, false, ◌&&◌, ◌||◌, not, cond, or-true, true≢false, false≢true}
use mathlib.Core.Logic.{◌⊎◌, inl, inr, ◌↔◌}
use mathlib.Core.List.{List, [], ◌∷◌}
use native.Mathlib.Omega.{arith}
use borrow.Author.Tests.{eq-eqb, eqb-true, ne_eqb, not-true, not-false}
use lib.Dec.{eqb}
use lib.ListN.{length}
use Rattle.image.specs.Stalls.{some, each}
use Rattle.image.specs.Layout.{largest, is_yield}
use Rattle.image.specs.Encode.{Table, encode, table_of}
use Rattle.image.specs.Made.{NameIn, Made}
use Rattle.image.specs.Row.{is_never}
use Rattle.image.specs.declared.Name.{Name}
use Rattle.image.specs.declared.Name.TheVariants.{Never, With}
use Rattle.image.proofs.Tables.{none_at}
use Rattle.image.proofs.Passing.{and_holds, some_holds, some_fails}
use Rattle.image.proofs.Accepted.{Accepted, checked_accepted}
use Rattle.image.proofs.MadeAccepted.{read_name, read_mark, made_accepted}
use Rattle.merge.specs.Known.{same_meeting, common, known}
use Rattle.merge.specs.Verdict.{same_name, judge, verdict, undecided}
use Rattle.merge.specs.Merged.{met, first_has, second_has, supplier, supplier_stall, latest_name, merged_names, merged_yields, order_between, merged_order, merged, verdict_bytes}
use Rattle.merge.specs.Call.{refused_meeting, accepted_meeting, met_together, met_good, met_checked, meeting_call}
use Rattle.merge.proofs.known.Agreeing.{verdict_agree}
use Rattle.merge.proofs.pairs.PairRows.{each_agree}
use Rattle.merge.proofs.label.NewLabel.{new_label_most, new_label_limit}
use Rattle.merge.proofs.Heads.{Heads, accepted_heads}
use Rattle.merge.proofs.Latests.{pick, pick_neither, never_with, not_never, new_name, latest_met, latest_other}

-- Cases

pub either : {A : Type 0} (P : A → Type 0) (x : Bool) (u v : A) → (x ≡ true → P u) → (x ≡ false → P v) → P (cond x u v)
either P true u v f g = f refl
either P false u v f g = g refl

never_not : (x : Name) → not (is_never x) ≡ true → x ≡ Never → ⊥
never_not Never e = absurd (false≢true e)
never_not (With m) e = never_with

same_never : (x y : Name) → same_name x y ≡ true → x ≡ Never → y ≡ Never
same_never Never Never e i = refl
same_never Never (With k) e i = absurd (false≢true e)
same_never (With m) y e i = absurd (never_with i)

-- a decided verdict for neither head is by the same name
judge_zero : (x y z : Bool) → not (eqb (judge x y z) 2) ≡ true → not (eqb (judge x y z) 1) ≡ true → eqb (judge x y z) 9 ≡ false → z ≡ true
judge_zero true true true a b c = refl
judge_zero true true false a b c = absurd (true≢false c)
judge_zero true false z a b c = absurd (false≢true a)
judge_zero false true z a b c = absurd (false≢true b)
judge_zero false false z a b c = absurd (true≢false c)

all_three : (x y z : Bool) → (x && y && z) ≡ true → (x ≡ true) × (y ≡ true) × (z ≡ true)
all_three true true z e = (refl, refl, e)
all_three true false z e = absurd (false≢true e)
all_three false y z e = absurd (false≢true e)

-- a mark between two others is the first's or the second's
between : (f g x h k y : Bool) → (f && g && x || not (f && g) && (h && k) && y) ≡ true
    → ((f ≡ true) × (g ≡ true) × (x ≡ true)) ⊎ ((h ≡ true) × (k ≡ true) × (y ≡ true))
between true true true h k y e = inl (refl, refl, refl)
between true true false h k y e = absurd (false≢true e)
between true false x h k y e = inr (all_three h k y e)
between false g x h k y e = inr (all_three h k y e)

-- two heads whose tables belong together
pub record Meets (n p : ℕ) (a : Table) (q : ℕ) (b : Table) : Type 0 where
  pub heads : Heads n p a q b
  pub decided : undecided n p a q b ≡ false

-- Who was met, and who not

module _ (n p : ℕ) (a : Table) (q : ℕ) (b : Table) where
  -- who has no name was not met, and the supplier has none
  never_other : (r : ℕ) → latest_name n p a q b r ≡ Never → (met n p a q b r ≡ false) × ((supplier n p a q b r).names (supplier_stall n p a q b r) r ≡ Never)
  never_other r z = go (met n p a q b r) refl
    where
      go : (t : Bool) → met n p a q b r ≡ t → (t ≡ false) × ((supplier n p a q b r).names (supplier_stall n p a q b r) r ≡ Never)
      go true e = absurd (latest_met n p a q b r e z)
      go false e = (refl, sym (latest_other n p a q b r e) ∙ z)

  -- the own row of either is the new list
  pub own_row : (own r : ℕ) → met n p a q b own ≡ true → merged_names n p a q b own r ≡ latest_name n p a q b r
  unfolding merged_names
  own_row own r e = ap (λ t. cond t (latest_name n p a q b r) ((supplier n p a q b own).names own r)) e

  names_other : (r c : ℕ) → met n p a q b r ≡ false → merged_names n p a q b r c ≡ (supplier n p a q b r).names r c
  unfolding merged_names
  names_other r c e = ap (λ t. cond t (latest_name n p a q b c) ((supplier n p a q b r).names r c)) e

  yields_other : (r : ℕ) → met n p a q b r ≡ false → merged_yields n p a q b r ≡ (supplier n p a q b r).yields r
  unfolding merged_yields
  yields_other r e = pick_neither (eqb r p) (eqb r q) a.current b.current ((supplier n p a q b r).yields r) e

  marked_met : (r s : ℕ) → met n p a q b s ≡ true → (latest_name n p a q b r ≡ Never → ⊥) → merged_order n p a q b r s ≡ true
  unfolding merged_order
  marked_met r s is h =
      ap (λ t. cond t (not (is_never (latest_name n p a q b r))) (not (met n p a q b r) && order_between n p a q b r s)) is ∙ not_never (latest_name n p a q b r) h

  supplied_by : (r : ℕ) (t : Bool) → first_has n p a q b r ≡ t → (supplier n p a q b r).names (supplier_stall n p a q b r) r ≡ (cond t a b).names (cond t p q) r
  supplied_by r t f = ap (λ z. (cond z a b).names (cond z p q) r) f

  -- the supplier's own mark of r goes through
  between_self : (r : ℕ) → (supplier n p a q b r).order r r ≡ true → order_between n p a q b r r ≡ true
  between_self r = go (first_has n p a q b r) refl
    where
      go : (f : Bool) → first_has n p a q b r ≡ f → (cond f a b).order r r ≡ true
          → (f && f && a.order r r || not (f && f) && (second_has n p a q b r && second_has n p a q b r) && b.order r r) ≡ true
      go true e o = rw o
      go false e o = let v : verdict n p a q b r ≡ 2 = eqb-true _ 2 (not-false _ e) in rw (v, o)

-- The parts of a well-made table

module _ {n p : ℕ} {a : Table} {q : ℕ} {b : Table} (w : Meets n p a q b) where
  supplied : (r : ℕ) → Made n (supplier_stall n p a q b r) (supplier n p a q b r)
  supplied r = go (first_has n p a q b r)
    where
      go : (t : Bool) → Made n (cond t p q) (cond t a b)
      go true = w.heads.first
      go false = w.heads.second

  latest_in : (c : ℕ) → 1 ≤ c → c ≤ n → NameIn n c (latest_name n p a q b c)
  unfolding latest_name
  latest_in c k l =
      pick (NameIn n c) (eqb c p) (eqb c q) (new_name n p a q b q) (new_name n p a q b p) ((supplier n p a q b c).names (supplier_stall n p a q b c) c)
      (λ e. (w.heads.q_from, w.heads.q_to, λ z. w.heads.differ (sym (z ∙ eqb-true c p e)), new_label_limit w.heads))
      (λ e. (w.heads.p_from, w.heads.p_to, λ z. w.heads.differ (z ∙ eqb-true c q e), new_label_limit w.heads))
      (λ e. subst (NameIn n c) ((supplied c).diagonal c k l) ((supplied c).names_in c c k l k l))

  names_in : (r c : ℕ) → 1 ≤ r → r ≤ n → 1 ≤ c → c ≤ n → NameIn n c (merged_names n p a q b r c)
  unfolding merged_names
  names_in r c i j k l =
      either (NameIn n c) (met n p a q b r) (latest_name n p a q b c) ((supplier n p a q b r).names r c)
      (λ e. latest_in c k l)
      (λ e. (supplied r).names_in r c i j k l)

  yields_in : (r : ℕ) → 1 ≤ r → r ≤ n → is_yield (merged_yields n p a q b r) ≡ true
  unfolding merged_yields
  yields_in r i j =
      pick (λ y. is_yield y ≡ true) (eqb r p) (eqb r q) a.current b.current ((supplier n p a q b r).yields r)
      (λ e. w.heads.first.current_in)
      (λ e. w.heads.second.current_in)
      (λ e. (supplied r).yields_in r i j)

  diagonal : (r : ℕ) → 1 ≤ r → r ≤ n → merged_names n p a q b r r ≡ latest_name n p a q b r
  unfolding merged_names
  diagonal r i j =
      either (λ x. x ≡ latest_name n p a q b r) (met n p a q b r) (latest_name n p a q b r) ((supplier n p a q b r).names r r)
      (λ e. refl)
      (λ e. (supplied r).diagonal r i j ∙ sym (latest_other n p a q b r e))

  -- the second's name too is none, where it has no other news
  second_never : (r : ℕ) → 1 ≤ r → r ≤ n → met n p a q b r ≡ false → second_has n p a q b r ≡ true → latest_name n p a q b r ≡ Never → b.names q r ≡ Never
  unfolding verdict undecided
  second_never r i j e s z = go (first_has n p a q b r) refl
    where
      go : (t : Bool) → first_has n p a q b r ≡ t → b.names q r ≡ Never
      go true f =
          let same = judge_zero (known n (a.names p) (a.order r) (b.names q) r) (known n (b.names q) (b.order r) (a.names p) r) (same_name (a.names p r) (b.names q r))
          f s (none_at n (λ r. eqb (verdict n p a q b r) 9) w.decided r i j) in
          same_never (a.names p r) (b.names q r) same (sym (latest_other n p a q b r e ∙ supplied_by n p a q b r true f) ∙ z)
      go false f = sym (latest_other n p a q b r e ∙ supplied_by n p a q b r false f) ∙ z

  marks_heard : (r s : ℕ) → 1 ≤ r → r ≤ n → 1 ≤ s → s ≤ n → merged_order n p a q b r s ≡ true
      → (latest_name n p a q b r ≡ Never → ⊥) × (latest_name n p a q b s ≡ Never → ⊥)
  unfolding merged_order
  marks_heard r s i j k l = go (met n p a q b s) refl
    where
      go : (t : Bool) → met n p a q b s ≡ t → cond t (not (is_never (latest_name n p a q b r))) (not (met n p a q b r) && order_between n p a q b r s) ≡ true
          → (latest_name n p a q b r ≡ Never → ⊥) × (latest_name n p a q b s ≡ Never → ⊥)
      go true e d = (never_not (latest_name n p a q b r) d, latest_met n p a q b s e)
      go false e d =
          let (o, m) = (and_holds (not (met n p a q b r)) (order_between n p a q b r s)).0 d in
          let v = not-true (met n p a q b r) o in
          elim (between (first_has n p a q b r) (first_has n p a q b s) (a.order r s) (second_has n p a q b r) (second_has n p a q b s) (b.order r s) m) [
            | inl (f, g, x) ↦
                let h = w.heads.first.marks_heard r s i j k l x in
                (λ z. h.0 (sym (latest_other n p a q b r v ∙ supplied_by n p a q b r true f) ∙ z), λ z. h.1 (sym (latest_other n p a q b s e ∙ supplied_by n p a q b s true g) ∙ z))
            | inr (f, g, x) ↦
                let h = w.heads.second.marks_heard r s i j k l x in
                (λ z. h.0 (second_never r i j v f z), λ z. h.1 (second_never s k l e g z))
          ]

  marked_self : (r : ℕ) → 1 ≤ r → r ≤ n → (latest_name n p a q b r ≡ Never → ⊥) → merged_order n p a q b r r ≡ true
  unfolding merged_order
  marked_self r i j h =
      either (λ t. t ≡ true) (met n p a q b r) (not (is_never (latest_name n p a q b r))) (not (met n p a q b r) && order_between n p a q b r r)
      (λ e. not_never (latest_name n p a q b r) h)
      (λ e. (and_holds (not (met n p a q b r)) (order_between n p a q b r r)).1
      (ap not e, between_self n p a q b r ((supplied r).marked_self r i j (λ z. h (latest_other n p a q b r e ∙ z)))))

  -- the table of either is well made
  pub merged_made : (own current : ℕ) → met n p a q b own ≡ true → is_yield current ≡ true → Made n own (merged n p a q b current)
  unfolding merged
  merged_made own current is le =
      let row : (r : ℕ) → merged_names n p a q b own r ≡ latest_name n p a q b r = λ r. own_row n p a q b own r is in
      record {
        current_in = le;
        yields_in = yields_in;
        names_in = names_in;
        diagonal = λ r i j. diagonal r i j ∙ sym (row r);
        unheard_row = λ r c i j k l z.
            let (e, none) = never_other n p a q b r (sym (row r) ∙ z) in
            names_other n p a q b r c e ∙ (supplied r).unheard_row r c i j k l none;
        unheard_yield = λ r i j z.
            let (e, none) = never_other n p a q b r (sym (row r) ∙ z) in
            yields_other n p a q b r e ∙ (supplied r).unheard_yield r i j none;
        marks_heard = λ r s i j k l m.
            let h = marks_heard r s i j k l m in
            (λ z. h.0 (sym (row r) ∙ z), λ z. h.1 (sym (row s) ∙ z));
        marked_self = λ r i j h. marked_self r i j (λ z. h (row r ∙ z));
        marked_own = λ r i j h. marked_met n p a q b r own is (λ z. h (row r ∙ z));
      }

-- A second meeting at once

same_self : (x : Name) → same_name x x ≡ true
same_self Never = refl
same_self (With m) = rw (eq-eqb m.partner m.partner refl, eq-eqb m.label m.label refl)

meeting_self : (c : ℕ) (x : Name) → (x ≡ Never → ⊥) → same_meeting c x c x ≡ true
meeting_self c Never h = absurd (h refl)
meeting_self c (With m) h = rw (eq-eqb m.label m.label refl, eq-eqb c c refl, eq-eqb m.partner m.partner refl)

-- a latest that both have, with its own mark, is known
known_shared : (n : ℕ) (mine theirs : ℕ → Name) (marks : ℕ → Bool) (r : ℕ) → 1 ≤ r → r ≤ n → mine r ≡ theirs r → ((mine r ≡ Never → ⊥) → marks r ≡ true)
    → known n mine marks theirs r ≡ true
unfolding known common
known_shared n mine theirs marks r i j same marked = go (is_never (mine r)) refl
  where
    go : (t : Bool) → is_never (mine r) ≡ t → (t || some n (λ s. marks s && common n mine theirs s)) ≡ true
    go true e = refl
    go false e =
        let heard = never_not (mine r) (ap not e) in
        let both : common n mine theirs r ≡ true = (some_holds n (λ d. same_meeting r (mine r) d (theirs d))).1 (
          r,
          i,
          j,
          subst (λ y. same_meeting r (mine r) r y ≡ true) same (meeting_self r (mine r) heard),
        ) in
        (some_holds n (λ s. marks s && common n mine theirs s)).1 (r, i, j, (and_holds (marks r) (common n mine theirs r)).1 (marked heard, both))

module _ (n p : ℕ) (a : Table) (q : ℕ) (b : Table) where
  pub met_first : met n p a q b p ≡ true
  met_first = rw (eq-eqb p p refl)

  pub met_second : met n p a q b q ≡ true
  met_second = rw (eq-eqb q q refl) (or-true (eqb q p))

  -- rows, yields and marks are the same whatever the current yields
  pub after_same : (c d : ℕ)
      → ((merged n p a q b c).names ≡ (merged n p a q b d).names) × ((merged n p a q b c).yields ≡ (merged n p a q b d).yields) × ((merged n p a q b c).order ≡ (merged n p a q b d).order)
  unfolding merged
  after_same c d = (refl, refl, refl)

-- nothing is newer in either
pub again_zero : {n p : ℕ} {a : Table} {q : ℕ} {b : Table} → Meets n p a q b → (c d r : ℕ) → 1 ≤ r → r ≤ n
    → verdict n p (merged n p a q b c) q (merged n p a q b d) r ≡ 0
unfolding verdict merged
again_zero {n} {p} {a} {q} {b} w c d r i j =
    let row = own_row n p a q b p r (met_first n p a q b) in
    let other = own_row n p a q b q r (met_second n p a q b) in
    let same = row ∙ sym other in
    let first = known_shared n (merged_names n p a q b p) (merged_names n p a q b q) (merged_order n p a q b r) r i j same (λ h. marked_self w r i j (λ z. h (row ∙ z))) in
    let second = known_shared n (merged_names n p a q b q) (merged_names n p a q b p) (merged_order n p a q b r) r i j (sym same) (λ h. marked_self w r i j (λ z. h (other ∙ z))) in
    rw (first, second, same) (ap (judge true true) (same_self (merged_names n p a q b q r)))

-- Images

module _ (s u : List ℕ) (n p q : ℕ) where
  -- what a meeting leaves of the two
  abbrev pub first_after : List ℕ
  first_after = encode n p (merged n p (table_of s n) q (table_of u n) (table_of s n).current)

  abbrev pub second_after : List ℕ
  second_after = encode n q (merged n p (table_of s n) q (table_of u n) (table_of u n).current)

pub meets : {s u : List ℕ} {n p q : ℕ} → Accepted s n p → Accepted u n q → (p ≡ q → ⊥) → undecided n p (table_of s n) q (table_of u n) ≡ false
    → Meets n p (table_of s n) q (table_of u n)
meets w v differ decided = record { heads = accepted_heads w v differ; decided = decided }

pub meeting_accepted : {s u : List ℕ} {n p q : ℕ} → Accepted s n p → Accepted u n q → (p ≡ q → ⊥) → undecided n p (table_of s n) q (table_of u n) ≡ false
    → Accepted (first_after s u n p q) n p
    × Accepted (second_after s u n p q) n q
meeting_accepted {s} {u} {n} {p} {q} w v differ decided =
    let a = table_of s n in
    let b = table_of u n in
    let m = meets w v differ decided in (
      made_accepted n p (merged n p a q b a.current) w.frame.n_from w.frame.n_to m.heads.p_from m.heads.p_to (merged_made m p a.current (met_first n p a q b) m.heads.first.current_in),
      made_accepted n q (merged n p a q b b.current) w.frame.n_from w.frame.n_to m.heads.q_from m.heads.q_to (merged_made m q b.current (met_second n p a q b) m.heads.second.current_in),
    )

-- and so it is for their images
pub again_zero_images : {n p : ℕ} {a : Table} {q : ℕ} {b : Table} → Meets n p a q b → 2 ≤ n → n ≤ largest → (c d : ℕ) → is_yield c ≡ true → is_yield d ≡ true
    → (r : ℕ) → 1 ≤ r → r ≤ n → verdict n p (table_of (encode n p (merged n p a q b c)) n) q (table_of (encode n q (merged n p a q b d)) n) r ≡ 0
unfolding table_of
again_zero_images {n} {p} {a} {q} {b} w from to c d e f r i j =
    let first = merged n p a q b c in
    let second = merged n p a q b d in
    let x = merged_made w p c (met_first n p a q b) e in
    let y = merged_made w q d (met_second n p a q b) f in
    verdict_agree n p (table_of (encode n p first) n) first q (table_of (encode n q second) n) second r i j
    (λ s. read_name n p first from to w.heads.p_from w.heads.p_to x p s w.heads.p_from w.heads.p_to)
    (λ s. read_name n q second from to w.heads.q_from w.heads.q_to y q s w.heads.q_from w.heads.q_to)
    (λ s. read_mark n p first from to w.heads.p_from w.heads.p_to x r s i j)
    (λ s. read_mark n q second from to w.heads.q_from w.heads.q_to y r s i j)
    ∙ again_zero w c d r i j

-- the same for two accepted images, and so they belong together still
module _ {s u : List ℕ} {n p q : ℕ} (w : Accepted s n p) (v : Accepted u n q) (differ : p ≡ q → ⊥) where
  pub meeting_zero : undecided n p (table_of s n) q (table_of u n) ≡ false → (r : ℕ) → 1 ≤ r → r ≤ n
      → verdict n p (table_of (first_after s u n p q) n) q (table_of (second_after s u n p q) n) r ≡ 0
  meeting_zero decided r i j =
      let m = meets w v differ decided in
      again_zero_images m w.frame.n_from w.frame.n_to (table_of s n).current (table_of u n).current m.heads.first.current_in m.heads.second.current_in r i j

  pub meeting_decided : undecided n p (table_of s n) q (table_of u n) ≡ false
      → undecided n p (table_of (first_after s u n p q) n) q (table_of (second_after s u n p q) n) ≡ false
  unfolding undecided
  meeting_decided decided = (some_fails n _).1 (λ r i j. ap (λ x. eqb x 9) (meeting_zero decided r i j))

  pub meeting_zeros : undecided n p (table_of s n) q (table_of u n) ≡ false
      → verdict_bytes n p (table_of (first_after s u n p q) n) q (table_of (second_after s u n p q) n) ≡ each n (λ r. 0 ∷ [])
  unfolding verdict_bytes
  meeting_zeros decided = each_agree n _ (λ r. 0 ∷ []) (λ r i j. ap (λ x. x ∷ []) (meeting_zero decided r i j))

-- Calls

-- 8, where the buffer has not n bytes
pub meeting_short : {s u : List ℕ} {n p q : ℕ} → Accepted s n p → Accepted u n q → (p ≡ q → ⊥) → (buffer : List ℕ) → (length buffer ≡ n → ⊥)
    → meeting_call s u buffer ≡ refused_meeting s u buffer 8
unfolding meeting_call met_checked met_good
meeting_short {n = n} {p = p} {q = q} w v differ buffer short =
    rw (checked_accepted w, checked_accepted v, eq-eqb n n refl, ne_eqb p q differ, ne_eqb (length buffer) n short)

module _ {s u : List ℕ} {n p q : ℕ} (w : Accepted s n p) (v : Accepted u n q) (differ : p ≡ q → ⊥) (buffer : List ℕ) (long : length buffer ≡ n) where
  -- none of 1 to 8 applies
  pub meeting_called : meeting_call s u buffer ≡ met_together s u buffer n p q
  unfolding meeting_call met_checked met_good
  meeting_called = rw (checked_accepted w, checked_accepted v, eq-eqb n n refl, ne_eqb p q differ, eq-eqb (length buffer) n long)

  -- labels are below 256, so 256 + 9 says that the images do not belong together
  pub nine_iff : ((meeting_call s u buffer).answer ≡ 256 + 9) ↔ (undecided n p (table_of s n) q (table_of u n) ≡ true)
  unfolding met_together
  nine_iff = rw meeting_called (go (undecided n p (table_of s n) q (table_of u n)))
    where
      go : (t : Bool) → ((cond t (refused_meeting s u buffer 9) (accepted_meeting s u buffer n p q)).answer ≡ 256 + 9) ↔ (t ≡ true)
      go true = (λ e. refl, λ e. refl)
      go false = (λ e. absurd (omega (arith, new_label_most n p (table_of s n) q (table_of u n), w.frame.n_to)), λ e. absurd (false≢true e))
