-- Two heads by themselves need one label fewer: a meeting that both own rows name is one of the pair, and counts once; without one, they belong together only if some of
-- their names are none.
use Prim.Native.Nat.{ℕ, ◌+◌, ◌≤◌, ◌<◌}
use mathlib.Core.Path.{◌≡◌, refl, sym, ap, subst, ◌∙◌}
use mathlib.Core.Bool.{Bool, true, false, ◌&&◌, ◌||◌, true≢false, false≢true, or-true}
use mathlib.Core.Logic.{◌⊎◌, inl, inr}
use native.Mathlib.Omega.{arith}
use native.Mathlib.Decide.{ℕ_discrete}
use borrow.Author.Tests.{eq-eqb, eqb-true}
use lib.Dec.{eqb}
use Rattle.image.specs.Stalls.{some, count}
use Rattle.image.specs.Layout.{label_limit}
use Rattle.image.specs.Encode.{Table}
use Rattle.image.specs.Made.{NameIn}
use Rattle.image.specs.Row.{is_never}
use Rattle.image.specs.declared.Meet.{Meet}
use Rattle.image.specs.declared.Name.{Name}
use Rattle.image.specs.declared.Name.TheVariants.{Never, With}
use Rattle.image.proofs.Tables.{none_at}
use Rattle.image.proofs.Passing.{and_holds, or_holds, some_holds, some_fails}
use Rattle.image.proofs.Counts.{count_below, count_some, count_none}
use Rattle.merge.specs.Known.{same_meeting, common, known}
use Rattle.merge.specs.Verdict.{judge, verdict, undecided, same_name}
use Rattle.merge.specs.Label.{is_meeting, row_has, label_used, new_label}
use Rattle.merge.proofs.Heads.{Heads}
use Rattle.merge.proofs.label.Counting.{column_has, table_has, count_column, count_heads, count_second, count_names}
use Rattle.merge.proofs.label.NewLabel.{new_label_lowest, new_label_limit}

-- a column without names uses no label
column_none : (t n c partner : ℕ) (a : Table) → ((r : ℕ) → 1 ≤ r → r ≤ n → a.names r c ≡ Never) → count t (column_has n c partner a) ≡ 0
column_none t n c partner a none = count_none t _ (λ k l. (some_fails n _).1 (λ r i j. ap (is_meeting partner k) (none r i j)))

is_meeting_lem : (partner : ℕ) (x : Name) (m : Meet) → x ≡ With m → m.partner ≡ partner → is_meeting partner m.label x ≡ true
is_meeting_lem partner x m e d = ap (is_meeting partner m.label) e ∙ rw (eq-eqb m.partner partner d, eq-eqb m.label m.label refl)

-- two names of one meeting have one label
record OneLabel (x y : Name) : Type 0 where
  left : Meet
  right : Meet
  left_is : x ≡ With left
  right_is : y ≡ With right
  same : left.label ≡ right.label

one_label : (s : ℕ) (x : Name) (d : ℕ) (y : Name) → same_meeting s x d y ≡ true → OneLabel x y
one_label s Never d y e = absurd (false≢true e)
one_label s (With m) d Never e = absurd (false≢true e)
one_label s (With m) d (With k) e =
    record { left = m; right = k; left_is = refl; right_is = refl; same = eqb-true m.label k.label ((and_holds _ _).0 e).0 }

never : (x : Name) → is_never x ≡ true → x ≡ Never
never Never e = refl
never (With m) e = absurd (false≢true e)

-- a latest that is known is none, or some column is common
known_by : (n : ℕ) (mine : ℕ → Name) (marks : ℕ → Bool) (theirs : ℕ → Name) (r : ℕ) → known n mine marks theirs r ≡ true
    → (mine r ≡ Never) ⊎ ((s : ℕ) × (1 ≤ s) × (s ≤ n) × (d : ℕ) × (1 ≤ d) × (d ≤ n) × OneLabel (mine s) (theirs d))
unfolding known common
known_by n mine marks theirs r e =
    elim ((or_holds (is_never (mine r)) (some n (λ s. marks s && common n mine theirs s))).0 e) [
      | inl i ↦ inl (never (mine r) i)
      | inr i ↦
          let (s, j, k, f) = (some_holds n (λ s. marks s && common n mine theirs s)).0 i in
          let (d, l, m, g) = (some_holds n (λ d. same_meeting s (mine s) d (theirs d))).0 ((and_holds (marks s) (common n mine theirs s)).0 f).1 in
          inr (s, j, k, d, l, m, one_label s (mine s) d (theirs d) g)
    ]

module _ {p : ℕ} {a : Table} {q : ℕ} {b : Table} (w : Heads 2 p a q b) where
  -- of two stalls, who is not the one is the other
  is_second : (r : ℕ) → 1 ≤ r → r ≤ 2 → (r ≡ p → ⊥) → r ≡ q
  is_second r i j f = omega (arith, w.p_from, w.p_to, w.q_from, w.q_to, w.differ)

  is_first : (r : ℕ) → 1 ≤ r → r ≤ 2 → (r ≡ q → ⊥) → r ≡ p
  is_first r i j f = omega (arith, w.p_from, w.p_to, w.q_from, w.q_to, w.differ)

  -- any name of a table is one of the pair
  has_label_lem : (t : Table) (r c : ℕ) (m : Meet) → 1 ≤ r → r ≤ 2 → 1 ≤ c → c ≤ 2 → t.names r c ≡ With m → NameIn 2 c (With m) → table_has 2 p q t m.label ≡ true
  has_label_lem t r c m i j k l e (from, to, apart, limit) = (some_holds 2 _).1 (r, i, j, go)
    where
      go : row_has p q t m.label r ≡ true
      go =
          elim (ℕ_discrete c p) [
            | yes d ↦
                let x = is_second m.partner from to (λ z. apart (z ∙ sym d)) in
                ap (λ z. z || is_meeting p m.label (t.names r q)) (is_meeting_lem q (t.names r p) m (ap (t.names r) (sym d) ∙ e) x)
            | no d ↦
                let f = is_second c k l d in
                let x = is_first m.partner from to (λ z. apart (z ∙ sym f)) in
                rw (is_meeting_lem p (t.names r q) m (ap (t.names r) (sym f) ∙ e) x) (or-true (is_meeting q m.label (t.names r p)))
          ]

  -- the labels that may stand in a table are so many
  abbrev few : ℕ
  few = label_limit 2 + 1

  at_most : count few (label_used 2 p a q b) < label_limit 2 → new_label 2 p a q b < label_limit 2
  at_most l =
      let x = new_label_limit w in
      omega (arith, count_below few (new_label 2 p a q b) (label_used 2 p a q b) (omega arith) (new_label_lowest 2 p a q b))

  -- a label that both own rows have
  by_label : (s d : ℕ) → 1 ≤ s → s ≤ 2 → 1 ≤ d → d ≤ 2 → OneLabel (a.names p s) (b.names q d) → new_label 2 p a q b < label_limit 2
  by_label s d i j k l o =
      let m = o.left in
      let first = subst (NameIn 2 s) o.left_is (w.first.names_in p s w.p_from w.p_to i j) in
      let second = subst (NameIn 2 d) o.right_is (w.second.names_in q d w.q_from w.q_to k l) in
      let here = has_label_lem a p s m w.p_from w.p_to i j o.left_is first in
      let there = has_label_lem b q d o.right w.q_from w.q_to k l o.right_is second in
      let both = (and_holds (table_has 2 p q a m.label) (table_has 2 p q b m.label)).1 (here, ap (table_has 2 p q b) o.same ∙ there) in
      let limit = first.3 in
      at_most (omega (arith, count_names w few, count_some few m.label (λ k. table_has 2 p q a k && table_has 2 p q b k) (omega arith) both))

  column_never : (t : Table) → t.names p p ≡ Never → t.names q p ≡ Never → (r : ℕ) → 1 ≤ r → r ≤ 2 → t.names r p ≡ Never
  column_never t e f r i j =
      elim (ℕ_discrete r p) [
        | yes d ↦ ap (λ r. t.names r p) d ∙ e
        | no d ↦ ap (λ r. t.names r p) (is_second r i j d) ∙ f
      ]

  -- the first has no name for its own stall, so none at all
  by_first : a.names p p ≡ Never → new_label 2 p a q b < label_limit 2
  unfolding label_limit
  by_first e =
      let f = w.first.unheard_row p q w.p_from w.p_to w.q_from w.q_to e in
      let g = w.first.unheard_row q p w.q_from w.q_to w.p_from w.p_to f in
      at_most (omega (arith, count_heads w few, count_second w few, column_none few 2 p q a (column_never a e g)))

  -- the second has none for the first
  by_second : b.names q p ≡ Never → new_label 2 p a q b < label_limit 2
  unfolding label_limit
  by_second e =
      let f = w.second.unheard_row p p w.p_from w.p_to w.p_from w.p_to e in
      at_most (omega (arith, count_heads w few, count_column few 2 p q a, column_none few 2 p q b (column_never b f e)))

  -- who is decided on the first's stall knows of it
  by_verdict : undecided 2 p a q b ≡ false → new_label 2 p a q b < label_limit 2
  unfolding undecided verdict
  by_verdict decided =
      go (known 2 (a.names p) (a.order p) (b.names q) p) refl (known 2 (b.names q) (b.order p) (a.names p) p) refl (same_name (a.names p p) (b.names q p))
      (none_at 2 (λ r. eqb (verdict 2 p a q b r) 9) decided p w.p_from w.p_to)
    where
      go : (x : Bool) → known 2 (a.names p) (a.order p) (b.names q) p ≡ x → (y : Bool) → known 2 (b.names q) (b.order p) (a.names p) p ≡ y → (z : Bool)
          → eqb (judge x y z) 9 ≡ false → new_label 2 p a q b < label_limit 2
      go true e y f z d =
          elim (known_by 2 (a.names p) (a.order p) (b.names q) p e) [
            | inl i ↦ by_first i
            | inr (s, j, k, d, l, m, o) ↦ by_label s d j k l m o
          ]
      go false e true f z d =
          elim (known_by 2 (b.names q) (b.order p) (a.names p) p f) [
            | inl i ↦ by_second i
            | inr (s, j, k, d, l, m, o) ↦ by_label d s l m j k (record { left = o.right; right = o.left; left_is = o.right_is; right_is = o.left_is; same = sym o.same })
          ]
      go false e false f z d = absurd (true≢false d)

pub label_of_two : {n p : ℕ} {a : Table} {q : ℕ} {b : Table} → n ≡ 2 → Heads n p a q b → undecided n p a q b ≡ false → new_label n p a q b < label_limit 2
label_of_two {p = p} {a = a} {q = q} {b = b} e = subst (λ n. Heads n p a q b → undecided n p a q b ≡ false → new_label n p a q b < label_limit 2) (sym e) by_verdict
