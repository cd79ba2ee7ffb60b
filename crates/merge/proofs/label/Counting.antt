-- How many labels the names of a pair have: each name has one, so two columns of n rows in two tables have at most 4 × n, and two fewer where in each
-- table two rows agree on the latest of the partner.
use Prim.Native.Nat.{ℕ, zero, suc, ◌+◌, ◌≤◌, ◌<◌}
use mathlib.Core.Path.{◌≡◌, refl, sym, ap, ◌∙◌, fun_ext}
use mathlib.Core.Bool.{Bool, true, false, ◌&&◌, ◌||◌, cond}
use native.Mathlib.Omega.{arith}
use native.Mathlib.Decide.{dec_lt, ℕ_discrete}
use borrow.Author.Tests.{eqb-true, ne_eqb}
use lib.Dec.{eqb}
use Rattle.image.specs.Stalls.{some, count}
use Rattle.image.specs.Layout.{label_limit}
use Rattle.image.specs.Encode.{Table}
use Rattle.image.specs.declared.Name.{Name}
use Rattle.image.specs.declared.Name.TheVariants.{Never, With}
use Rattle.image.proofs.Search.{some_or}
use Rattle.image.proofs.Passing.{some_more}
use Rattle.image.proofs.Counts.{count_below, count_none}
use Rattle.merge.specs.Label.{is_meeting, row_has, label_used, pair_names}
use Rattle.merge.proofs.Heads.{Heads}

-- one test or the other, and both
count_or : (t : ℕ) (u v : ℕ → Bool) → count t (λ k. u k || v k) + count t (λ k. u k && v k) ≡ count t u + count t v
unfolding count
count_or zero u v = refl
count_or (suc t) u v = go (u t) (v t) (count t (λ k. u k || v k)) (count t (λ k. u k && v k)) (count t u) (count t v) (count_or t u v)
  where
    go : (a b : Bool) (x y z w : ℕ) → x + y ≡ z + w → x + cond (a || b) 1 0 + (y + cond (a && b) 1 0) ≡ z + cond a 1 0 + (w + cond b 1 0)
    go true true x y z w e = omega arith
    go true false x y z w e = omega arith
    go false true x y z w e = omega arith
    go false false x y z w e = omega arith

-- a test that one number passes
count_one : (t l : ℕ) → count t (eqb l) ≤ 1
unfolding count
count_one zero l = omega arith
count_one (suc t) l = go (eqb l t) refl (count_one t l)
  where
    go : (b : Bool) → eqb l t ≡ b → count t (eqb l) ≤ 1 → count t (eqb l) + cond b 1 0 ≤ 1
    go true e p = omega (arith, count_none t (eqb l) (λ k q. ne_eqb l k (λ i. omega (arith, eqb-true l t e))))
    go false e p = omega arith

-- a name has one label
count_meeting : (t partner : ℕ) (x : Name) → count t (λ k. is_meeting partner k x) ≤ 1
count_meeting t partner Never = omega (arith, count_none t (λ k. false) (λ k l. refl))
count_meeting t partner (With m) = go (eqb m.partner partner)
  where
    go : (b : Bool) → count t (λ k. b && eqb m.label k) ≤ 1
    go true = count_one t m.label
    go false = omega (arith, count_none t (λ k. false) (λ k l. refl))

count_rows : (t n : ℕ) (f : ℕ → ℕ → Bool) → ((r : ℕ) → count t (λ k. f k r) ≤ 1) → count t (λ k. some n (f k)) ≤ n
unfolding some
count_rows t zero f g = omega (arith, count_none t (λ k. false) (λ k l. refl))
count_rows t (suc n) f g =
    omega (arith, count_or t (λ k. f k (suc n)) (λ k. some n (f k)), g (suc n), count_rows t n f g)

-- of n rows two that are equal count once
count_but : (t n x y : ℕ) (f : ℕ → ℕ → Bool) → ((r : ℕ) → count t (λ k. f k r) ≤ 1) → 1 ≤ x → x < y → y ≤ n → ((k : ℕ) → f k y ≡ f k x)
    → count t (λ k. some n (f k)) + 1 ≤ n
unfolding some
count_but t zero x y f g i j l e = absurd (omega arith)
count_but t (suc n) x y f g i j l e =
    elim (ℕ_discrete y (suc n)) [
      | yes d ↦
          let twice : (k : ℕ) → (f k (suc n) || some n (f k)) ≡ some n (f k) = λ k.
          ap (λ b. b || some n (f k)) (ap (f k) (sym d) ∙ e k) ∙ some_more n (f k) x i (omega arith) in
          omega (arith, ap (count t) (fun_ext twice), count_rows t n f g)
      | no d ↦ omega (arith, count_or t (λ k. f k (suc n)) (λ k. some n (f k)), g (suc n), count_but t n x y f g i j (omega arith) e)
    ]

-- column c names a meeting with this partner that has label k, in some row
abbrev pub column_has : ℕ → ℕ → ℕ → Table → ℕ → Bool
column_has n c partner a k = some n (λ r. is_meeting partner k (a.names r c))

pub count_column : (t n c partner : ℕ) (a : Table) → count t (column_has n c partner a) ≤ n
count_column t n c partner a = count_rows t n (λ k r. is_meeting partner k (a.names r c)) (λ r. count_meeting t partner (a.names r c))

-- the latest of the partner, in column c, stands in two rows, the own one and the partner's
count_partner : (t n own c : ℕ) (a : Table) → 1 ≤ own → own ≤ n → 1 ≤ c → c ≤ n → (own ≡ c → ⊥) → a.names c c ≡ a.names own c
    → count t (column_has n c own a) + 1 ≤ n
count_partner t n own c a i j k l differ e =
    let f : ℕ → ℕ → Bool = λ k r. is_meeting own k (a.names r c) in
    let g : (r : ℕ) → count t (λ k. f k r) ≤ 1 = λ r. count_meeting t own (a.names r c) in
    elim (dec_lt own c) [
      | yes z ↦ count_but t n own c f g i z l (λ k. ap (is_meeting own k) e)
      | no z ↦ count_but t n c own f g k (omega (arith, differ)) j (λ k. ap (is_meeting own k) (sym e))
    ]

-- the names of the pair stand in two columns of each table
count_some_or : (t n : ℕ) (f g : ℕ → ℕ → Bool)
    → count t (λ k. some n (λ r. f k r || g k r)) + count t (λ k. some n (f k) && some n (g k)) ≡ count t (λ k. some n (f k)) + count t (λ k. some n (g k))
count_some_or t n f g =
    ap (λ u. count t u + count t (λ k. some n (f k) && some n (g k))) (fun_ext (λ k. sym (some_or n (f k) (g k)))) ∙ count_or t (λ k. some n (f k)) (λ k. some n (g k))

-- some row of the table has label k
abbrev pub table_has : ℕ → ℕ → ℕ → Table → ℕ → Bool
table_has n p q a k = some n (row_has p q a k)

count_table : (t n p q : ℕ) (a : Table) → count t (table_has n p q a) ≤ count t (column_has n p q a) + count t (column_has n q p a)
count_table t n p q a = omega (arith, count_some_or t n (λ k r. is_meeting q k (a.names r p)) (λ k r. is_meeting p k (a.names r q)))

count_used : (t n p : ℕ) (a : Table) (q : ℕ) (b : Table)
    → count t (label_used n p a q b) + count t (λ k. table_has n p q a k && table_has n p q b k) ≡ count t (table_has n p q a) + count t (table_has n p q b)
unfolding label_used
count_used t n p a q b = count_some_or t n (row_has p q a) (row_has p q b)

-- so of any two tables not all of 0 to 4 × n are used
pub not_all_used : (n p : ℕ) (a : Table) (q : ℕ) (b : Table) → ((k : ℕ) → k < pair_names n + 1 → label_used n p a q b k ≡ true) → ⊥
not_all_used n p a q b f =
    let t = pair_names n + 1 in
    omega (
      arith,
      count_below t t (label_used n p a q b) (omega arith) f,
      count_used t n p a q b,
      count_table t n p q a,
      count_column t n p q a,
      count_column t n q p a,
      count_table t n p q b,
      count_column t n p q b,
      count_column t n q p b,
    )

-- Two tables that are well made

module _ {n p : ℕ} {a : Table} {q : ℕ} {b : Table} (w : Heads n p a q b) (t : ℕ) where
  -- by what column p has, and what both tables have
  pub count_heads : count t (label_used n p a q b) + count t (λ k. table_has n p q a k && table_has n p q b k) + 1
      ≤ count t (column_has n p q a) + n + (count t (column_has n p q b) + n)
  count_heads =
      omega (
        arith,
        count_used t n p a q b,
        count_table t n p q a,
        count_partner t n p q a w.p_from w.p_to w.q_from w.q_to w.differ (w.first.diagonal q w.q_from w.q_to),
        count_table t n p q b,
        count_column t n q p b,
      )

  pub count_second : count t (column_has n p q b) + 1 ≤ n
  count_second = count_partner t n q p b w.q_from w.q_to w.p_from w.p_to (λ e. w.differ (sym e)) (w.second.diagonal p w.p_from w.p_to)

  -- two fewer than of any two tables, and one fewer still for a label that both have
  pub count_names : count t (label_used n p a q b) + count t (λ k. table_has n p q a k && table_has n p q b k) ≤ label_limit n
  unfolding label_limit
  count_names = omega (arith, count_heads, count_column t n p q a, count_second)
