-- What a meeting makes of two tables of one history is the table of the history with that meeting.
use Prim.Native.Nat.{ℕ, zero, suc, max, ◌≤◌, ◌<◌}
use mathlib.Core.Path.{◌≡◌, refl, sym, ap, ap₂, subst, ◌∙◌}
use mathlib.Core.Bool.{Bool, true, false, ◌&&◌, ◌||◌, not, cond, true≢false, false≢true}
use mathlib.Core.Logic.{◌⊎◌, inl, inr}
use native.Mathlib.Omega.{arith}
use borrow.Author.Tests.{eq-eqb, ne_eqb, eqb-true}
use lib.Dec.{T, eqb}
use Rattle.causality.specs.Event.{History, Of}
use Rattle.causality.specs.Past.{Past}
use Rattle.causality.specs.Clock.{latest, latest_in, in_past}
use Rattle.causality.specs.Best.{newer, best}
use Rattle.causality.specs.Meetings.{meeting, Joins}
use Rattle.causality.proofs.Events.{of_first, of_second, of_either, of_cases}
use Rattle.causality.proofs.Pasts.{past_le, last_joined}
use Rattle.causality.proofs.Clocks.{latest_own, latest_max, latest_self, latest_le, latest_view, past_test}
use Rattle.causality.proofs.Newer.{Newer, by_first, by_second, by_neither, newer_is}
use Rattle.causality.proofs.Knowledge.{unordered}
use Rattle.labels.specs.Label.{label}
use Rattle.labels.specs.Name.{partner_of}
use Rattle.labels.proofs.Pairs.{partner_first, partner_second}
use Rattle.image.specs.Encode.{Table}
use Rattle.image.proofs.Passing.{or_holds}
use Rattle.image.specs.declared.Name.{Name}
use Rattle.image.specs.declared.Name.TheVariants.{With}
use Rattle.image.specs.Row.{is_never}
use Rattle.merge.specs.Verdict.{verdict}
use Rattle.merge.specs.Label.{new_label}
use Rattle.merge.specs.Merged.{met, first_has, second_has, supplier, supplier_stall, latest_name, merged_names, merged_yields, order_between, merged_order, merged}
use Rattle.parlour.specs.Table.{name_in}
use Rattle.parlour.proofs.Names.{never_is}
use Rattle.parlour.proofs.Says.{Says, own_names}
use Rattle.parlour.proofs.Verdicts.{T_true, verdict_best}
use Rattle.parlour.proofs.NewLabels.{new_label_label}

-- the first has it, or shares it, unless the verdict is 2; the second, unless it is 1
newer_not_second : (x y : ℕ) (t : Bool) → not (eqb (newer x y) 2) ≡ t → cond t (y ≤ x) (x < y)
newer_not_second x y t = go (newer_is x y) t
  where
    go : {k : ℕ} → Newer x y k → (t : Bool) → not (eqb k 2) ≡ t → cond t (y ≤ x) (x < y)
    go (by_first l) true e = omega arith
    go (by_second l) true e = absurd (false≢true e)
    go (by_neither i) true e = omega arith
    go (by_first l) false e = absurd (true≢false e)
    go (by_second l) false e = l
    go (by_neither i) false e = absurd (true≢false e)

newer_not_first : (x y : ℕ) (t : Bool) → not (eqb (newer x y) 1) ≡ t → cond t (x ≤ y) (y < x)
newer_not_first x y t = go (newer_is x y) t
  where
    go : {k : ℕ} → Newer x y k → (t : Bool) → not (eqb k 1) ≡ t → cond t (x ≤ y) (y < x)
    go (by_first l) true e = absurd (false≢true e)
    go (by_second l) true e = omega arith
    go (by_neither i) true e = omega arith
    go (by_first l) false e = l
    go (by_second l) false e = absurd (true≢false e)
    go (by_neither i) false e = absurd (true≢false e)

past_false : (h : History) (x y : ℕ) → (Past h x y → ⊥) → in_past h x y ≡ false
past_false h x y f = go (in_past h x y) refl
  where
    go : (t : Bool) → in_past h x y ≡ t → t ≡ false
    go true e = absurd (f ((past_test h x y).0 (subst T (sym e) tt)))
    go false e = refl

or_false : (b : Bool) → (b || false) ≡ b
or_false true = refl
or_false false = refl

module _ (n : ℕ) (h : History) (joins : (k : ℕ) → Joins n (h k)) (m : ℕ) {at : ℕ → ℕ → ℕ} {a b : Table}
    (v : Says n h at m (h m).first a) (w : Says n h at m (h m).second b) (z : ℕ) (takes : Of h z (suc m)) where
  abbrev p : ℕ
  p = (h m).first

  abbrev q : ℕ
  q = (h m).second

  -- the latest of r for the one and the other before the meeting, and for both afterwards
  abbrev one : ℕ → ℕ
  one r = latest h m p r

  abbrev other : ℕ → ℕ
  other r = latest h m q r

  abbrev next : ℕ → ℕ
  next r = latest h (suc m) z r

  met_of : (r : ℕ) → met n p a q b r ≡ true → Of h r (suc m)
  met_of r e = elim ((or_holds (eqb r p) (eqb r q)).0 e) [ inl f ↦ of_either (inl (sym (eqb-true r p f))) | inr f ↦ of_either (inr (sym (eqb-true r q f))) ]

  of_met : (r : ℕ) → met n p a q b r ≡ false → Of h r (suc m) → ⊥
  of_met r e o = true≢false (sym ((or_holds (eqb r p) (eqb r q)).1 (go (of_cases o))) ∙ e)
    where
      go : (p ≡ r) ⊎ (q ≡ r) → (eqb r p ≡ true) ⊎ (eqb r q ≡ true)
      go (inl i) = inl (eq-eqb r p (sym i))
      go (inr i) = inr (eq-eqb r q (sym i))

  next_met : (r : ℕ) → met n p a q b r ≡ true → next r ≡ suc m
  next_met r e = latest_own h m z r takes (met_of r e)

  next_other : (r : ℕ) → met n p a q b r ≡ false → next r ≡ max (one r) (other r)
  next_other r e = latest_max h m z r takes (of_met r e)

  -- whose news of r is used, by the order of the two latests
  judged : (r : ℕ) → 1 ≤ r → r ≤ n → verdict n p a q b r ≡ best h m p q r
  judged = verdict_best n h joins m v w (joins m).first_from (joins m).first_to (joins m).second_from (joins m).second_to

  first_has_lem : (r : ℕ) → 1 ≤ r → r ≤ n → (t : Bool) → first_has n p a q b r ≡ t → cond t (other r ≤ one r) (one r < other r)
  unfolding best
  first_has_lem r i j t e = newer_not_second (one r) (other r) t (ap (λ x. not (eqb x 2)) (sym (judged r i j)) ∙ e)

  second_has_lem : (r : ℕ) → 1 ≤ r → r ≤ n → (t : Bool) → second_has n p a q b r ≡ t → cond t (one r ≤ other r) (other r < one r)
  unfolding best
  second_has_lem r i j t e = newer_not_first (one r) (other r) t (ap (λ x. not (eqb x 1)) (sym (judged r i j)) ∙ e)

  -- what each of the two says of its latest of another stall, their supplier says of the next latest
  supplied : (P : Table → ℕ → ℕ → Type 0) (r : ℕ) → 1 ≤ r → r ≤ n → met n p a q b r ≡ false → P a p (one r) → P b q (other r)
      → P (supplier n p a q b r) (supplier_stall n p a q b r) (next r)
  supplied P r i j e x y = go (first_has n p a q b r) refl
    where
      go : (t : Bool) → first_has n p a q b r ≡ t → P (cond t a b) (cond t p q) (next r)
      go true f = let d : one r ≡ next r = omega (arith, next_other r e, first_has_lem r i j true f) in subst (P a p) d x
      go false f = let d : other r ≡ next r = omega (arith, next_other r e, first_has_lem r i j false f) in subst (P b q) d y

  -- the new list of latests
  latest_names : (r : ℕ) → 1 ≤ r → r ≤ n → latest_name n p a q b r ≡ name_in n h r (next r)
  unfolding latest_name name_in
  latest_names r i j = go (eqb r p) (eqb r q) refl refl
    where
      rest : Name
      rest = (supplier n p a q b r).names (supplier_stall n p a q b r) r

      new : (c d : ℕ) → r ≡ c → Of h c (suc m) → partner_of h (suc m) c ≡ d → With (record { partner = d; label = new_label n p a q b }) ≡ name_in n h r (next r)
      new c d e o f =
          ap₂ (λ x y. With (record { partner = x; label = y })) (sym f ∙ ap (partner_of h (suc m)) (sym e)) (new_label_label n h joins m v w)
          ∙ ap (name_in n h r) (sym (latest_own h m z r takes (subst (λ x. Of h x (suc m)) (sym e) o)))

      go : (x y : Bool) → eqb r p ≡ x → eqb r q ≡ y
          → cond x (With (record { partner = q; label = new_label n p a q b })) (cond y (With (record { partner = p; label = new_label n p a q b })) rest) ≡ name_in n h r (next r)
      go true y e f = new p q (eqb-true r p e) (of_first h m) (partner_first h m)
      go false true e f = new q p (eqb-true r q f) (of_second h m) (partner_second h m (joins m).different)
      go false false e f =
          supplied (λ t s x. t.names s r ≡ name_in n h r x) r i j (ap₂ ◌||◌ e f)
          (own_names v (joins m).first_from (joins m).first_to r i j) (own_names w (joins m).second_from (joins m).second_to r i j)

  next_names : (s r : ℕ) → 1 ≤ s → s ≤ n → 1 ≤ r → r ≤ n → merged_names n p a q b s r ≡ name_in n h r (latest_in h (next s) r)
  unfolding merged_names
  next_names s r i j k l = go (met n p a q b s) refl
    where
      go : (t : Bool) → met n p a q b s ≡ t → cond t (latest_name n p a q b r) ((supplier n p a q b s).names s r) ≡ name_in n h r (latest_in h (next s) r)
      go true e =
          let same : next r ≡ latest_in h (next s) r = latest_self h (suc m) z r ∙ ap (λ x. latest_in h x r) (latest_own h m z z takes takes ∙ sym (next_met s e)) in
          latest_names r k l ∙ ap (name_in n h r) same
      go false e = supplied (λ t c x. t.names s r ≡ name_in n h r (latest_in h x r)) s i j e (v.names s r i j k l) (w.names s r i j k l)

  -- the yields at the meeting are the current ones
  next_yields : at (suc m) p ≡ a.current → at (suc m) q ≡ b.current → (r : ℕ) → 1 ≤ r → r ≤ n → merged_yields n p a q b r ≡ at (next r) r
  unfolding merged_yields
  next_yields x y r i j = go (eqb r p) (eqb r q) refl refl
    where
      new : (c : ℕ) → r ≡ c → Of h c (suc m) → at (suc m) c ≡ at (next r) r
      new c e o = ap₂ at (sym (latest_own h m z r takes (subst (λ x. Of h x (suc m)) (sym e) o))) (sym e)

      go : (t u : Bool) → eqb r p ≡ t → eqb r q ≡ u → cond t a.current (cond u b.current ((supplier n p a q b r).yields r)) ≡ at (next r) r
      go true u e f = sym x ∙ new p (eqb-true r p e) (of_first h m)
      go false true e f = sym y ∙ new q (eqb-true r q f) (of_second h m)
      go false false e f = supplied (λ t c x. t.yields r ≡ at x r) r i j (ap₂ ◌||◌ e f) (v.yields r i j) (w.yields r i j)

  -- marks between two others: a latest that the one alone has newer lies in the past of nothing that the other has
  next_between : (r s : ℕ) → 1 ≤ r → r ≤ n → 1 ≤ s → s ≤ n → met n p a q b r ≡ false → met n p a q b s ≡ false
      → order_between n p a q b r s ≡ in_past h (next r) (next s)
  next_between r s i j k l d e =
      go (first_has n p a q b r) (first_has n p a q b s) (second_has n p a q b r) (second_has n p a q b s)
      (first_has_lem r i j _ refl) (first_has_lem s k l _ refl) (second_has_lem r i j _ refl) (second_has_lem s k l _ refl)
    where
      at_next : (x y : ℕ) → x ≡ next r → y ≡ next s → in_past h x y ≡ in_past h (next r) (next s)
      at_next x y f g = ap₂ (in_past h) f g

      from_second_lem : one r ≤ other r → one s ≤ other s → b.order r s ≡ in_past h (next r) (next s)
      from_second_lem f g = w.order r s i j k l ∙ at_next (other r) (other s) (omega (arith, next_other r d)) (omega (arith, next_other s e))

      go : (t u x y : Bool) → cond t (other r ≤ one r) (one r < other r) → cond u (other s ≤ one s) (one s < other s)
          → cond x (one r ≤ other r) (other r < one r) → cond y (one s ≤ other s) (other s < one s)
          → (t && u && a.order r s || not (t && u) && (x && y) && b.order r s) ≡ in_past h (next r) (next s)
      go true true x y f g f' g' =
          or_false (a.order r s) ∙ v.order r s i j k l ∙ at_next (one r) (one s) (omega (arith, next_other r d)) (omega (arith, next_other s e))
      go true false false y f g f' g' =
          sym (past_false h (one r) (other s) (unordered h m p q r s f')) ∙ at_next (one r) (other s) (omega (arith, next_other r d)) (omega (arith, next_other s e))
      go true false true false f g f' g' = absurd (omega (arith, g, g'))
      go true false true true f g f' g' = from_second_lem f' g'
      go false true true false f g f' g' =
          sym (past_false h (other r) (one s) (unordered h m q p r s f)) ∙ at_next (other r) (one s) (omega (arith, next_other r d)) (omega (arith, next_other s e))
      go false u true true f g f' g' = from_second_lem f' g'
      go false false true false f g f' g' = absurd (omega (arith, g, g'))
      go false u false y f g f' g' = absurd (omega (arith, f, f'))

  next_order : (r s : ℕ) → 1 ≤ r → r ≤ n → 1 ≤ s → s ≤ n → merged_order n p a q b r s ≡ in_past h (next r) (next s)
  unfolding merged_order in_past
  next_order r s i j k l = go (met n p a q b s) (met n p a q b r) refl refl
    where
      heard : (x : ℕ) → next r ≡ x → not (eqb x 0) ≡ in_past h x (suc m)
      heard zero f = refl
      heard (suc x) f =
          ap not (ne_eqb (suc x) 0 (λ c. omega arith))
          ∙ sym (T_true _ ((past_test h (suc x) (suc m)).1 (subst (λ y. Past h y (suc m)) f
          (subst (Past h (next r)) (last_joined takes) (latest_view h (suc m) z r (omega (arith, f)))))))

      go : (t u : Bool) → met n p a q b s ≡ t → met n p a q b r ≡ u
          → cond t (not (is_never (latest_name n p a q b r))) (not u && order_between n p a q b r s) ≡ in_past h (next r) (next s)
      go true u e d = ap (λ x. not (is_never x)) (latest_names r i j) ∙ ap not (never_is n h r (next r)) ∙ heard (next r) refl ∙ ap (in_past h (next r)) (sym (next_met s e))
      go false true e d =
          sym (past_false h (next r) (next s) (λ c. omega (arith, past_le c, next_met r d, next_other s e, latest_le h m p s, latest_le h m q s)))
      go false false e d = next_between r s i j k l d e

  -- so each of the two says what the history says
  pub merged_says : at (suc m) (h m).first ≡ a.current → at (suc m) (h m).second ≡ b.current → (current : ℕ)
      → Says n h at (suc m) z (merged n (h m).first a (h m).second b current)
  unfolding merged
  merged_says x y current = record { names = next_names; yields = next_yields x y; order = next_order }

-- the same with the two by name
module _ (n : ℕ) (h : History) (joins : (k : ℕ) → Joins n (h k)) (m : ℕ) {at : ℕ → ℕ → ℕ} {a b : Table} {p q : ℕ} (e : h m ≡ meeting p q)
    (v : Says n h at m p a) (w : Says n h at m q b) where
  pub meeting_label : new_label n p a q b ≡ label n h (suc m)
  unfolding meeting
  meeting_label =
      subst (λ x. Says n h at m x.first a → Says n h at m x.second b → new_label n x.first a x.second b ≡ label n h (suc m)) e
      (new_label_label n h joins m) v w

  pub meeting_says : (z : ℕ) → Of h z (suc m) → at (suc m) p ≡ a.current → at (suc m) q ≡ b.current → (current : ℕ)
      → Says n h at (suc m) z (merged n p a q b current)
  unfolding meeting
  meeting_says z takes =
      subst
      (λ x. Says n h at m x.first a → Says n h at m x.second b → at (suc m) x.first ≡ a.current → at (suc m) x.second ≡ b.current
      → (current : ℕ) → Says n h at (suc m) z (merged n x.first a x.second b current)) e
      (λ f g. merged_says n h joins m f g z takes) v w
