-- Which heads take part in an item, and when two items have none in common.
use Prim.Native.Nat.{ℕ}
use mathlib.Core.Path.{◌≡◌, refl, sym, subst, ◌∙◌}
use mathlib.Core.Bool.{Bool, true, false}
use mathlib.Core.List.{List}
use mathlib.Core.Logic.{◌⊎◌, inl, inr}
use borrow.Author.Tests.{eq-eqb, ne_eqb, eqb-true}
use lib.Dec.{eqb}
use Rattle.image.proofs.Passing.{or_holds, or_fails}
use Rattle.parlour.specs.Item.{Item, milking, meeting}
use Rattle.traces.specs.Own.{is_of, Independent}

-- the heads of an item take part in it
pub of_first : (p q : ℕ) (b : List ℕ) → is_of (meeting p q b) p ≡ true
unfolding is_of
of_first p q b = (or_holds (eqb p p) (eqb q p)).1 (inl (eq-eqb p p refl))

pub of_second : (p q : ℕ) (b : List ℕ) → is_of (meeting p q b) q ≡ true
unfolding is_of
of_second p q b = (or_holds (eqb p q) (eqb q q)).1 (inr (eq-eqb q q refl))

pub of_stall : (stall y : ℕ) → is_of (milking stall y) stall ≡ true
unfolding is_of
of_stall stall y = eq-eqb stall stall refl

-- and there are no others
abbrev pub EachHead : (ℕ → Type 0) → Item → Type 0
EachHead P (milking stall yield) = P stall
EachHead P (meeting p q buffer) = P p × P q

pub of_each : (P : ℕ → Type 0) (a : Item) → EachHead P a → (r : ℕ) → is_of a r ≡ true → P r
unfolding is_of
of_each P (milking stall y) x r o = subst P (eqb-true stall r o) x
of_each P (meeting p q b) (x, y) r o =
    elim ((or_holds (eqb p r) (eqb q r)).0 o) [ inl e ↦ subst P (eqb-true p r e) x | inr e ↦ subst P (eqb-true q r e) y ]

-- an item has a head
unfoldable pub head_of : Item → ℕ
head_of (milking stall yield) = stall
head_of (meeting p q buffer) = p

pub head_of_lem : (a : Item) → is_of a (head_of a) ≡ true
unfolding head_of
head_of_lem (milking stall yield) = of_stall stall yield
head_of_lem (meeting p q buffer) = of_first p q buffer

pub independent_sym : {a b : Item} → Independent a b → Independent b a
independent_sym {a} {b} w = record { apart = λ r e. go r (is_of a r) refl e }
  where
    go : (r : ℕ) (t : Bool) → is_of a r ≡ t → is_of b r ≡ true → t ≡ false
    go r true i e = sym e ∙ w.apart r i
    go r false i e = refl

-- two meetings of four different heads have none in common
pub four_heads : {p q r s : ℕ} (b c : List ℕ) → (p ≡ r → ⊥) → (p ≡ s → ⊥) → (q ≡ r → ⊥) → (q ≡ s → ⊥) → Independent (meeting p q b) (meeting r s c)
unfolding is_of
four_heads {p} {q} {r} {s} b c p_r p_s q_r q_s =
    let neither : (z : ℕ) → (z ≡ r → ⊥) → (z ≡ s → ⊥) → is_of (meeting r s c) z ≡ false = λ z f g.
    (or_fails (eqb r z) (eqb s z)).1 (ne_eqb r z (λ e. f (sym e)), ne_eqb s z (λ e. g (sym e))) in
    record { apart = of_each (λ z. is_of (meeting r s c) z ≡ false) (meeting p q b) (neither p p_r p_s, neither q q_r q_s) }

-- two items have a head in common or not
abbrev pub Common : Item → Item → Type 0
Common a c = (r : ℕ) × (is_of a r ≡ true) × (is_of c r ≡ true)

pub common : (a c : Item) → Common a c ⊎ Independent a c
common (milking stall y) c = go (is_of c stall) refl
  where
    go : (x : Bool) → is_of c stall ≡ x → Common (milking stall y) c ⊎ Independent (milking stall y) c
    go true e = inl (stall, of_stall stall y, e)
    go false e = inr (record { apart = of_each (λ r. is_of c r ≡ false) (milking stall y) e })
common (meeting p q b) c = go (is_of c p) (is_of c q) refl refl
  where
    go : (x y : Bool) → is_of c p ≡ x → is_of c q ≡ y → Common (meeting p q b) c ⊎ Independent (meeting p q b) c
    go true y e f = inl (p, of_first p q b, e)
    go false true e f = inl (q, of_second p q b, f)
    go false false e f = inr (record { apart = of_each (λ r. is_of c r ≡ false) (meeting p q b) (e, f) })
