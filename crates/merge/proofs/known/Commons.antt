-- A meeting that is named in column c can stand in another own row only in column c and in its partner's: two looks find it.
use Prim.Native.Nat.{ℕ, zero, suc, ◌≤◌}
use mathlib.Core.Path.{◌≡◌, refl, sym, ap, ap₂, subst, ◌∙◌}
use mathlib.Core.Bool.{Bool, true, false, ◌&&◌, ◌||◌, not, false≢true}
use mathlib.Core.Logic.{◌⊎◌, inl, inr}
use native.Mathlib.Omega.{arith}
use native.Mathlib.Decide.{dec_le}
use borrow.Author.Tests.{eqb-true, eq-eqb, ne_eqb, le-leb, lt-leb}
use lib.Dec.{eqb, leb}
use Rattle.image.specs.Stalls.{some}
use Rattle.image.specs.Row.{is_never}
use Rattle.image.specs.declared.Meet.{Meet}
use Rattle.image.specs.declared.Name.{Name}
use Rattle.image.specs.declared.Name.TheVariants.{Never, With}
use Rattle.image.proofs.Bits.{Found, at, nowhere, some_found}
use Rattle.image.proofs.Encoding.{Proper}
use Rattle.image.proofs.Passing.{or_holds}
use Rattle.merge.specs.Known.{same_meeting, common}
use Rattle.merge.specs.Verdict.{same_name}
use Rattle.merge.specs.Views.{partner_in, label_in, shared}

-- in column c it is the same name
same_column : (c : ℕ) (x y : Name) → same_meeting c x c y ≡ (not (is_never x) && same_name x y)
same_column c Never y = refl
same_column c (With m) Never = refl
same_column c (With m) (With k) =
    rw (eq-eqb c c refl)
    (go (eqb m.label k.label) (eqb m.partner k.partner) (eqb c k.partner) (eqb m.partner c)
    (λ d e. eq-eqb m.partner k.partner (eqb-true m.partner c e ∙ eqb-true c k.partner d)))
  where
    go : (l e a b : Bool) → (a ≡ true → b ≡ true → e ≡ true) → (l && (true && e || a && b)) ≡ (e && l)
    go true true a b w = refl
    go true false true true w = sym (w refl refl)
    go true false true false w = refl
    go true false false b w = refl
    go false true a b w = refl
    go false false a b w = refl

-- in the partner's column it is the meeting with c
partner_column : (c : ℕ) → 1 ≤ c → (m : Meet) (y : Name) → same_meeting c (With m) m.partner y ≡ (eqb c (partner_in y) && eqb m.label (label_in y))
partner_column c l m Never = sym (ap (λ t. t && eqb m.label 0) (ne_eqb c 0 (λ e. omega arith)))
partner_column c l m (With k) =
    rw (eq-eqb m.partner m.partner refl)
    (go (eqb m.label k.label) (eqb c m.partner) (eqb m.partner k.partner) (eqb c k.partner)
    (λ d e. eq-eqb c k.partner (eqb-true c m.partner d ∙ eqb-true m.partner k.partner e)))
  where
    go : (l a b e : Bool) → (a ≡ true → b ≡ true → e ≡ true) → (l && (a && b || e && true)) ≡ (e && l)
    go true true true e w = sym (ap (λ t. t && true) (w refl refl))
    go true true false true w = refl
    go true true false false w = refl
    go true false b true w = refl
    go true false b false w = refl
    go false a b true w = refl
    go false a b false w = refl

cross : (a b c d e : Bool) → (a && (b && c || d && e)) ≡ true → (b ≡ true) ⊎ (e ≡ true)
cross true true c d e i = inl refl
cross true false c true true i = inr refl
cross true false c true false i = absurd (false≢true i)
cross true false c false e i = absurd (false≢true i)
cross false b c d e i = absurd (false≢true i)

-- and it stands in no other
columns : (c : ℕ) (m : Meet) (d : ℕ) (y : Name) → same_meeting c (With m) d y ≡ true → (c ≡ d) ⊎ (m.partner ≡ d)
columns c m d Never e = absurd (false≢true e)
columns c m d (With k) e =
    elim (cross (eqb m.label k.label) (eqb c d) (eqb m.partner k.partner) (eqb c k.partner) (eqb m.partner d) e) [
      | inl i ↦ inl (eqb-true c d i)
      | inr i ↦ inr (eqb-true m.partner d i)
    ]

module _ (n c : ℕ) (from : 1 ≤ c) (to : c ≤ n) (theirs : ℕ → Name) (m : Meet) (partner : m.partner ≡ 0 → ⊥) where
  -- the two looks
  abbrev here : Bool
  here = same_name (With m) (theirs c)

  abbrev there : Bool
  there = eqb c (partner_in (theirs m.partner)) && eqb m.label (label_in (theirs m.partner))

  here_is : {t : Bool} → same_meeting c (With m) c (theirs c) ≡ t → here ≡ t
  here_is e = sym (same_column c (With m) (theirs c)) ∙ e

  there_is : {t : Bool} → same_meeting c (With m) m.partner (theirs m.partner) ≡ t → there ≡ t
  there_is e = sym (partner_column c from m (theirs m.partner)) ∙ e

  looks : (t : Bool) → Found n (λ d. same_meeting c (With m) d (theirs d)) t → (here || leb m.partner n && there) ≡ t
  looks t (at d p q e) =
      let found : (k : ℕ) → k ≡ d → same_meeting c (With m) k (theirs k) ≡ true = λ k i. subst (λ k. same_meeting c (With m) k (theirs k) ≡ true) (sym i) e in
      elim (columns c m d (theirs d) e) [
        | inl i ↦ (or_holds here _).1 (inl (here_is (found c i)))
        | inr i ↦ (or_holds here _).1 (inr (ap₂ ◌&&◌ (le-leb m.partner n (omega arith)) (there_is (found m.partner i))))
      ]
  looks t (nowhere g) =
      ap₂ ◌||◌ (here_is (g c from to))
      (elim (dec_le m.partner n) [
        | yes l ↦ ap₂ ◌&&◌ (le-leb m.partner n l) (there_is (g m.partner (omega arith) l))
        | no l ↦ ap (λ t. t && there) (lt-leb m.partner n (omega arith))
      ])

nowhere_none : (n : ℕ) → some n (λ d. false) ≡ false
unfolding some
nowhere_none zero = refl
nowhere_none (suc n) = nowhere_none n

pub shared_common : (n c : ℕ) (mine theirs : ℕ → Name) → 1 ≤ c → c ≤ n → Proper (mine c) → shared n c (mine c) (theirs c) theirs ≡ common n mine theirs c
unfolding shared common
shared_common n c mine theirs a b w = go (mine c) w
  where
    go : (x : Name) → Proper x
        → (not (is_never x) && (same_name x (theirs c) || leb (partner_in x) n && (eqb c (partner_in (theirs (partner_in x))) && eqb (label_in x) (label_in (theirs (partner_in x))))))
        ≡ some n (λ d. same_meeting c x d (theirs d))
    go Never i = sym (nowhere_none n)
    go (With m) i = looks n c a b theirs m i _ (some_found n (λ d. same_meeting c (With m) d (theirs d)))
