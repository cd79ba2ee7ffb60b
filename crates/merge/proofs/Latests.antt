-- The new list of latests: the name of one that met is the new meeting's, that of any other the supplier's.
use Prim.Native.Nat.{ℕ}
use mathlib.Core.Path.{◌≡◌, refl, sym, ◌∙◌}
use mathlib.Core.Bool.{Bool, true, false, ◌||◌, not, cond, true≢false}
use native.Mathlib.Omega.{arith}
use lib.Dec.{eqb}
use Rattle.image.specs.Encode.{Table}
use Rattle.image.specs.Row.{is_never}
use Rattle.image.specs.declared.Meet.{Meet}
use Rattle.image.specs.declared.Name.{Name}
use Rattle.image.specs.declared.Name.TheVariants.{Never, With}
use Rattle.merge.specs.Label.{new_label}
use Rattle.merge.specs.Merged.{met, supplier, supplier_stall, latest_name}

pub pick : {A : Type 0} (P : A → Type 0) (x y : Bool) (u v z : A) → (x ≡ true → P u) → (y ≡ true → P v) → ((x || y) ≡ false → P z) → P (cond x u (cond y v z))
pick P true y u v z f g h = f refl
pick P false true u v z f g h = g refl
pick P false false u v z f g h = h refl

pub pick_neither : {A : Type 0} (x y : Bool) (u v z : A) → (x || y) ≡ false → cond x u (cond y v z) ≡ z
pick_neither true y u v z e = absurd (true≢false e)
pick_neither false true u v z e = absurd (true≢false e)
pick_neither false false u v z e = refl

pub never_with : {m : Meet} → With m ≡ Never → ⊥
never_with e = let z : ◌≡◌ {A = ℕ} 0 1 = cc in omega arith

pub not_never : (x : Name) → (x ≡ Never → ⊥) → not (is_never x) ≡ true
not_never Never h = absurd (h refl)
not_never (With m) h = refl

module _ (n p : ℕ) (a : Table) (q : ℕ) (b : Table) where
  abbrev pub new_name : ℕ → Name
  new_name partner = With (record { partner = partner; label = new_label n p a q b })

  pub latest_met : (r : ℕ) → met n p a q b r ≡ true → latest_name n p a q b r ≡ Never → ⊥
  unfolding latest_name
  latest_met r e =
      pick (λ x. x ≡ Never → ⊥) (eqb r p) (eqb r q) (new_name q) (new_name p) ((supplier n p a q b r).names (supplier_stall n p a q b r) r)
      (λ i. never_with)
      (λ i. never_with)
      (λ i. absurd (true≢false (sym e ∙ i)))

  pub latest_other : (r : ℕ) → met n p a q b r ≡ false → latest_name n p a q b r ≡ (supplier n p a q b r).names (supplier_stall n p a q b r) r
  unfolding latest_name
  latest_other r e = pick_neither (eqb r p) (eqb r q) (new_name q) (new_name p) ((supplier n p a q b r).names (supplier_stall n p a q b r) r) e
