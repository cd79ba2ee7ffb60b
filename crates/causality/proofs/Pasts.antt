-- Pasts and views: past is reflexive and transitive, events of one process are comparable, and what one more event adds.
use Prim.Native.Nat.{ℕ, suc, ◌≤◌, ◌<◌}
use mathlib.Core.Path.{◌≡◌, refl, sym, subst}
use mathlib.Core.Logic.{◌↔◌, ◌⊎◌, inl, inr}
use native.Mathlib.Omega.{arith}
use native.Mathlib.Decide.{dec_lt}
use Rattle.causality.specs.Event.{History, Of, takes_part}
use Rattle.causality.specs.Past.{Link, here, on, Past, last, View}
use Rattle.causality.specs.Latest.{Newest}
use Rattle.causality.proofs.Newest.{newest_test, newest_ge, newest_unique, newest_suc_yes, newest_suc_no}
use Rattle.causality.proofs.Events.{of_pos, of_first, of_second, of_cases, of_test}

module _ {h : History} where
  pub past_pos : {x y : ℕ} → Past h x y → 0 < x
  past_pos (here l) = l
  past_pos (on c k) = past_pos c

  pub past_le : {x y : ℕ} → Past h x y → x ≤ y
  past_le (here l) = omega arith
  past_le (on c k) = omega (arith, past_le c, k.ascends)

  pub past_refl : {r x : ℕ} → Of h r x → Past h x x
  past_refl o = here (of_pos o)

  pub past_trans : {x y z : ℕ} → Past h x y → Past h y z → Past h x z
  past_trans c (here l) = c
  past_trans c (on d k) = on (past_trans c d) k

  linked : {r x y : ℕ} → Of h r x → Of h r y → x < y → Link h x y
  linked {r} o q a = record { process = r; of_older = search; of_newer = search; ascends = a }

  -- of two events of one process the older lies in the past of the newer
  pub comparable : {r x y : ℕ} → Of h r x → Of h r y → x ≤ y → Past h x y
  comparable {r} {x} {y} o q l =
      elim (dec_lt x y) [
        | yes a ↦ on (past_refl o) (linked o q a)
        | no f ↦ let e : x ≡ y = omega arith in subst (Past h x) e (past_refl o)
      ]

module _ (h : History) (n p : ℕ) where
  -- the last event of a process
  pub last_is : Newest (Of h p) n (last h n p)
  unfolding last
  last_is = newest_test (takes_part h p) (of_test h p) n

  pub last_le : last h n p ≤ n
  last_le = last_is.within

  pub last_of : 0 < last h n p → Of h p (last h n p)
  last_of l = last_is.has l

  pub last_ge : {x : ℕ} → Of h p x → x ≤ n → x ≤ last h n p
  last_ge o l = newest_ge last_is o l

  -- what a process took part in, it has in its view
  pub view_own : {x y : ℕ} → Of h p y → y ≤ n → Past h x y → View h n p x
  view_own o l c =
      let a = last_ge o l in
      past_trans c (comparable o (last_of (omega (arith, of_pos o, a))) a)

  pub view_le : {x : ℕ} → View h n p x → x ≤ n
  view_le v = omega (arith, past_le v, last_le)

  -- and the next event that it takes part in has its view in its past
  pub view_next : {x : ℕ} → Of h p (suc n) → View h n p x → Past h x (suc n)
  view_next o v = past_trans v (comparable (last_of (omega (arith, past_pos v, past_le v))) o (omega (arith, last_le)))

-- the last event of whoever takes part in the next event is that event, of whoever takes none it stays
pub last_joined : {h : History} {n p : ℕ} → Of h p (suc n) → last h (suc n) p ≡ suc n
last_joined {h} {n} {p} o = newest_unique (last_is h (suc n) p) (newest_suc_yes o)

pub last_apart : {h : History} {n p : ℕ} → (Of h p (suc n) → ⊥) → last h (suc n) p ≡ last h n p
last_apart {h} {n} {p} f = newest_unique (last_is h (suc n) p) (newest_suc_no (last_is h n p) f)

-- what lies in the past of the next event is the event itself, or lies in the view of one of the two that take part
pub past_suc : {h : History} {n x : ℕ} → Past h x (suc n) → (x ≡ suc n) ⊎ (View h n (h n).first x ⊎ View h n (h n).second x)
past_suc (here l) = inl refl
past_suc {h} {n} {x} (on {y = y} c k) =
    let l : y ≤ n = omega (arith, k.ascends) in
    let o = k.of_older in
    elim (of_cases k.of_newer) [
      | inl e ↦ inr (inl (view_own h n _ (subst (λ p. Of h p y) (sym e) o) l c))
      | inr e ↦ inr (inr (view_own h n _ (subst (λ p. Of h p y) (sym e) o) l c))
    ]

-- the next event leaves the view of whoever takes no part
pub view_apart : {h : History} {n p x : ℕ} → (Of h p (suc n) → ⊥) → View h (suc n) p x ↔ View h n p x
view_apart {h} {n} {p} {x} f = rw (last_apart f) (λ v. v, λ v. v)

-- and gives both that do the union of their views, and itself
pub view_joined : {h : History} {n p x : ℕ} → Of h p (suc n)
    → View h (suc n) p x ↔ ((x ≡ suc n) ⊎ (View h n (h n).first x ⊎ View h n (h n).second x))
view_joined {h} {n} {p} {x} o =
    rw (last_joined o) (
      past_suc,
      λ s. elim s [
        | inl e ↦ subst (λ z. Past h z (suc n)) (sym e) (here (omega arith))
        | inr t ↦ elim t [ inl v ↦ view_next h n _ (of_first h n) v | inr v ↦ view_next h n _ (of_second h n) v ]
      ],
    )
