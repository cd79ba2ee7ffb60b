-- Who takes part in an event: by cases, and decided.
use Prim.Native.Nat.{ℕ, zero, suc, ◌<◌}
use mathlib.Core.Path.{◌≡◌, refl, subst}
use mathlib.Core.Bool.{Bool, true, false, ◌||◌}
use mathlib.Core.Logic.{◌↔◌, ◌⊎◌, inl, inr}
use native.Mathlib.Omega.{arith}
use borrow.Author.Tests.{eq-eqb}
use lib.Dec.{T, eqb, eqb→eq, eqb_refl}
use Rattle.causality.specs.Event.{History, Of, takes_part}

pub T_dec : (b : Bool) → Dec (T b)
T_dec true = yes tt
T_dec false = no (λ t. t)

pub or_cases : (a b : Bool) → T (a || b) → T a ⊎ T b
or_cases true b t = inl tt
or_cases false b t = inr t

pub or_left : (a b : Bool) → T a → T (a || b)
or_left true b t = tt
or_left false b t = absurd t

pub or_right : (a b : Bool) → T b → T (a || b)
or_right true b t = tt
or_right false b t = t

pub of_pos : {h : History} {r k : ℕ} → Of h r k → 0 < k
unfolding takes_part
of_pos {k = zero} o = absurd o.holds
of_pos {k = suc k} o = omega arith

pub of_first : (h : History) (k : ℕ) → Of h (h k).first (suc k)
unfolding takes_part
of_first h k = record { holds = rw (eq-eqb (h k).first (h k).first refl) tt }

pub of_second : (h : History) (k : ℕ) → Of h (h k).second (suc k)
unfolding takes_part
of_second h k = record { holds = or_right (eqb (h k).first (h k).second) (eqb (h k).second (h k).second) (eqb_refl (h k).second) }

pub of_either : {h : History} {r k : ℕ} → ((h k).first ≡ r) ⊎ ((h k).second ≡ r) → Of h r (suc k)
of_either {h} {k = k} s =
    elim s [
      | inl e ↦ subst (λ z. Of h z (suc k)) e (of_first h k)
      | inr e ↦ subst (λ z. Of h z (suc k)) e (of_second h k)
    ]

pub of_cases : {h : History} {r k : ℕ} → Of h r (suc k) → ((h k).first ≡ r) ⊎ ((h k).second ≡ r)
unfolding takes_part
of_cases {h} {r} {k} o =
    elim (or_cases (eqb (h k).first r) (eqb (h k).second r) o.holds) [
      | inl t ↦ inl (eqb→eq (h k).first r t)
      | inr t ↦ inr (eqb→eq (h k).second r t)
    ]

pub of_test : (h : History) (r k : ℕ) → T (takes_part h r k) ↔ Of h r k
of_test h r k = (λ t. record { holds = t }, λ o. o.holds)

pub of_dec : (h : History) (r k : ℕ) → Dec (Of h r k)
of_dec h r k = elim (T_dec (takes_part h r k)) [ yes t ↦ yes (record { holds = t }) | no f ↦ no (λ o. f o.holds) ]

-- an event has two processes and no other
pub record Two (h : History) (k : ℕ) : Type 0 where
  pub one : ℕ
  pub of_one : Of h one k
  pub other : ℕ
  pub of_other : Of h other k
  pub only : (r : ℕ) → Of h r k → (one ≡ r) ⊎ (other ≡ r)

pub two : (h : History) {k : ℕ} → 0 < k → Two h k
two h {k = zero} l = absurd (omega arith)
two h {k = suc k} l =
    record {
      one = (h k).first;
      of_one = of_first h k;
      other = (h k).second;
      of_other = of_second h k;
      only = λ r o. of_cases o;
    }
