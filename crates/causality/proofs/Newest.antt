-- The newest place that has a property: it is one, it is there, and a test computes it.
use Prim.Native.Nat.{ℕ, zero, suc, ◌≤◌}
use mathlib.Core.Path.{◌≡◌, subst}
use mathlib.Core.Bool.{Bool, true, false, cond}
use mathlib.Core.Logic.{◌↔◌}
use native.Mathlib.Omega.{arith}
use native.Mathlib.Decide.{dec_le, dec_lt}
use lib.Dec.{T}
use Rattle.causality.specs.Past.{newest}
use Rattle.causality.specs.Latest.{Newest}

module _ {P : ℕ → Type 0} where
  -- whatever has the property is no newer
  pub newest_ge : {n k x : ℕ} → Newest P n k → P x → x ≤ n → x ≤ k
  newest_ge {n} {k} {x} w p l = elim (dec_le x k) [ yes a ↦ a | no f ↦ absurd (w.none_newer x (omega arith) l p) ]

  pub newest_unique : {n j k : ℕ} → Newest P n j → Newest P n k → j ≡ k
  newest_unique {n} {j} {k} v w =
      let a : j ≤ k = elim (dec_lt 0 j) [ yes l ↦ newest_ge w (v.has l) v.within | no f ↦ omega arith ] in
      let b : k ≤ j = elim (dec_lt 0 k) [ yes l ↦ newest_ge v (w.has l) w.within | no f ↦ omega arith ] in
      omega arith

  -- one place more
  pub newest_suc_yes : {n : ℕ} → P (suc n) → Newest P (suc n) (suc n)
  newest_suc_yes p = record { within = omega arith; has = λ l. p; none_newer = λ j a b q. omega arith }

  pub newest_suc_no : {n k : ℕ} → Newest P n k → (P (suc n) → ⊥) → Newest P (suc n) k
  newest_suc_no {n} {k} w f =
      record {
        within = omega (arith, w.within);
        has = w.has;
        none_newer = λ j a b q. elim (dec_le j n)
            [ yes l ↦ w.none_newer j a l q | no g ↦ let e : j ≡ suc n = omega arith in f (subst P e q) ];
      }

  -- a larger bound that holds nothing more
  pub newest_wider : {m n k : ℕ} → Newest P m k → m ≤ n → ((x : ℕ) → P x → x ≤ m) → Newest P n k
  newest_wider w l f =
      record {
        within = omega (arith, w.within);
        has = w.has;
        none_newer = λ j a b q. w.none_newer j a (f j q) q;
      }

  pub newest_zero : Newest P 0 0
  newest_zero = record { within = omega arith; has = λ l. absurd (omega arith); none_newer = λ j a b q. omega arith }

  pub newest_exists : ((k : ℕ) → Dec (P k)) → (n : ℕ) → (k : ℕ) × Newest P n k
  newest_exists d zero = (0, newest_zero)
  newest_exists d (suc n) =
      elim (d (suc n)) [
        | yes p ↦ (suc n, newest_suc_yes p)
        | no f ↦ let (k, w) = newest_exists d n in (k, newest_suc_no w f)
      ]

  -- a test that says just when the property holds computes it
  pub newest_test : (f : ℕ → Bool) → ((k : ℕ) → T (f k) ↔ P k) → (n : ℕ) → Newest P n (newest f n)
  unfolding newest
  newest_test f e zero = newest_zero
  newest_test f e (suc n) = go (f (suc n)) (e (suc n)) (newest_test f e n)
    where
      go : (b : Bool) → T b ↔ P (suc n) → Newest P n (newest f n) → Newest P (suc n) (cond b (suc n) (newest f n))
      go true q w = newest_suc_yes (q.0 tt)
      go false q w = newest_suc_no w q.1

-- two properties that say the same have the same newest place
pub newest_iff : {P Q : ℕ → Type 0} {n k : ℕ} → ((x : ℕ) → P x ↔ Q x) → Newest P n k → Newest Q n k
newest_iff e w =
    record {
      within = w.within;
      has = λ l. (e _).0 (w.has l);
      none_newer = λ j a b q. w.none_newer j a b ((e j).1 q);
    }
