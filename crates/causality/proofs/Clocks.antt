-- The vector clocks compute the latests, and with them the past.
use Prim.Native.Nat.{ℕ, zero, suc, ◌≤◌, ◌<◌, max}
use mathlib.Core.Path.{◌≡◌, refl, sym, ap, ap₂, subst, ◌∙◌}
use mathlib.Core.Logic.{◌↔◌, ◌⊎◌, inl, inr}
use mathlib.Core.List.{List, [], ◌∷◌}
use native.Mathlib.Omega.{arith}
use native.Mathlib.Nat.{zero-max, max-zero}
use native.Mathlib.Decide.{ℕ_discrete, dec_le, dec_lt}
use lib.Dec.{T, leb, leb→le, le→leb}
use lib.ListN.{get_or}
use Rattle.causality.specs.Event.{History, Of}
use Rattle.causality.specs.Past.{Past, newest, last, View}
use Rattle.causality.specs.Latest.{LatestIn, Latest}
use Rattle.causality.specs.Clock.{put, maxima, joined, clocks, latest, latest_in, in_past}
use Rattle.causality.specs.Best.{newer, best, best_in}
use Rattle.causality.proofs.Newest.{newest_ge, newest_unique, newest_suc_yes, newest_zero}
use Rattle.causality.proofs.Events.{T_dec, of_either, of_first, of_second, of_cases, of_dec}
use Rattle.causality.proofs.Pasts.{past_pos, past_le, past_refl, past_trans, comparable, last_le, last_of, last_joined, last_apart, past_suc, view_next}

-- Lists with a default past their end
module _ {A : Type 0} (d : A) where
  put_same : (l : List A) (i : ℕ) (v : A) → get_or (put d l i v) i d ≡ v
  unfolding put
  put_same [] zero v = refl
  put_same [] (suc i) v = put_same [] i v
  put_same (a ∷ l) zero v = refl
  put_same (a ∷ l) (suc i) v = put_same l i v

  put_other : (l : List A) (i j : ℕ) (v : A) → (i ≡ j → ⊥) → get_or (put d l i v) j d ≡ get_or l j d
  unfolding put
  put_other [] zero zero v f = absurd (f refl)
  put_other [] zero (suc j) v f = refl
  put_other [] (suc i) zero v f = refl
  put_other [] (suc i) (suc j) v f = put_other [] i j v (λ e. f (ap suc e))
  put_other (a ∷ l) zero zero v f = absurd (f refl)
  put_other (a ∷ l) zero (suc j) v f = refl
  put_other (a ∷ l) (suc i) zero v f = refl
  put_other (a ∷ l) (suc i) (suc j) v f = put_other l i j v (λ e. f (ap suc e))

  -- the same value put at two places
  put_either : (l : List A) (i j k : ℕ) (v : A) → (i ≡ k) ⊎ (j ≡ k) → get_or (put d (put d l i v) j v) k d ≡ v
  put_either l i j k v s =
      elim (ℕ_discrete j k) [
        | yes e ↦ subst (λ z. get_or (put d (put d l i v) j v) z d ≡ v) e (put_same (put d l i v) j v)
        | no f ↦ elim s [
          | inl e ↦ put_other (put d l i v) j k v f ∙ subst (λ z. get_or (put d l i v) z d ≡ v) e (put_same l i v)
          | inr e ↦ absurd (f e)
        ]
      ]

  put_neither : (l : List A) (i j k : ℕ) (v : A) → (i ≡ k → ⊥) → (j ≡ k → ⊥) → get_or (put d (put d l i v) j v) k d ≡ get_or l k d
  put_neither l i j k v f g = put_other (put d l i v) j k v g ∙ put_other l i k v f

maxima_at : (l m : List ℕ) (i : ℕ) → get_or (maxima l m) i 0 ≡ max (get_or l i 0) (get_or m i 0)
unfolding maxima
maxima_at [] m i = sym (zero-max (get_or m i 0))
maxima_at (a ∷ l) [] i = sym (max-zero (get_or (a ∷ l) i 0))
maxima_at (a ∷ l) (b ∷ m) zero = refl
maxima_at (a ∷ l) (b ∷ m) (suc i) = maxima_at l m i

-- How one more event changes the latests
module _ (h : History) (n p r : ℕ) where
  pub latest_apart : (Of h p (suc n) → ⊥) → latest h (suc n) p r ≡ latest h n p r
  unfolding latest clocks
  latest_apart f =
      ap (λ l. get_or l r 0)
      (put_neither [] (clocks h n) _ _ p _ (λ e. f (of_either (inl e))) (λ e. f (of_either (inr e))))

  -- the clock that both get
  joined_clock : Of h p (suc n) → latest h (suc n) p r ≡ get_or (joined (h n) (suc n) (clocks h n)) r 0
  unfolding latest clocks
  joined_clock o = ap (λ l. get_or l r 0) (put_either [] (clocks h n) _ _ p _ (of_cases o))

  pub latest_own : Of h p (suc n) → Of h r (suc n) → latest h (suc n) p r ≡ suc n
  unfolding joined
  latest_own o q = joined_clock o ∙ put_either 0 _ _ _ r (suc n) (of_cases q)

  pub latest_max : Of h p (suc n) → (Of h r (suc n) → ⊥)
      → latest h (suc n) p r ≡ max (latest h n (h n).first r) (latest h n (h n).second r)
  unfolding latest joined
  latest_max o f =
      joined_clock o
      ∙ put_neither 0 _ _ _ r _ (λ e. f (of_either (inl e))) (λ e. f (of_either (inr e)))
      ∙ maxima_at (get_or (clocks h n) (h n).first []) (get_or (clocks h n) (h n).second []) r

-- The computed latest is the latest
latest_is_max : (h : History) (n r : ℕ) {a b : ℕ} → Latest h n (h n).first r a → Latest h n (h n).second r b
    → (Of h r (suc n) → ⊥) → LatestIn h (suc n) r (max a b)
latest_is_max h n r {a} {b} v w f =
    let a≤ : a ≤ n = omega (arith, v.within, last_le h n (h n).first) in
    let b≤ : b ≤ n = omega (arith, w.within, last_le h n (h n).second) in
    record {
      within = omega arith;
      has = λ l. elim (dec_le b a) [
        | yes g ↦ subst (λ k. Of h r k × Past h k (suc n)) (let e : a ≡ max a b = omega arith in e)
            (let (o, c) = v.has (omega arith) in (o, view_next h n _ (of_first h n) c))
        | no g ↦ subst (λ k. Of h r k × Past h k (suc n)) (let e : b ≡ max a b = omega arith in e)
            (let (o, c) = w.has (omega arith) in (o, view_next h n _ (of_second h n) c))
      ];
      none_newer = λ j l m q. elim (past_suc q.1) [
        | inl e ↦ f (subst (Of h r) e q.0)
        | inr s ↦ elim s [
          | inl c ↦ omega (arith, newest_ge v (q.0, c) (past_le c))
          | inr c ↦ omega (arith, newest_ge w (q.0, c) (past_le c))
        ]
      ];
    }

latest_none : (h : History) (p r : ℕ) → Latest h 0 p r (latest h 0 p r)
unfolding last newest latest clocks
latest_none h p r = newest_zero

pub latest_is : (h : History) (n p r : ℕ) → Latest h n p r (latest h n p r)
latest_is h zero p r = latest_none h p r
latest_is h (suc n) p r =
    elim (of_dec h p (suc n)) [
      | yes o ↦ rw (last_joined o) (elim (of_dec h r (suc n)) [
        | yes q ↦ rw (latest_own h n p r o q) (newest_suc_yes (q, past_refl q))
        | no f ↦ rw (latest_max h n p r o f) (latest_is_max h n r (latest_is h n _ r) (latest_is h n _ r) f)
      ])
      | no f ↦ rw (last_apart f, latest_apart h n p r f) (latest_is h n p r)
    ]

pub latest_in_is : (h : History) (y r : ℕ) → LatestIn h y r (latest_in h y r)
unfolding latest_in
latest_in_is h zero r = newest_zero
latest_in_is h (suc k) r = rw (last_joined (of_first h k)) at (latest_is h (suc k) (h k).first r)

-- a process knows what its last event has in its past
pub latest_last : (h : History) (n p r : ℕ) → latest h n p r ≡ latest_in h (last h n p) r
latest_last h n p r = newest_unique (latest_is h n p r) (latest_in_is h (last h n p) r)

pub best_pasts : (h : History) (n p q r : ℕ) → best h n p q r ≡ best_in h (last h n p) (last h n q) r
unfolding best best_in
best_pasts h n p q r = ap₂ newer (latest_last h n p r) (latest_last h n q r)

pub latest_iff : (h : History) (n p r k : ℕ) → Latest h n p r k ↔ (latest h n p r ≡ k)
latest_iff h n p r k =
    (newest_unique (latest_is h n p r), λ e. subst (Latest h n p r) e (latest_is h n p r))

pub latest_in_iff : (h : History) (y r k : ℕ) → LatestIn h y r k ↔ (latest_in h y r ≡ k)
latest_in_iff h y r k =
    (newest_unique (latest_in_is h y r), λ e. subst (LatestIn h y r) e (latest_in_is h y r))

-- What is known of the newest event of r in the past of y
module _ (h : History) (y r : ℕ) where
  pub latest_in_le : latest_in h y r ≤ y
  latest_in_le = (latest_in_is h y r).within

  pub latest_in_of : 0 < latest_in h y r → Of h r (latest_in h y r)
  latest_in_of l = ((latest_in_is h y r).has l).0

  pub latest_in_past : 0 < latest_in h y r → Past h (latest_in h y r) y
  latest_in_past l = ((latest_in_is h y r).has l).1

  pub latest_in_ge : {x : ℕ} → Of h r x → Past h x y → x ≤ latest_in h y r
  latest_in_ge o c = newest_ge (latest_in_is h y r) (o, c) (past_le c)

-- and of the latest of r for p
module _ (h : History) (n p r : ℕ) where
  pub latest_le : latest h n p r ≤ n
  latest_le = omega (arith, (latest_is h n p r).within, last_le h n p)

  pub latest_of : 0 < latest h n p r → Of h r (latest h n p r)
  latest_of l = ((latest_is h n p r).has l).0

  pub latest_view : 0 < latest h n p r → View h n p (latest h n p r)
  latest_view l = ((latest_is h n p r).has l).1

  pub latest_ge : {x : ℕ} → Of h r x → View h n p x → x ≤ latest h n p r
  latest_ge o c = newest_ge (latest_is h n p r) (o, c) (past_le c)

-- a process's latest of itself is its last event
pub latest_own_last : (h : History) (n p : ℕ) → latest h n p p ≡ last h n p
latest_own_last h n p =
    elim (dec_lt 0 (last h n p)) [
      | yes l ↦ let o = last_of h n p l in
          omega (arith, latest_ge h n p p o (past_refl o), (latest_is h n p p).within)
      | no f ↦ omega (arith, (latest_is h n p p).within)
    ]

-- so the own row is a row like the others
pub latest_self : (h : History) (n p r : ℕ) → latest h n p r ≡ latest_in h (latest h n p p) r
latest_self h n p r = rw (latest_own_last h n p) (latest_last h n p r)

-- The past, decided
pub past_test : (h : History) (x y : ℕ) → T (in_past h x y) ↔ Past h x y
unfolding in_past
past_test h zero y = (λ t. absurd t, λ c. absurd (omega (arith, past_pos c)))
past_test h (suc k) y = (to, λ c. le→leb (suc k) _ (latest_in_ge h y _ (of_first h k) c))
  where
    to : T (leb (suc k) (latest_in h y (h k).first)) → Past h (suc k) y
    to t =
        let l = leb→le (suc k) (latest_in h y (h k).first) t in
        let z : 0 < latest_in h y (h k).first = omega arith in
        past_trans (comparable (of_first h k) (latest_in_of h y _ z) l) (latest_in_past h y _ z)

pub past_dec : (h : History) (x y : ℕ) → Dec (Past h x y)
past_dec h x y = elim (T_dec (in_past h x y)) [ yes t ↦ yes ((past_test h x y).0 t) | no f ↦ no (λ c. f ((past_test h x y).1 c)) ]
