-- Document 003's paths and our chains give the same latest and the same best.
use Prim.Native.Nat.{ℕ, zero, suc, ◌≤◌, ◌<◌}
use mathlib.Core.Path.{◌≡◌, refl, sym, subst, subst₂, ◌∙◌}
use mathlib.Core.Logic.{◌↔◌, inl, inr}
use native.Mathlib.Omega.{arith}
use native.Mathlib.Decide.{dec_lt}
use Rattle.causality.specs.Event.{History, Of}
use Rattle.causality.specs.Past.{Past, here, on, View}
use Rattle.causality.specs.Clock.{latest}
use Rattle.causality.specs.Best.{best}
use Rattle.causality.specs.GoodPath.{Dom, as_named, exchanged, Path, only, pair, source, target, Good, LatestByPath, by_path, otherwise, Winner, BestByPath, the_first, the_second, neither, winner}
use Rattle.causality.proofs.Newer.{newer_first, newer_second, newer_equal}
use Rattle.causality.proofs.Events.{of_pos, of_first, of_second, of_cases}
use Rattle.causality.proofs.Pasts.{past_pos, past_le, past_refl, past_trans, comparable, last_le, last_of, view_own}
use Rattle.causality.proofs.Clocks.{latest_of, latest_view, latest_ge}

dom_left : {h : History} {k i j : ℕ} → Dom h k i j → Of h i k
dom_left {h} (as_named k) = of_first h k
dom_left {h} (exchanged k) = of_second h k

dom_right : {h : History} {k i j : ℕ} → Dom h k i j → Of h j k
dom_right {h} (as_named k) = of_second h k
dom_right {h} (exchanged k) = of_first h k

-- From a path to the view

source_of : {h : History} {m i j : ℕ} (π : Path h m i j) → Of h i (source π)
unfolding source
source_of (only k l d) = dom_left d
source_of (pair k l d π) = dom_left d

source_le : {h : History} {m i j : ℕ} (π : Path h m i j) → source π ≤ m
unfolding source
source_le (only k l d) = l
source_le (pair k l d π) = l

target_of : {h : History} {m i j : ℕ} (π : Path h m i j) → Of h j (target π)
unfolding target
target_of (only k l d) = dom_right d
target_of (pair k l d π) = target_of π

target_past : {h : History} {m i j : ℕ} (π : Path h m i j) → Past h (target π) (source π)
unfolding target source
target_past (only k l d) = past_refl (dom_left d)
target_past (pair k l d π) = past_trans (target_past π) (comparable (source_of π) (dom_right d) (source_le π))

target_view : {h : History} {M i j : ℕ} (π : Path h M i j) → View h M i (target π)
target_view {h} {M} {i} π = view_own h M i (source_of π) (source_le π) (target_past π)

-- From the view to a path

append : {h : History} {m i l j : ℕ} (π : Path h m i l) → Path h (target π) l j → Path h m i j
unfolding target
append (only k a d) ρ = pair k a d ρ
append (pair k a d π) ρ = pair k a d (append π ρ)

target_append : {h : History} {m i l j : ℕ} (π : Path h m i l) (ρ : Path h (target π) l j) → target (append π ρ) ≡ target ρ
unfolding target append
target_append (only k a d) ρ = refl
target_append (pair k a d π) ρ = target_append π ρ

-- a path to x
record To (h : History) (m i j x : ℕ) : Type 0 where
  path : Path h m i j
  ends : target path ≡ x

-- one meeting leads from either of its two to either, and goes back over itself where they are the same
turn : {h : History} {m e i j : ℕ} → e ≤ m → Of h i e → Of h j e → To h m i j e
unfolding target
turn {e = zero} l o q = absurd (omega (arith, of_pos o))
turn {h} {m} {e = suc k} {i} {j} l o q =
    elim (of_cases o) [
      | inl a ↦ elim (of_cases q) [
        | inl b ↦ named a b (pair (suc k) l (as_named k) (only (suc k) (omega arith) (exchanged k))) refl
        | inr b ↦ named a b (only (suc k) l (as_named k)) refl
      ]
      | inr a ↦ elim (of_cases q) [
        | inl b ↦ named a b (only (suc k) l (exchanged k)) refl
        | inr b ↦ named a b (pair (suc k) l (exchanged k) (only (suc k) (omega arith) (as_named k))) refl
      ]
    ]
  where
    named : {u v : ℕ} → u ≡ i → v ≡ j → (π : Path h m u v) → target π ≡ suc k → To h m i j (suc k)
    named a b π e = subst₂ (λ x y. To h m x y (suc k)) a b (record { path = π; ends = e })

along : {h : History} {m i j x y : ℕ} → y ≤ m → Of h i y → Of h j x → Past h x y → To h m i j x
along l o q (here a) = turn l o q
along {h} {m} {i} {j} {x} {y} l o q (on {y = z} c k) =
    let a = turn l o k.of_newer in
    let b = along {m = target a.path} (omega (arith, a.ends, k.ascends)) k.of_older q c in
    record { path = append a.path b.path; ends = target_append a.path b.path ∙ b.ends }

-- Both readings of latest agree
module _ (h : History) (M j i : ℕ) where
  -- no path leads past the latest, and one leads to it
  target_le : (π : Path h M j i) → target π ≤ latest h M j i
  target_le π = latest_ge h M j i (target_of π) (target_view π)

  to_latest : 0 < latest h M j i → To h M j i (latest h M j i)
  to_latest l =
      let v = latest_view h M j i l in
      along (last_le h M j) (last_of h M j (omega (arith, past_pos v, past_le v))) (latest_of h M j i l) v

  good_iff : (π : Path h M j i) → Good h M j i π ↔ (target π ≡ latest h M j i)
  good_iff π = (to, λ e. record { newest = λ ρ. omega (arith, target_le ρ) })
    where
      to : Good h M j i π → target π ≡ latest h M j i
      to g =
          let a = target_le π in
          let b = of_pos (target_of π) in
          let t = to_latest (omega arith) in
          omega (arith, g.newest t.path, t.ends)

  latest_by_path : LatestByPath h M j i (latest h M j i)
  latest_by_path =
      elim (dec_lt 0 (latest h M j i)) [
        | yes l ↦ let t = to_latest l in
            subst (LatestByPath h M j i) t.ends (by_path t.path ((good_iff t.path).1 t.ends))
        | no f ↦ let e : 0 ≡ latest h M j i = omega arith in
            subst (LatestByPath h M j i) e (otherwise (λ π g. omega (arith, target_le π, of_pos (target_of π))))
      ]

  unique_by_path : {k : ℕ} → LatestByPath h M j i k → latest h M j i ≡ k
  unique_by_path (by_path π g) = sym ((good_iff π).0 g)
  unique_by_path (otherwise f) =
      elim (dec_lt 0 (latest h M j i)) [
        | yes l ↦ let t = to_latest l in absurd (f t.path ((good_iff t.path).1 t.ends))
        | no g ↦ omega arith
      ]

  pub path_latest : (k : ℕ) → LatestByPath h M j i k ↔ (latest h M j i ≡ k)
  path_latest k = (unique_by_path, λ e. subst (LatestByPath h M j i) e latest_by_path)

-- and so do both readings of best
module _ (h : History) (M i j m : ℕ) where
  best_by_path : BestByPath h M i j m (winner i j (best h M i j m))
  unfolding best winner
  best_by_path =
      let a = latest_by_path h M i m in
      let b = latest_by_path h M j m in
      elim (dec_lt (latest h M j m) (latest h M i m)) [
        | yes l ↦ rw (newer_first l) (the_first _ _ a b l)
        | no f ↦ elim (dec_lt (latest h M i m) (latest h M j m)) [
          | yes l ↦ rw (newer_second l) (the_second _ _ a b l)
          | no g ↦ let e : latest h M i m ≡ latest h M j m = omega arith in
              rw (newer_equal e) (neither _ _ a b f g)
        ]
      ]

  won_by_path : {w : Winner} → BestByPath h M i j m w → winner i j (best h M i j m) ≡ w
  unfolding best winner
  won_by_path (the_first a b u v l) = rw (unique_by_path h M i m u, unique_by_path h M j m v, newer_first l)
  won_by_path (the_second a b u v l) = rw (unique_by_path h M i m u, unique_by_path h M j m v, newer_second l)
  won_by_path (neither a b u v f g) =
      let e : a ≡ b = omega arith in
      rw (unique_by_path h M i m u, unique_by_path h M j m v, newer_equal e)

  pub path_best : (w : Winner) → BestByPath h M i j m w ↔ (winner i j (best h M i j m) ≡ w)
  path_best w = (won_by_path, λ e. subst (BestByPath h M i j m) e best_by_path)
