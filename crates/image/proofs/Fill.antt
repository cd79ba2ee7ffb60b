-- Rows of records, filled from the front.
use Prim.Native.Nat.{ℕ, zero, suc, ◌+◌, ◌-◌, ◌≤◌, ◌<◌}
use mathlib.Core.Path.{◌≡◌, refl, sym, ap, ◌∙◌}
use mathlib.Core.List.{List, [], ◌++◌}
use native.Mathlib.Omega.{arith}
use native.Mathlib.Decide.{ℕ_discrete, dec_lt}
use lib.ListN.{length, get_or, set, drop, replicate, length-append, length-set, get_or-append}
use Rattle.std.proofs.lemmas.List.{get_or-append-add, get_or-drop, get_or-replicate, length-drop, length-replicate}
use lib.Seq.{get_or_at, get_or-set_same, get_or-set_other, ext_get_or}
use Rattle.image.specs.Row.{tabulate, never_at}
use Rattle.image.specs.declared.Entry.{Entry}

pub length_tabulate : (m : ℕ) (f : ℕ → Entry) → length (tabulate m f) ≡ m
unfolding tabulate
length_tabulate zero f = refl
length_tabulate (suc m) f = length-append (tabulate m f) _ ∙ omega (arith, length_tabulate m f)

pub get_d_tabulate : (m : ℕ) (f : ℕ → Entry) (d : Entry) (k : ℕ) → k < m → get_or (tabulate m f) k d ≡ f (suc k)
unfolding tabulate
get_d_tabulate zero f d k l = absurd (omega arith)
get_d_tabulate (suc m) f d k l =
    elim (dec_lt k m) [
      | yes a ↦ get_or-append (tabulate m f) _ d k (omega (arith, length_tabulate m f)) ∙ get_d_tabulate m f d k a
      | no a ↦
          let e : k ≡ m = omega arith in
          ap (λ j. get_or (tabulate (suc m) f) j d) e ∙ get_or_at (tabulate m f) (f (suc m)) [] d m (length_tabulate m f) ∙ ap (λ j. f (suc j)) (sym e)
    ]

-- the first c of m records are there
pub record Filled (row : List Entry) (c m : ℕ) (f : ℕ → Entry) : Type 0 where
  pub long : length row ≡ m
  pub filled : (k : ℕ) → k < c → get_or row k (never_at 0) ≡ f (suc k)
  pub rest : (k : ℕ) → c ≤ k → k < m → get_or row k (never_at 0) ≡ never_at 0

pub filled_next : {row : List Entry} {c m : ℕ} {f : ℕ → Entry} (v : Entry) → Filled row c m f → c < m → v ≡ f (suc c) → Filled (set row c v) (c + 1) m f
filled_next {row} {c} {m} {f} v w l e =
    record {
      long = length-set row c v ∙ w.long;
      filled = λ k a. elim (ℕ_discrete k c) [
        | yes i ↦ ap (λ j. get_or (set row c v) j (never_at 0)) i ∙ get_or-set_same row c v (never_at 0) (omega (arith, w.long)) ∙ e ∙ ap (λ j. f (suc j)) (sym i)
        | no i ↦ get_or-set_other row c k v (never_at 0) i ∙ w.filled k (omega arith)
      ];
      rest = λ k a b. get_or-set_other row c k v (never_at 0) (λ i. omega arith) ∙ w.rest k (omega arith) b;
    }

pub filled_end : {row : List Entry} {c m : ℕ} {f : ℕ → Entry} → Filled row c m f → c ≤ m → ((k : ℕ) → c < k → f k ≡ never_at 0) → row ≡ tabulate m f
filled_end {row} {c} {m} {f} w l e =
    ext_get_or (never_at 0) row (tabulate m f) (w.long ∙ sym (length_tabulate m f))
    (λ k a. elim (dec_lt k c) [
      | yes b ↦ w.filled k b ∙ sym (get_d_tabulate m f (never_at 0) k (omega (arith, w.long)))
      | no b ↦ w.rest k (omega arith) (omega (arith, w.long)) ∙ sym (e (suc k) (omega arith)) ∙ sym (get_d_tabulate m f (never_at 0) k (omega (arith, w.long)))
    ])

-- the first n of m records, all filled, and none behind them
pub filled_front : {items : List Entry} {c n : ℕ} {f : ℕ → Entry} (m : ℕ) → Filled items c n f → n ≤ c → n ≤ m → Filled (items ++ drop n (replicate m (never_at 0))) n m f
filled_front {items} {n = n} m w l b =
    record {
      long = length-append items (drop n (replicate m (never_at 0))) ∙ omega (arith, w.long, length-drop n (replicate m (never_at 0)), length-replicate m (never_at 0));
      filled = λ k a. get_or-append items (drop n (replicate m (never_at 0))) (never_at 0) k (omega (arith, w.long)) ∙ w.filled k (omega arith);
      rest = λ k a b.
          let e : k ≡ length items + (k - n) = omega (arith, w.long) in
          ap (λ j. get_or (items ++ drop n (replicate m (never_at 0))) j (never_at 0)) e
          ∙ get_or-append-add items (drop n (replicate m (never_at 0))) (k - n) (never_at 0)
          ∙ get_or-drop n (replicate m (never_at 0)) (k - n) (never_at 0)
          ∙ get_or-replicate m (n + (k - n)) (never_at 0) (never_at 0) (omega arith);
    }
