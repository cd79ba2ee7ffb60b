-- Loops that copy bytes one by one.
use Prim.Native.Nat.{ℕ, ◌+◌, ◌<◌, ◌≤◌}
use mathlib.Core.Path.{◌≡◌, sym, ap, ◌∙◌}
use mathlib.Core.List.{List}
use native.Mathlib.Omega.{arith}
use native.Mathlib.Numerals.{add-one}
use lib.ListN.{length, get_or, drop, set, length-drop}
use lib.Seq.{paste, paste-suc, get_or-drop}

-- one byte more at a place
pub copy_next : (d t l : List ℕ) (at i : ℕ) → at + i < length d → i < length t → l ≡ paste d at t i → set l (at + i) (get_or t i 0) ≡ paste d at t (i + 1)
copy_next d t l at i a b e = rw (add-one, e) (paste-suc d at t i 0 a b)

-- one byte more of what stands in s from a place on
pub copied_next : (d s l : List ℕ) (at from i : ℕ) → at + i < length d → from + i < length s → l ≡ paste d at (drop from s) i
    → set l (at + i) (get_or s (from + i) 0) ≡ paste d at (drop from s) (i + 1)
copied_next d s l at from i a b e =
    ap (set l (at + i)) (sym (get_or-drop from s i 0)) ∙ copy_next d (drop from s) l at i a (omega (arith, length-drop from s)) e

-- all of them, by whatever loop
pub pasted_end : (d t l : List ℕ) (at count i : ℕ) → count ≤ i → i ≤ count → l ≡ paste d at t i → l ≡ paste d at t count
pasted_end d t l at count i a b e = let j : i ≡ count = omega arith in e ∙ ap (paste d at t) j
