-- The records of the heard stalls, gathered by stall number.
use Prim.Native.Nat.{ℕ, suc, ◌+◌, ◌-◌, ◌*◌, ◌≤◌, ◌<◌}
use mathlib.Core.Path.{◌≡◌, refl, sym, ap, ap₂, ◌∙◌}
use mathlib.Core.Bool.{Bool, true, false, not, cond}
use mathlib.Core.List.{List, [], ◌∷◌, ◌++◌, map, map-append, append-nil}
use native.Mathlib.Omega.{arith}
use lib.ListN.{length, get_or, set, take, replicate, length-set, length-replicate}
use lib.Seq.{take-set-le, take-suc-set}
use Rattle.image.specs.Layout.{largest, word}
use Rattle.image.specs.Row.{is_never, never_at}
use Rattle.image.specs.declared.Entry.{Entry}
use Rattle.rank.specs.declared.Record.{Record}
use Rattle.head.specs.Heard.{chosen}
use Rattle.head.specs.Gathered.{heard_in, record_at, records_to}

-- the stalls 1 to r are done
pub record Gathering (s : List ℕ) (yields : ℕ) (row : List Entry) (n : ℕ) (records : List Record) (count at r : ℕ) : Type 0 where
  pub to : r ≤ n
  pub stands : at ≡ yields + r * 2
  pub few : count ≤ r
  pub long : length records ≡ largest
  pub so_far : take count records ≡ records_to s yields row r

pub gathering_start : (s : List ℕ) (yields : ℕ) (row : List Entry) (n : ℕ) (d : Record) {at : ℕ} → at ≡ yields → Gathering s yields row n (replicate largest d) 0 at 0
unfolding records_to chosen
gathering_start s yields row n d e = record { to = omega arith; stands = omega arith; few = omega arith; long = length-replicate largest d; so_far = refl }

module _ {s : List ℕ} {yields : ℕ} {row : List Entry} {n : ℕ} {records : List Record} {count at r : ℕ} (w : Gathering s yields row n records count at r) (l : r < n) (m : n ≤ largest) where
  abbrev next : Record
  next = record_at s yields (suc r)

  abbrev written : List Record
  written = set records count next

  -- whether the stall is heard or not
  so_far_next : (t : Bool) → heard_in row (suc r) ≡ t → take (count + cond t 1 0) written ≡ records_to s yields row (suc r)
  unfolding records_to chosen
  so_far_next t e = go t ∙ ap₂ (λ a b. a ++ map (record_at s yields) (cond b (suc r ∷ []) [])) w.so_far (sym e) ∙ sym (map-append (record_at s yields) (chosen r (heard_in row)) (cond (heard_in row (suc r)) (suc r ∷ []) []))
    where
      go : (t : Bool) → take (count + cond t 1 0) written ≡ take count records ++ map (record_at s yields) (cond t (suc r ∷ []) [])
      go true = let i : count + 1 ≡ suc count = omega arith in ap (λ k. take k written) i ∙ take-suc-set records count next (omega (arith, w.few, w.long))
      go false = let i : count + 0 ≡ count = omega arith in ap (λ k. take k written) i ∙ take-set-le count records count next (omega arith) ∙ sym (append-nil (take count records))

  pub gathering_next : (x : Record) → x ≡ record { stall = r + 1; given = word s at } → (t : Bool) → t ≡ not (is_never (get_or row r (never_at 0)).name) → (count' : ℕ) → count' ≡ count + cond t 1 0
      → Gathering s yields row n (set records count x) count' (at + 2) (r + 1)
  gathering_next x e t f count' c =
      let i : r + 1 ≡ suc r = omega arith in
      let j : at ≡ yields + (suc r - 1) * 2 = omega (arith, w.stands) in
      let here : r ≡ suc r - 1 = omega arith in
      let is : x ≡ next = e ∙ ap₂ (λ a b. record { stall = a; given = word s b }) i j in
      let more : cond t 1 0 ≤ 1 = one t in
      record {
        to = omega arith;
        stands = omega (arith, w.stands);
        few = omega (arith, w.few);
        long = simp length-set w.long;
        so_far = ap₂ (λ k y. take k (set records count y)) c is ∙ so_far_next t (sym (f ∙ ap (λ k. not (is_never (get_or row k (never_at 0)).name)) here)) ∙ ap (records_to s yields row) (sym i);
      }
    where
      one : (t : Bool) → cond t 1 0 ≤ 1
      one true = omega arith
      one false = omega arith
