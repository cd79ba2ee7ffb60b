-- The names of a row, packed.
use Rattle.packed.proofs.pack.pack_row.Invariants.{column}
use Prim.Native.Nat.{ℕ, suc, ◌+◌, ◌-◌, ◌*◌, ◌%◌}
use mathlib.Core.Path.{◌≡◌, refl, ap, ◌∙◌}
use mathlib.Core.List.{List, [], ◌∷◌, ◌++◌}
use native.Mathlib.Omega.{arith}
use lib.ListN.{get_or, take, drop}
use lib.Seq.{sets-eq}
use Rattle.image.specs.Stalls.{each}
use Rattle.image.specs.Layout.{name_from}
use Rattle.image.proofs.Has.{length_each}
use Rattle.image.proofs.Blocks.{blocks_start, pasted_next, blocks_end}
use Rattle.packed.specs.Form.{name_byte}
use Rattle.packed.proofs.pack.pack_row.Goals as goal

one_more : (s : List ℕ) (from place c v : ℕ) → place ≡ from + c * 2 → v ≡ name_byte (suc c) (name_from (get_or s place 0) (get_or s (place + 1) 0)) % 256
    → v ∷ [] ≡ column s from (suc c)
one_more s from place c v e i =
    let j : place ≡ from + (suc c - 1) * 2 = omega arith in
    ap (λ x. x ∷ []) (i ∙ ap (λ k. name_byte (suc c) (name_from (get_or s k 0) (get_or s (k + 1) 0)) % 256) j)

pub loop-c-init : goal.loop-c-init
loop-c-init c = (omega arith, omega arith, blocks_start _ _ _ _, refl)

pub loop-c-preserved : goal.loop-c-preserved
loop-c-preserved c =
    let t = c.args in
    let l = c.loop-c in
    let v = c.one_byte.result in
    let f = column t.image.now t.from in
    let w = pasted_next t.packed.now l.packed (v ∷ []) _ t.to 1 l.c (t.to + l.c) f (length_each 1 f (λ r. refl) l.c) (omega arith) (omega arith)
    (one_more t.image.now t.from l.place l.c v l.invariant.1 c.one_byte.ensures) (omega arith) l.invariant.2 l.invariant.3
    (sets-eq (v ∷ []) l.packed (t.to + l.c) (omega arith)) in
    (omega arith, omega arith, w.0, w.1)

pub returns : goal.returns
returns c =
    let t = c.args in
    let l = c.loop-c in
    let f = column t.image.now t.from in
    let e : t.to + t.n * 1 ≡ t.to + t.n = omega arith in
    blocks_end t.packed.now l.packed t.to 1 f l.c t.n (omega arith) (omega arith) l.invariant.2
    ∙ ap (λ j. take t.to t.packed.now ++ each t.n f ++ drop j t.packed.now) e
