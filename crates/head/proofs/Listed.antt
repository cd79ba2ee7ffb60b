-- The bytes of records, written one after the other.
use Prim.Native.Nat.{ℕ, suc, ◌+◌, ◌*◌, ◌<◌}
use mathlib.Core.Path.{◌≡◌, refl, sym, ap, ap₂, ◌∙◌}
use mathlib.Core.List.{List, [], ◌∷◌, ◌++◌, flat_map}
use native.Mathlib.Omega.{arith}
use lib.ListN.{length, get_or, take, drop}
use lib.Seq.{length-take-le, take-suc}
use Rattle.image.proofs.Overwrite.{store_three}
use Rattle.image.proofs.Has.{flat_map_append, length_flat_map}
use Rattle.image.proofs.Overwrite.{behind}
use Rattle.rank.specs.declared.Record.{Record}
use Rattle.head.specs.Heard.{bytes_of}

pub length_bytes : (l : List Record) → length (flat_map bytes_of l) ≡ 3 * length l
length_bytes l = length_flat_map 3 bytes_of (λ r. refl) l ∙ omega arith

-- the bytes of the first i records stand in front
abbrev pub listed : List Record → List ℕ → ℕ → List ℕ
listed records d i = flat_map bytes_of (take i records) ++ drop (3 * i) d

pub listed_start : (records : List Record) (d : List ℕ) → d ≡ listed records d 0
unfolding flat_map
listed_start records d = refl

pub listed_next : (records : List Record) (d bytes : List ℕ) (i : ℕ) (none : Record) → i < length records → bytes ≡ listed records d i
    → take (3 * i) bytes ++ bytes_of (get_or records i none) ++ drop (3 * i + 3) bytes ≡ listed records d (i + 1)
unfolding flat_map
listed_next records d bytes i none l e =
    let k : i + 1 ≡ suc i = omega arith in
    let at : 3 * i + 3 ≡ 3 * suc i = omega arith in
    let long : length (flat_map bytes_of (take i records)) ≡ 3 * i = length_bytes (take i records) ∙ ap (λ j. 3 * j) (length-take-le i records (omega arith)) in
    let more : flat_map bytes_of (take i records) ++ bytes_of (get_or records i none) ≡ flat_map bytes_of (take (suc i) records) =
    sym (ap (flat_map bytes_of) (take-suc records i none l) ∙ flat_map_append bytes_of (take i records) (get_or records i none ∷ [])) in
    ap (λ b. take (3 * i) b ++ bytes_of (get_or records i none) ++ drop (3 * i + 3) b) e
    ∙ behind (flat_map bytes_of (take i records)) d (bytes_of (get_or records i none)) (3 * i) 3 long
    ∙ ap₂ (λ a j. a ++ drop j d) more at ∙ ap (listed records d) (sym k)

pub ruleset stores = (store_three)
