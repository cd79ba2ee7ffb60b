-- Whose news of a stall is newer, by what is known.
-- Document 01: "Only the first's known: verdict 2. Only the second's known: 1. Both known and the same name, or both none: 0. Otherwise 9."
use Rattle.std.specs.Prelude.{ℕ, Bool, true, false, ◌&&◌, eqb}
use Rattle.image.specs.Stalls.{some}
use Rattle.image.specs.Encode.{Table}
use Rattle.image.specs.declared.Name.{Name}
use Rattle.image.specs.declared.Name.TheVariants.{Never, With}
use Rattle.merge.specs.Known.{known}

abbrev pub same_name : Name → Name → Bool
same_name Never Never = true
same_name Never (With k) = false
same_name (With m) Never = false
same_name (With m) (With k) = eqb m.partner k.partner && eqb m.label k.label

-- the verdict by whether the first's latest is known, whether the second's is, and whether they have the same name
abbrev pub judge : Bool → Bool → Bool → ℕ
judge true false same = 2
judge false true same = 1
judge true true true = 0
judge true true false = 9
judge false false same = 9

-- the verdict on stall r when the head at stall p with table a meets the head at stall q with table b, p first
unfoldable pub verdict : ℕ → ℕ → Table → ℕ → Table → ℕ → ℕ
verdict n p a q b r =
    judge
    (known n (a.names p) (a.order r) (b.names q) r)
    (known n (b.names q) (b.order r) (a.names p) r)
    (same_name (a.names p r) (b.names q r))

-- "the images do not belong together": some verdict is 9
unfoldable pub undecided : ℕ → ℕ → Table → ℕ → Table → Bool
undecided n p a q b = some n (λ r. eqb (verdict n p a q b r) 9)
