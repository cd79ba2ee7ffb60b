-- The text of a panel never needs more than the buffer: no line has more than fifteen characters, and the buffer has sixteen a line.
use Prim.Native.Nat.{ℕ, suc, ◌+◌, ◌*◌, ◌/◌, ◌%◌, ◌≤◌, ◌<◌}
use native.Mathlib.Omega.{arith}
use mathlib.Core.Path.{◌≡◌, refl}
use mathlib.Core.Bool.{Bool, true, false, ◌||◌}
use mathlib.Core.List.{List, [], ◌∷◌}
use borrow.Author.Tests.{leb-true, eqb-true}
use lib.Dec.{leb, eqb}
use lib.ListN.{length, length-append}
use Rattle.image.specs.Layout.{yield_limit, no_yield, is_yield}
use Rattle.image.specs.Theory.{Passes}
use Rattle.image.proofs.Accepted.{accepted}
use Rattle.rank.specs.declared.Record.{Record}
use Rattle.head.specs.Heard.{Every, heard_records, heard_count}
use Rattle.head.proofs.HeardLists.{heard_few}
use Rattle.panel.specs.Decimal.{decimal}
use Rattle.panel.specs.Panel.{point, litres, line, lines_from, panel_text, panel_length}
use Rattle.panel.proofs.Decimals.{decimal_short}
use Rattle.panel.proofs.Parts.{litres_elim}
use Rattle.panel.proofs.Within.{every_occurs, heard_within}

litres_short : (given : ℕ) → given < 100000 → length (litres given) ≤ 6
litres_short given l =
    let whole = decimal_short 3 (given / 10) (omega arith) in
    let tenths = decimal_short 0 (given % 10) (omega arith) in
    litres_elim (λ w. length w ≤ 6) given (λ e. omega arith) (omega (arith, length-append (decimal (given / 10)) (point ∷ decimal (given % 10))))

pub line_short : (rank : ℕ) (r : Record) → rank < 1000 → r.stall < 1000 → r.given < 100000 → length (line rank r) ≤ 15
unfolding line
line_short rank r a b c =
    simp length-append (omega (arith, decimal_short 2 rank a, decimal_short 2 r.stall b, litres_short r.given c))

-- what of a record makes its line short
abbrev pub Short : Record → Type 0
Short r = (r.stall < 1000) × (r.given < 100000)

pub lines_short : (rank : ℕ) (l : List Record) → Every Short l → rank + length l ≤ 1000 → length (lines_from rank l) ≤ 15 * length l
unfolding Every lines_from
lines_short rank [] h m = omega arith
lines_short rank (r ∷ l) h m =
    omega (arith, length-append (line rank r) (lines_from (suc rank) l), line_short rank r (omega arith) h.0.0 h.0.1, lines_short (suc rank) l h.1 (omega arith))

-- a yield has five digits at most
yield_short : (x : ℕ) → is_yield x ≡ true → x < 100000
unfolding is_yield no_yield
yield_short x = go (leb x yield_limit) (eqb x no_yield) (leb-true x yield_limit) (eqb-true x no_yield)
  where
    go : (a b : Bool) → (a ≡ true → x ≤ yield_limit) → (b ≡ true → x ≡ no_yield) → (a || b) ≡ true → x < 100000
    go true b f g e = omega (arith, f refl)
    go false b f g e = omega (arith, g e)

pub text_fits : (s : List ℕ) (n own : ℕ) → Passes s n own → length (panel_text s n own) < panel_length
unfolding heard_count panel_length
text_fits s n own p =
    let w = (accepted s _ p).frame in
    let few = heard_few s n own in
    let short = every_occurs _ Short (heard_records s n own) (λ x l h. (omega arith, yield_short x.given h.1)) (heard_within s n own p) in
    omega (arith, lines_short 1 (heard_records s n own) short (omega arith))
