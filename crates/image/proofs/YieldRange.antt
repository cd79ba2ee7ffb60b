-- What a yield may be, and the one of a head that was not milked.
use Prim.Native.Nat.{ℕ, ◌≤◌, ◌<◌}
use mathlib.Core.Path.{◌≡◌, refl}
use mathlib.Core.Bool.{true}
use mathlib.Core.List.{List}
use native.Mathlib.Omega.{arith}
use borrow.Author.Tests.{le-leb}
use Rattle.image.specs.Layout.{yield_limit, no_yield, is_yield}
use Rattle.image.specs.Encode.{word_bytes}

-- what a milking sets, and what a head that was not milked has, which no milking sets
pub yield_in : (x : ℕ) → x ≤ yield_limit → is_yield x ≡ true
unfolding is_yield
yield_in x l = rw (le-leb x yield_limit l)

pub yield_none : is_yield no_yield ≡ true
unfolding is_yield no_yield
yield_none = refl

pub none_over : yield_limit < no_yield
unfolding no_yield
none_over = omega arith

-- its bytes, for any stall
abbrev pub no_yield_bytes : ℕ → List ℕ
no_yield_bytes r = word_bytes no_yield
