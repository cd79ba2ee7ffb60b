-- A milking, by what the check answers.
use Prim.Native.Nat.{ℕ, ◌≤◌, ◌<◌}
use mathlib.Core.Path.{◌≡◌}
use mathlib.Core.List.{List}
use native.Mathlib.Omega.{arith}
use borrow.Author.Tests.{lt-ltb, le-ltb}
use lib.ListN.{length}
use Rattle.image.specs.Layout.{yield_limit}
use Rattle.image.specs.Check.{checked}
use Rattle.image.specs.declared.Header.{Header}
use Rattle.image.specs.declared.Checked.{Checked}
use Rattle.image.specs.declared.Checked.TheVariants.{Good, Refused}
use Rattle.image.proofs.Accepted.{accepted}
use Rattle.head.specs.Calls.{refused, accepted as done, with_current, milked, milking_call}

module _ (s : List ℕ) (yield : ℕ) where
  -- whatever was checked
  module _ {x : Checked} where
    pub milked_refused : {k code : ℕ} → x ≡ Refused k → code ≡ k → refused code s ≡ milked s yield x
    unfolding milked
    milked_refused e i = rw (e, i)

    pub milked_over : {h : Header} → x ≡ Good h → yield_limit < yield → refused 4 s ≡ milked s yield x
    unfolding milked
    milked_over e l = rw (e, lt-ltb yield_limit yield l)

    pub milked_done : {h : Header} → x ≡ Good h → yield ≤ yield_limit → done (with_current s yield) ≡ milked s yield x
    unfolding milked
    milked_done e l = rw (e, le-ltb yield_limit yield l)

  pub milking_refused : {k code : ℕ} → checked s ≡ Refused k → code ≡ k → refused code s ≡ milking_call s yield
  unfolding milking_call
  milking_refused = milked_refused

  pub milking_over : {h : Header} → checked s ≡ Good h → yield_limit < yield → refused 4 s ≡ milking_call s yield
  unfolding milking_call
  milking_over = milked_over

  pub milking_done : {h : Header} → checked s ≡ Good h → yield ≤ yield_limit → done (with_current s yield) ≡ milking_call s yield
  unfolding milking_call
  milking_done = milked_done

-- a good image has its header
pub good_long : (s : List ℕ) {h : Header} → checked s ≡ Good h → 4 < length s
good_long s {h} e = let f = (accepted s h e).frame in omega (arith, f.long, f.n_from)

-- how long an accepted image is
pub ruleset lengths = (good_long)
