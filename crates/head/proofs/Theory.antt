-- The laws of `specs/Theory.antt` hold of every image.
use Prim.Native.Nat.{ℕ}
use mathlib.Core.Path.{◌≡◌, refl, sym}
use mathlib.Core.Bool.{Bool, true, false, cond}
use mathlib.Core.List.{List}
use borrow.Author.Tests.{ltb-false}
use lib.Dec.{ltb}
use Rattle.image.specs.Layout.{yield_limit, no_yield}
use Rattle.image.specs.Check.{checked}
use Rattle.image.specs.declared.Checked.{Checked}
use Rattle.image.specs.declared.Checked.TheVariants.{Good, Refused}
use Rattle.image.proofs.YieldRange.{none_over}
use Rattle.image.proofs.Accepted.{accepted, checked_accepted}
use Rattle.head.specs.Calls.{refused, accepted as done, with_current, milked, milking_call}
use Rattle.head.specs.Theory.{Theory}
use Rattle.head.proofs.Milking.{milking_over}
use Rattle.head.proofs.Milked.{milked_accepted}
use Rattle.head.proofs.OneList.{heard_list_lem, one_list}
use Rattle.head.proofs.SettledLaws.{settled_long, settled_most, settled_heard}

stays : (s : List ℕ) (yield : ℕ) → checked (milking_call s yield).image ≡ checked s
unfolding milking_call milked
stays s yield = go (checked s) refl
  where
    go : (x : Checked) → checked s ≡ x → checked (milked s yield x).image ≡ x
    go (Refused number) e = e
    go (Good h) e = over (ltb yield_limit yield) refl
      where
        over : (b : Bool) → ltb yield_limit yield ≡ b → checked (cond b (refused 4 s) (done (with_current s yield))).image ≡ Good h
        over true f = e
        over false f = checked_accepted (milked_accepted s yield (accepted s h e) (ltb-false yield_limit yield f))

pub theory : Theory
theory =
    record {
      milked_accepted = stays;
      not_milked_refused = λ s h e. sym (milking_over s no_yield e none_over);
      heard_list_lem = heard_list_lem;
      one_list = one_list;
      settled_long = settled_long;
      settled_most = settled_most;
      settled_heard = λ s n own e. settled_heard (accepted s _ e);
    }
