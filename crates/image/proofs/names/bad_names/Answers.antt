-- Check 5, by what the own row says.
use Rattle.std.proofs.Common.{ℕ, ◌≡◌, ◌-◌, ◌^◌, List, Bool, true, false, ◌||◌, not, eqb, refl, sym, ap, ◌∙◌}
use mathlib.Core.Path.{ap₂}
use mathlib.Core.Bool.{or-false}
use lib.Bits.{bit_or}
use Rattle.image.specs.Stalls.{some, bits}
use Rattle.image.specs.Layout.{heard_at}
use Rattle.image.specs.Check.{bad_diagonal, bad_unheard, bad_row, bad_names}
use Rattle.image.specs.Columns.{bad_at}
use Rattle.image.proofs.Search.{some_or}
use Rattle.image.proofs.Tables.{none_at}
use Rattle.image.proofs.Lanes.{or_test}
use Rattle.image.proofs.StallSets.{full_test}
use Rattle.image.proofs.Windows.{some_false}
use Rattle.image.proofs.names.bad_names.Goals as goal

module _ (s : List ℕ) (n own : ℕ) where
  -- a name of row r is bad by itself, or not the own row's name of stall r
  abbrev bad_entries : ℕ → Bool
  bad_entries r = some n (bad_at s n r) || bad_diagonal s n own r

  both : {bad unheard : Bool} → bad ≡ some n bad_entries → unheard ≡ some n (bad_unheard s n own) → (bad || unheard) ≡ bad_names s n own
  unfolding bad_names bad_row
  both e i = ap₂ ◌||◌ e i ∙ some_or n bad_entries (bad_unheard s n own)

  -- where all stalls are heard, no row is that of a stall never heard
  heard_good : (r : ℕ) → not (heard_at s n own r) ≡ false → bad_unheard s n own r ≡ false
  unfolding bad_unheard
  heard_good r e = rw e

  all_heard : {bad : Bool} → bad ≡ some n bad_entries → not (some n (λ r. not (heard_at s n own r))) ≡ true → bad ≡ bad_names s n own
  all_heard {bad} e all =
      sym (or-false bad)
      ∙ both e (sym (some_false n (bad_unheard s n own) (λ r a b. heard_good r (none_at n (λ r. not (heard_at s n own r)) (flip (some n (λ r. not (heard_at s n own r))) all) r a b))))
    where
      flip : (x : Bool) → not x ≡ true → x ≡ false
      flip true e = sym e
      flip false e = refl

  -- what the rows and the own row found
  found : (rows names : ℕ) → not (eqb rows 0) ≡ some n (λ r. some n (bad_at s n r)) → not (eqb names 0) ≡ some n (bad_diagonal s n own) → not (eqb (bit_or rows names) 0) ≡ some n bad_entries
  found rows names e i = or_test rows names ∙ ap₂ ◌||◌ e i ∙ some_or n (λ r. some n (bad_at s n r)) (bad_diagonal s n own)

  all_is : {set : ℕ} {all : Bool} → set ≡ bits n (heard_at s n own) → all ≡ eqb set (2 ^ n - 1) → all ≡ not (some n (λ r. not (heard_at s n own r)))
  all_is e a = a ∙ ap (λ x. eqb x (2 ^ n - 1)) e ∙ full_test n (heard_at s n own)

pub returns-then-has_all : goal.returns-then-has_all
returns-then-has_all c =
    let a = c.args in
    let own = c.requires in
    let rows = c.bad_rows in
    all_heard a.x.now.bytes.now a.x.now.n a.x.now.own (found a.x.now.bytes.now a.x.now.n a.x.now.own rows.result a.names.bad rows.ensures own.0)
    (sym (all_is a.x.now.bytes.now a.x.now.n a.x.now.own own.1 c.has_all.ensures) ∙ c.if-has_all.true)

pub returns : goal.returns
returns c =
    let a = c.args in
    both a.x.now.bytes.now a.x.now.n a.x.now.own (found a.x.now.bytes.now a.x.now.n a.x.now.own c.bad_rows.result a.names.bad c.bad_rows.ensures c.requires.0) c.bad_unheards.ensures
