-- Well-made tables: the one that says nothing, and one that says the same as another.
use Prim.Native.Nat.{ℕ, ◌≤◌}
use mathlib.Core.Path.{◌≡◌, refl}
use mathlib.Core.Bool.{false≢true}
use Rattle.image.specs.Encode.{Table, nothing}
use Rattle.image.specs.Made.{Made}
use Rattle.image.proofs.YieldRange.{yield_none}

pub nothing_made : (n own : ℕ) → Made n own nothing
unfolding nothing
nothing_made n own =
    record {
      current_in = yield_none;
      yields_in = λ r i j. yield_none;
      names_in = λ r c i j k l. tt;
      diagonal = λ r i j. refl;
      unheard_row = λ r c i j k l e. refl;
      unheard_yield = λ r i j e. refl;
      marks_heard = λ r c i j k l e. absurd (false≢true e);
      marked_self = λ r i j h. absurd (h refl);
      marked_own = λ r i j h. absurd (h refl);
    }

-- only what lies within n counts
pub made_agree : (n own : ℕ) (t u : Table) → 1 ≤ own → own ≤ n → t.current ≡ u.current
    → ((r c : ℕ) → 1 ≤ r → r ≤ n → 1 ≤ c → c ≤ n → t.names r c ≡ u.names r c)
    → ((r : ℕ) → 1 ≤ r → r ≤ n → t.yields r ≡ u.yields r)
    → ((r s : ℕ) → 1 ≤ r → r ≤ n → 1 ≤ s → s ≤ n → t.order r s ≡ u.order r s)
    → Made n own u → Made n own t
made_agree n own t u a b e names yields order m =
    record {
      current_in = rw e m.current_in;
      yields_in = λ r i j. rw (yields r i j) (m.yields_in r i j);
      names_in = λ r c i j k l. rw (names r c i j k l) (m.names_in r c i j k l);
      diagonal = λ r i j. rw (names r r i j i j, names own r a b i j) (m.diagonal r i j);
      unheard_row = λ r c i j k l. rw (names own r a b i j, names r c i j k l) (m.unheard_row r c i j k l);
      unheard_yield = λ r i j. rw (names own r a b i j, yields r i j) (m.unheard_yield r i j);
      marks_heard = λ r c i j k l. rw (order r c i j k l, names own r a b i j, names own c a b k l) (m.marks_heard r c i j k l);
      marked_self = λ r i j. rw (names own r a b i j, order r r i j i j) (m.marked_self r i j);
      marked_own = λ r i j. rw (names own r a b i j, order r own i j a b) (m.marked_own r i j);
    }
