-- Pairs of stalls: two meetings join the same two exactly where the test says so, whatever end a name is read from.
use Prim.Native.Nat.{ℕ, zero, suc}
use mathlib.Core.Path.{◌≡◌, refl, sym, ◌∙◌}
use mathlib.Core.Bool.{Bool, true, false, ◌&&◌}
use mathlib.Core.Logic.{inl, inr}
use native.Mathlib.Omega.{arith}
use native.Mathlib.Decide.{ℕ_discrete}
use borrow.Author.Tests.{eq-eqb, ne_eqb}
use lib.Dec.{T, eqb, eqb→eq}
use Rattle.causality.specs.Event.{Event, History, Of}
use Rattle.causality.proofs.Events.{or_cases, or_left, or_right, of_pos, of_cases, of_either}
use Rattle.labels.specs.Label.{same_pair, between}
use Rattle.labels.specs.Name.{SamePair, in_order, exchanged, partner_of}

pub pair_sym : {a b c d : ℕ} → SamePair a b c d → SamePair c d a b
pair_sym (in_order e f) = in_order (sym e) (sym f)
pair_sym (exchanged e f) = exchanged (sym f) (sym e)

pub pair_trans : {a b c d x y : ℕ} → SamePair a b c d → SamePair c d x y → SamePair a b x y
pair_trans (in_order e f) (in_order g i) = in_order (e ∙ g) (f ∙ i)
pair_trans (in_order e f) (exchanged g i) = exchanged (e ∙ g) (f ∙ i)
pair_trans (exchanged e f) (in_order g i) = exchanged (e ∙ i) (f ∙ g)
pair_trans (exchanged e f) (exchanged g i) = in_order (e ∙ i) (f ∙ g)

and_both : (a b : Bool) → T (a && b) → T a × T b
and_both true b t = (tt, t)
and_both false b t = absurd t

and_intro : (a b : Bool) → T a → T b → T (a && b)
and_intro true b t u = u
and_intro false b t u = absurd t

-- the test of two numbers and two others, place by place
both_equal : (a b c d : ℕ) → T (eqb a c && eqb b d) → (a ≡ c) × (b ≡ d)
both_equal a b c d t = let (u, v) = and_both (eqb a c) (eqb b d) t in (eqb→eq a c u, eqb→eq b d v)

equal_both : (a b c d : ℕ) → a ≡ c → b ≡ d → T (eqb a c && eqb b d)
equal_both a b c d e f = rw (eq-eqb a c e, eq-eqb b d f) tt

-- the test is the relation
pub pair_of_test : (e f : Event) → T (same_pair e f) → SamePair e.first e.second f.first f.second
unfolding same_pair
pair_of_test e f t =
    elim (or_cases (eqb e.first f.first && eqb e.second f.second) (eqb e.first f.second && eqb e.second f.first) t) [
      | inl u ↦ let (i, j) = both_equal _ _ _ _ u in in_order i j
      | inr u ↦ let (i, j) = both_equal _ _ _ _ u in exchanged i j
    ]

pub test_of_pair : (e f : Event) → SamePair e.first e.second f.first f.second → T (same_pair e f)
unfolding same_pair
test_of_pair e f (in_order i j) =
    or_left (eqb e.first f.first && eqb e.second f.second) _ (equal_both _ _ _ _ i j)
test_of_pair e f (exchanged i j) =
    or_right (eqb e.first f.first && eqb e.second f.second) _ (equal_both _ _ _ _ i j)

-- a meeting between the two of e is one of each of them
pub between_of : (h : History) (e : Event) (k : ℕ) → T (between h e k) → Of h e.first k × Of h e.second k
unfolding between
between_of h e zero t = absurd t
between_of h e (suc k) t = go (pair_of_test e (h k) t)
  where
    go : SamePair e.first e.second (h k).first (h k).second → Of h e.first (suc k) × Of h e.second (suc k)
    go (in_order i j) = (of_either (inl (sym i)), of_either (inr (sym j)))
    go (exchanged i j) = (of_either (inr (sym i)), of_either (inl (sym j)))

-- a name read from either end gives the pair of its meeting
pub partner_pair : {h : History} {r k : ℕ} → Of h r (suc k) → SamePair (h k).first (h k).second r (partner_of h (suc k) r)
unfolding partner_of
partner_pair {h} {r} {k} o =
    elim (ℕ_discrete (h k).first r) [
      | yes e ↦ in_order e (rw (eq-eqb (h k).first r e))
      | no f ↦ exchanged (rw (ne_eqb (h k).first r f)) (elim (of_cases o) [ inl e ↦ absurd (f e) | inr e ↦ e ])
    ]

pub pair_between : {h : History} {r t m : ℕ} (k : ℕ) → Of h r k → Of h t (suc m)
    → SamePair r (partner_of h k r) t (partner_of h (suc m) t) → T (between h (h m) k)
unfolding between
pair_between zero o q s = absurd (omega (arith, of_pos o))
pair_between {h} {m = m} (suc k) o q s =
    test_of_pair (h m) (h k) (pair_trans (partner_pair q) (pair_trans (pair_sym s) (pair_sym (partner_pair o))))

pub one_pair : {h : History} {r t : ℕ} (k : ℕ) → Of h r k → Of h t k → SamePair r (partner_of h k r) t (partner_of h k t)
one_pair zero o q = absurd (omega (arith, of_pos o))
one_pair (suc k) o q = pair_trans (pair_sym (partner_pair o)) (partner_pair q)

-- the partner of either of the two
pub partner_first : (h : History) (k : ℕ) → partner_of h (suc k) (h k).first ≡ (h k).second
unfolding partner_of
partner_first h k = rw (eq-eqb (h k).first (h k).first refl)

pub partner_second : (h : History) (k : ℕ) → ((h k).first ≡ (h k).second → ⊥) → partner_of h (suc k) (h k).second ≡ (h k).first
unfolding partner_of
partner_second h k f = rw (ne_eqb (h k).first (h k).second f)
