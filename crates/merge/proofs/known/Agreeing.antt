-- What is known, and so the verdict, depends only on what lies within n.
use Prim.Native.Nat.{ℕ, ◌≤◌}
use mathlib.Core.Path.{◌≡◌, ap, ap₂}
use mathlib.Core.Bool.{Bool, ◌&&◌, ◌||◌}
use Rattle.image.specs.Encode.{Table}
use Rattle.image.specs.Row.{is_never}
use Rattle.image.specs.declared.Name.{Name}
use Rattle.image.proofs.Search.{some_agree}
use Rattle.merge.specs.Known.{same_meeting, common, known}
use Rattle.merge.specs.Verdict.{verdict}

-- two functions of the stalls 1 to n
abbrev pub Agree : {A : Type 0} → ℕ → (ℕ → A) → (ℕ → A) → Type 0
Agree n f g = (s : ℕ) → 1 ≤ s → s ≤ n → f s ≡ g s

pub known_agree : (n : ℕ) (mine own theirs other : ℕ → Name) (marks order : ℕ → Bool) → Agree n mine own → Agree n theirs other → Agree n marks order
    → (r : ℕ) → 1 ≤ r → r ≤ n → known n mine marks theirs r ≡ known n own order other r
unfolding known common
known_agree n mine own theirs other marks order e f g r i j =
    ap₂ ◌||◌ (ap is_never (e r i j))
    (some_agree n _ _ (λ s k l. ap₂ ◌&&◌ (g s k l) (some_agree n _ _ (λ d v w. ap₂ (λ x y. same_meeting s x d y) (e s k l) (f d v w)))))

pub verdict_agree : (n p : ℕ) (a c : Table) (q : ℕ) (b d : Table) (r : ℕ) → 1 ≤ r → r ≤ n
    → Agree n (a.names p) (c.names p) → Agree n (b.names q) (d.names q) → Agree n (a.order r) (c.order r) → Agree n (b.order r) (d.order r)
    → verdict n p a q b r ≡ verdict n p c q d r
unfolding verdict
verdict_agree n p a c q b d r i j e f g h =
    rw (
      known_agree n (a.names p) (c.names p) (b.names q) (d.names q) (a.order r) (c.order r) e f g r i j,
      known_agree n (b.names q) (d.names q) (a.names p) (c.names p) (b.order r) (d.order r) f e h r i j,
      e r i j,
      f r i j,
    )
