-- When a yield is not milked, after any list of calls.
-- Request 2026-01: "A cow that gave nothing reads 0, and so does a head nobody has used since power-on .. Hexadecimal ffff now means not milked".
use Rattle.std.specs.Prelude.{ℕ, suc, ◌≤◌, ◌≡◌, ◌↔◌, Bool, false, ◌||◌, cond, List, [], ◌∷◌, eqb}
use Rattle.causality.specs.Clock.{latest}
use Rattle.image.specs.Layout.{no_yield, current_at, yield_at}
use Rattle.parlour.specs.Item.{Item, milking, meeting, history}
use Rattle.parlour.specs.History.{meetings, events}
use Rattle.parlour.specs.Run.{Images, Called}
use Rattle.parlour.specs.Claim.{items}

-- some milking of stall r stands there
unfoldable pub is_milked : List Item → ℕ → Bool
is_milked [] r = false
is_milked (milking stall yield ∷ earlier) r = eqb stall r || is_milked earlier r
is_milked (meeting first second buffer ∷ earlier) r = is_milked earlier r

-- what stands before the meeting at place k; nothing where there is no such meeting
unfoldable pub before : List Item → ℕ → List Item
before [] k = []
before (milking stall yield ∷ earlier) k = before earlier k
before (meeting first second buffer ∷ earlier) k = cond (eqb k (suc (meetings earlier))) earlier (before earlier k)

pub record NotMilked (n : ℕ) (calls : List Called) (images : Images) : Type 0 where
  -- a head's current yield, exactly when no milking of it counts
  pub current : (p : ℕ) → 1 ≤ p → p ≤ n → (current_at (images p) ≡ no_yield) ↔ (is_milked (history n (items calls)) p ≡ false)
  -- a stall's yield in a head's image, exactly when no milking of the stall counts before its latest
  pub stall : (p r : ℕ) → 1 ≤ p → p ≤ n → 1 ≤ r → r ≤ n
      → let l = history n (items calls) in (yield_at (images p) n r ≡ no_yield) ↔ (is_milked (before l (latest (events l) (meetings l) p r)) r ≡ false)
