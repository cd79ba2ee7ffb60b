-- Names: a partner with a label, read with its column.
-- Document 01: "In the column of stall r, partner b and label k name the meeting of r and b with label k; column b, partner r, label k names the same one."
use Rattle.std.specs.Prelude.{ℕ, zero, suc, ◌≡◌, cond, eqb}
use Rattle.causality.specs.Event.{History}
use Rattle.labels.specs.Label.{label}

-- the other stall of the meeting at place k, seen from stall r
unfoldable pub partner_of : History → ℕ → ℕ → ℕ
partner_of h zero r = 0
partner_of h (suc k) r = cond (eqb (h k).first r) (h k).second (h k).first

-- a name with the column that it stands in
pub record Name : Type 0 where
  pub column : ℕ
  pub partner : ℕ
  pub label : ℕ

-- "Its name at one of its stalls is the other stall with this label": the name of the meeting at place k in column r
unfoldable pub name_of : ℕ → History → ℕ → ℕ → Name
name_of N h r k = record { column = r; partner = partner_of h k r; label = label N h k }

-- a and b are c and d, in either order
pub data SamePair (a b c d : ℕ) : Type 0 where
  in_order : a ≡ c → b ≡ d → SamePair a b c d
  exchanged : a ≡ d → b ≡ c → SamePair a b c d

-- two names give the same pair and label
pub record SameName (a b : Name) : Type 0 where
  pub pair : SamePair a.column a.partner b.column b.partner
  pub label : a.label ≡ b.label
