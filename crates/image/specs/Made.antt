-- What a well-made table is: the checks 4 to 6, said of a table and not of its bytes.
use Rattle.std.specs.Prelude.{ℕ, ◌≤◌, ◌≡◌, true}
use Rattle.image.specs.Layout.{is_yield, label_limit, no_yield}
use Rattle.image.specs.Encode.{Table}
use Rattle.image.specs.declared.Name.{Name}
use Rattle.image.specs.declared.Name.TheVariants.{Never, With}

-- a name that may stand in column c: the partner is another stall of 1 to n, and "Labels run from 0 to" the limit
abbrev pub NameIn : ℕ → ℕ → Name → Type 0
NameIn n c Never = Unit {0}
NameIn n c (With m) = (1 ≤ m.partner) × (m.partner ≤ n) × (m.partner ≡ c → ⊥) × (m.label ≤ label_limit n)

-- the table t of the head at stall own, of n stalls; a stall that the own row has no name for was "never heard"
pub record Made (n own : ℕ) (t : Table) : Type 0 where
  -- the current yield: "decilitres, 0 to 999", or not milked
  pub current_in : is_yield t.current ≡ true
  -- and no other "stall .. yield over 999"
  pub yields_in : (r : ℕ) → 1 ≤ r → r ≤ n → is_yield (t.yields r) ≡ true
  -- no "partner above N or equal to the column; label above" the limit
  pub names_in : (r c : ℕ) → 1 ≤ r → r ≤ n → 1 ≤ c → c ≤ n → NameIn n c (t.names r c)
  -- no "row r, column r not equal to the own row's column r"
  pub diagonal : (r : ℕ) → 1 ≤ r → r ≤ n → t.names r r ≡ t.names own r
  -- "If s was never heard, the row is all none."
  pub unheard_row : (r c : ℕ) → 1 ≤ r → r ≤ n → 1 ≤ c → c ≤ n → t.names own r ≡ Never → t.names r c ≡ Never
  -- Request 2026-01: "it is .. the stall yield of a stall never heard"
  pub unheard_yield : (r : ℕ) → 1 ≤ r → r ≤ n → t.names own r ≡ Never → t.yields r ≡ no_yield
  -- no "mark that involves a stall never heard"
  pub marks_heard : (r s : ℕ) → 1 ≤ r → r ≤ n → 1 ≤ s → s ≤ n → t.order r s ≡ true → (t.names own r ≡ Never → ⊥) × (t.names own s ≡ Never → ⊥)
  -- no "heard stall r without (r, r)"
  pub marked_self : (r : ℕ) → 1 ≤ r → r ≤ n → (t.names own r ≡ Never → ⊥) → t.order r r ≡ true
  -- ".. or without (r, own)"
  pub marked_own : (r : ℕ) → 1 ≤ r → r ≤ n → (t.names own r ≡ Never → ⊥) → t.order r own ≡ true
