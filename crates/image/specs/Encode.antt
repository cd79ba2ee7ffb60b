-- A table as what it says, and the image of it.
use Rattle.std.specs.Prelude.{ℕ, zero, suc, ◌/◌, ◌%◌, Bool, false, List, [], ◌∷◌, ◌++◌}
use Rattle.image.specs.Stalls.{each, bits}
use Rattle.image.specs.Layout.{no_yield, order_width, current_at, yield_at, name_at, mark_at}
use Rattle.image.specs.declared.Name.{Name}
use Rattle.image.specs.declared.Name.TheVariants.{Never, With}

-- what a table holds besides N and its stall: the current yield, the name in each row and column, the yields and the order marks
pub record Table : Type 0 where
  pub current : ℕ
  pub names : ℕ → ℕ → Name
  pub yields : ℕ → ℕ
  pub order : ℕ → ℕ → Bool

-- the table of a head that was not milked and has heard nobody
unfoldable pub nothing : Table
nothing = record { current = no_yield; names = λ r c. Never; yields = λ r. no_yield; order = λ r s. false }

-- a name as two bytes
abbrev pub name_bytes : Name → List ℕ
name_bytes Never = 0 ∷ 0 ∷ []
name_bytes (With m) = m.partner ∷ m.label ∷ []

-- a number as two bytes, high first
abbrev pub word_bytes : ℕ → List ℕ
word_bytes x = x / 256 ∷ x % 256 ∷ []

-- a number as so many bytes, high first; what the others leave is the first
unfoldable pub number_bytes : ℕ → ℕ → List ℕ
number_bytes zero x = []
number_bytes (suc zero) x = x ∷ []
number_bytes (suc (suc width)) x = number_bytes (suc width) (x / 256) ++ (x % 256 ∷ [])

-- an order entry of n stalls as bytes
unfoldable pub order_bytes : ℕ → ℕ → List ℕ
order_bytes n x = number_bytes (order_width n) x

-- the image of a table of n stalls, of the head at stall own
unfoldable pub encode : ℕ → ℕ → Table → List ℕ
encode n own t =
    (n ∷ own ∷ word_bytes t.current)
    ++ each n (λ r. each n (λ c. name_bytes (t.names r c)))
    ++ each n (λ r. word_bytes (t.yields r))
    ++ each n (λ r. order_bytes n (bits n (t.order r)))

-- what an image says
unfoldable pub table_of : List ℕ → ℕ → Table
table_of s n = record { current = current_at s; names = name_at s n; yields = yield_at s n; order = mark_at s n }
