-- The wall panel.
-- Request 2026-08: "From one head's image it writes .. into a lent buffer ..: rank, stall, yield in litres with one decimal (18 becomes `1.8`), or `-` for not milked,
-- single blanks between, newline after each, numbers without leading zeros (0 becomes `0.0`)."
-- Request 2026-09: "The panel writes sixteen lines at most, and its buffer becomes 256 bytes for every N."
use Rattle.std.specs.Prelude.{ℕ, suc, ◌+◌, ◌-◌, ◌/◌, ◌%◌, not, cond, List, [], ◌∷◌, ◌++◌, eqb, length, replicate}
use Rattle.image.specs.Layout.{no_yield}
use Rattle.image.specs.Check.{checked}
use Rattle.image.specs.declared.Checked.{Checked}
use Rattle.image.specs.declared.Checked.TheVariants.{Good, Refused}
use Rattle.rank.specs.declared.Record.{Record}
use Rattle.head.specs.Heard.{heard_records}
use Rattle.packed.specs.Form.{unpacked}
use Rattle.packed.specs.Check.{packed_checked}
use Rattle.panel.specs.Decimal.{digit, decimal}

-- in ASCII
abbrev pub newline : ℕ
newline = 10

abbrev pub blank : ℕ
blank = 32

abbrev pub dash : ℕ
dash = 45

abbrev pub point : ℕ
point = 46

-- "yield in litres with one decimal .., or `-` for not milked"
unfoldable pub litres : ℕ → List ℕ
litres given = cond (eqb given no_yield) (dash ∷ []) (decimal (given / 10) ++ point ∷ digit (given % 10) ∷ [])

-- "rank, stall, yield .., single blanks between, newline after each"
unfoldable pub line : ℕ → Record → List ℕ
line rank r = decimal rank ++ blank ∷ decimal r.stall ++ blank ∷ litres r.given ++ newline ∷ []

-- "Each heard stall has one line, and rank counts the lines from 1, equal yields too."
unfoldable pub lines_from : ℕ → List Record → List ℕ
lines_from rank [] = []
lines_from rank (r ∷ l) = line rank r ++ lines_from (suc rank) l

abbrev pub lines : List Record → List ℕ
lines = lines_from 1

-- "Order as in 2026-07": the records of the heard list
abbrev pub panel_text : List ℕ → ℕ → ℕ → List ℕ
panel_text s n own = lines (heard_records s n own)

-- The call

-- "its buffer becomes 256 bytes for every N"
unfoldable pub panel_length : ℕ
panel_length = 256

-- the answer, and the buffer afterwards
pub record PanelOutcome : Type 0 where
  pub answer : ℕ
  pub text : List ℕ

-- "the rest of the buffer is zeros and the written length comes back"
unfoldable pub shown : List ℕ → PanelOutcome
shown text = record { answer = length text; text = text ++ replicate (panel_length - length text) 0 }

-- by what the check finds: 256 plus 1 to 6 for the image, then plus 8 for "a buffer of another length", and the buffer as it was; else the text
unfoldable pub panel_from : List ℕ → List ℕ → Checked → PanelOutcome
panel_from s buffer (Good h) = cond (not (eqb (length buffer) panel_length)) (record { answer = 256 + 8; text = buffer }) (shown (panel_text s h.n h.stall))
panel_from s buffer (Refused number) = record { answer = 256 + number; text = buffer }

-- "01's checks 1 to 6 come first. It refuses with 8 a buffer of another length."
abbrev pub panel_call : List ℕ → List ℕ → PanelOutcome
panel_call s buffer = panel_from s buffer (checked s)

-- the panel of a packed image: that of the unpacked form
abbrev pub packed_panel_call : List ℕ → List ℕ → PanelOutcome
packed_panel_call s buffer = panel_from (unpacked s) buffer (packed_checked s)
