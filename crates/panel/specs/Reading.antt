-- The wall panel read: lines, the words of a line, and the numbers that they stand for. It knows nothing of how a line is written.
use Rattle.std.specs.Prelude.{ℕ, ◌+◌, ◌*◌, cond, List, [], ◌∷◌, map, eqb, get_or}
use Rattle.image.specs.Layout.{no_yield}
use Rattle.rank.specs.declared.Record.{Record}
use Rattle.panel.specs.Decimal.{read_number}
use Rattle.panel.specs.Panel.{newline, blank, dash, point}

-- a character in front of the first part
unfoldable pub in_front : ℕ → List (List ℕ) → List (List ℕ)
in_front c [] = (c ∷ []) ∷ []
in_front c (p ∷ parts) = (c ∷ p) ∷ parts

-- the parts of a text that a separator ends, and what stands behind the last, if anything does
unfoldable pub parts_by : ℕ → List ℕ → List (List ℕ)
parts_by separator [] = []
parts_by separator (c ∷ text) = cond (eqb c separator) ([] ∷ parts_by separator text) (in_front c (parts_by separator text))

-- part k, from 0
abbrev pub part : ℕ → ℕ → List ℕ → List ℕ
part separator k text = get_or (parts_by separator text) k []

-- a yield in decilitres: what stands before the point, and the decimal behind it
unfoldable pub read_yield : List ℕ → ℕ
read_yield word = cond (eqb (get_or word 0 0) dash) no_yield (read_number (part point 0 word) * 10 + read_number (part point 1 word))

-- a line: its rank, and its record
unfoldable pub read_rank : List ℕ → ℕ
read_rank words = read_number (part blank 0 words)

unfoldable pub read_record : List ℕ → Record
read_record words = record { stall = read_number (part blank 1 words); given = read_yield (part blank 2 words) }

-- all lines
abbrev pub read_ranks : List ℕ → List ℕ
read_ranks text = map read_rank (parts_by newline text)

abbrev pub read_records : List ℕ → List Record
read_records text = map read_record (parts_by newline text)
