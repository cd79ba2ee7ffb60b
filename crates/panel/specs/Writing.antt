-- What the code writes: text at a place of a buffer, and the records that stand in the bytes of a heard list.
use Rattle.std.specs.Prelude.{ℕ, zero, suc, ◌+◌, ◌*◌, ◌≤◌, ◌≡◌, List, [], ◌∷◌, ◌++◌, length, get_or}
use Rattle.std.proofs.lemmas.List.Edits.{sets}
use Rattle.rank.specs.declared.Record.{Record}

-- there is room for a text at a place of a buffer
pub record Room (buffer : List ℕ) (at : ℕ) (text : List ℕ) : Type 0 where
  pub fits : at + length text ≤ length buffer

-- a text was put at a place of a buffer, and next is the place behind it
pub record Put (before : List ℕ) (at : ℕ) (text after : List ℕ) (next : ℕ) : Type 0 where
  pub put : after ≡ sets before at text
  pub behind : next ≡ at + length text

-- record i, from 0: "the stall byte and two yield bytes"
abbrev pub record_at : List ℕ → ℕ → Record
record_at bytes i = record { stall = get_or bytes (3 * i) 0; given = get_or bytes (3 * i + 1) 0 * 256 + get_or bytes (3 * i + 2) 0 }

-- the first records
unfoldable pub records_in : List ℕ → ℕ → List Record
records_in bytes zero = []
records_in bytes (suc i) = records_in bytes i ++ record_at bytes i ∷ []
