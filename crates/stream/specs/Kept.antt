-- The line so far, as it is kept between blocks. No frame has more than 8 digits, so the first 9 bytes of a line tell as much as the whole of it.
use Rattle.std.specs.Prelude.{ℕ, ◌+◌, cond, List, [], ◌∷◌, ltb, eqb, take, set}
use Rattle.stream.specs.Stream.{newline}

abbrev pub longest_line : ℕ
longest_line = 9

-- a run of 9 bytes, and how many of them are of the line so far
pub record Kept : Type 0 where
  pub text : List ℕ
  pub count : ℕ

abbrev pub kept_line : Kept → List ℕ
kept_line k = take k.count k.text

-- one byte more of a line; behind 9 it is dropped
unfoldable pub with_byte : Kept → ℕ → Kept
with_byte k b = cond (ltb k.count longest_line) (record { text = set k.text k.count b; count = k.count + 1 }) k

-- a new line: no byte of the run changes
abbrev pub begun : Kept → Kept
begun k = record { text = k.text; count = 0 }

-- every byte of the run after some input
unfoldable pub kept_after : Kept → List ℕ → Kept
kept_after k [] = k
kept_after k (b ∷ input) = kept_after (cond (eqb b newline) (begun k) (with_byte k b)) input
