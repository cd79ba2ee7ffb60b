-- What callers may use of the wall panel, as one record with a field for each law. `proofs/Theory.antt` proves it: of every list of numbers, where nothing else is said.
use Rattle.std.specs.Prelude.{ℕ, suc, ◌≤◌, ◌<◌, ◌≡◌, List, [], ◌∷◌, length, get_or, take}
use Rattle.image.specs.Theory.{Passes}
use Rattle.rank.specs.declared.Record.{Record}
use Rattle.head.specs.Heard.{heard_records}
use Rattle.packed.specs.Form.{unpacked}
use Rattle.panel.specs.Decimal.{digit, decimal, read_number}
use Rattle.panel.specs.Panel.{lines, panel_text, panel_length, panel_call, packed_panel_call}
use Rattle.panel.specs.Reading.{read_ranks, read_records}

-- so many ranks from one on
unfoldable pub ranks_from : ℕ → List Record → List ℕ
ranks_from rank [] = []
ranks_from rank (r ∷ l) = rank ∷ ranks_from (suc rank) l

pub record Theory : Type 0 where
  -- "numbers without leading zeros": the digits of a number stand for it, and only 0 begins with a 0.
  pub decimal_read : (k : ℕ) → read_number (decimal k) ≡ k
  pub no_leading_zero : (k : ℕ) → 1 ≤ k → get_or (decimal k) 0 0 ≡ digit 0 → ⊥
  -- Reading the lines back gives the records, of any list of records: no two lists have the same text. The ranks are 1, 2, 3, ..
  pub records_read : (l : List Record) → read_records (lines l) ≡ l
  pub ranks_read : (l : List Record) → read_ranks (lines l) ≡ ranks_from 1 l
  -- The text never needs more than the buffer, nor all of it: a 0 always follows, as behind a string of C.
  pub text_fits : (s : List ℕ) (n own : ℕ) → Passes s n own → length (panel_text s n own) < panel_length
  -- So a panel shows the heard list, neither more nor less: what was written, as long as the answer says, reads as its records;
  pub panel_shows : (s : List ℕ) (n own : ℕ) (buffer : List ℕ) → Passes s n own → length buffer ≡ panel_length
      → let o = panel_call s buffer in read_records (take o.answer o.text) ≡ heard_records s n own
  -- it fills the buffer and no more, and 256 or above is a refusal: "A refusal returns its number alone and changes no lent byte."
  pub panel_long : (s buffer : List ℕ) → length (panel_call s buffer).text ≡ length buffer
  pub panel_refused : (s buffer : List ℕ) → let o = panel_call s buffer in 256 ≤ o.answer → o.text ≡ buffer
  -- The panel of a packed image is that of the plain one.
  pub panel_same : (s buffer : List ℕ) → packed_panel_call s buffer ≡ panel_call (unpacked s) buffer
