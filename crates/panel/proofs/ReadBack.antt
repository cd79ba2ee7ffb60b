-- Reading the lines back gives the records and their ranks.
use Prim.Native.Nat.{ℕ, suc, ◌+◌, ◌*◌, ◌/◌, ◌%◌}
use native.Mathlib.Omega.{arith}
use mathlib.Core.Path.{◌≡◌, refl, sym, ap, ap₂, ◌∙◌}
use mathlib.Core.List.{List, [], ◌∷◌, ◌++◌, map, append_assoc}
use lib.Seq.{append_snoc}
use Rattle.rank.specs.declared.Record.{Record}
use Rattle.panel.specs.Decimal.{decimal}
use Rattle.panel.specs.Panel.{newline, blank, dash, point, litres, line, lines_from, lines}
use Rattle.panel.specs.Reading.{parts_by, read_yield, read_rank, read_record, read_ranks, read_records}
use Rattle.panel.specs.Theory.{ranks_from}
use Rattle.panel.proofs.Decimals.{decimal_read, decimal_some}
use Rattle.panel.proofs.Parts.{Free, more, free_append, free_first, parts_ended, parts_last, free_decimal, litres_elim, litres_some, free_litres}

-- a number, a point and a number
point_read : (a b : ℕ) → read_yield (decimal a ++ point ∷ decimal b) ≡ a * 10 + b
unfolding read_yield
point_read a b =
    let first = free_first {separator = dash} (point ∷ decimal b) (free_decimal (omega arith) a) (decimal_some a) in
    let digits : (k : ℕ) → Free point (decimal k) = free_decimal (omega arith) in
    rw (first, parts_ended _ (digits a), parts_last (digits b) (decimal_some b), decimal_read a, decimal_read b)

litres_read : (given : ℕ) → read_yield (litres given) ≡ given
unfolding read_yield
litres_read given = litres_elim (λ w. read_yield w ≡ given) given sym (point_read (given / 10) (given % 10) ∙ omega arith)

module _ (rank : ℕ) (r : Record) where
  -- a line without its newline
  abbrev words : List ℕ
  words = decimal rank ++ blank ∷ decimal r.stall ++ blank ∷ litres r.given

  words_free : Free newline words
  words_free =
      let digits : (k : ℕ) → Free newline (decimal k) = free_decimal (omega arith) in
      free_append (free_append (digits rank) (more (λ e. omega arith) (digits r.stall))) (more (λ e. omega arith) (free_litres (omega arith) r.given))

  words_parts : parts_by blank words ≡ decimal rank ∷ decimal r.stall ∷ litres r.given ∷ []
  words_parts =
      let digits : (k : ℕ) → Free blank (decimal k) = free_decimal (omega arith) in
      let yield : Free blank (litres r.given) = free_litres (omega arith) r.given in
      rw (append_assoc, parts_ended _ (digits rank), parts_ended _ (digits r.stall), parts_last yield (litres_some r.given))

  rank_read : read_rank words ≡ rank
  unfolding read_rank
  rank_read = rw words_parts (decimal_read rank)

  record_read : read_record words ≡ r
  unfolding read_record
  record_read = rw (words_parts, decimal_read r.stall, litres_read r.given)

  -- the first line is a part, and the others are those of the rest
  line_first : (text : List ℕ) → parts_by newline (line rank r ++ text) ≡ words ∷ parts_by newline text
  unfolding line
  line_first text = ap (parts_by newline) (append_snoc words newline text) ∙ parts_ended text words_free

-- from any rank on
records_from : (rank : ℕ) (l : List Record) → read_records (lines_from rank l) ≡ l
unfolding lines_from parts_by
records_from rank [] = refl
records_from rank (r ∷ l) = ap (map read_record) (line_first rank r (lines_from (suc rank) l)) ∙ ap₂ ◌∷◌ (record_read rank r) (records_from (suc rank) l)

ranks_from_lem : (rank : ℕ) (l : List Record) → read_ranks (lines_from rank l) ≡ ranks_from rank l
unfolding lines_from parts_by ranks_from
ranks_from_lem rank [] = refl
ranks_from_lem rank (r ∷ l) = ap (map read_rank) (line_first rank r (lines_from (suc rank) l)) ∙ ap₂ ◌∷◌ (rank_read rank r) (ranks_from_lem (suc rank) l)

pub records_read : (l : List Record) → read_records (lines l) ≡ l
records_read = records_from 1

pub ranks_read : (l : List Record) → read_ranks (lines l) ≡ ranks_from 1 l
ranks_read = ranks_from_lem 1
