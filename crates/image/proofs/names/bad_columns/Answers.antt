-- No row so far has a bad name in the eight columns behind column C.
use Rattle.std.proofs.Common.{ℕ, ◌≡◌, ◌+◌, ◌-◌, ◌*◌, List, Bool, true, not, eqb, min, refl, sym, ap, ◌∙◌, arith}
use borrow.Author.Tests.{ne_eqb}
use Rattle.image.specs.Stalls.{some}
use Rattle.image.specs.Frame.{Sized, Framed}
use Rattle.image.specs.Columns.{columns_from, bad_at}
use Rattle.image.proofs.Search.{some_next}
use Rattle.image.proofs.Windows.{some_true}
use Rattle.image.proofs.NameLanes.{first_columns, columns_on}
use Rattle.image.proofs.RowWords.{row_room, row_names}
use Rattle.image.proofs.names.bad_columns.Goals as goal

-- some of the eight names behind column c of row r is bad
abbrev bad_behind : List ℕ → ℕ → ℕ → ℕ → Bool
bad_behind s n c r = some (min (n - c) 8) (λ j. bad_at s n r (c + j))

-- what the lemmas on rows ask
sized : {s : List ℕ} {n own : ℕ} → Framed s n own → Sized s n
sized f = record { n_from = f.n_from; n_to = f.n_to; long = f.long }

pub loop-init : goal.loop-init
unfolding some
loop-init g c = (refl, omega arith, refl)

pub bad_in_row-bad-requires : goal.bad_in_row-bad-requires
bad_in_row-bad-requires g c =
    let k = g.row.C in
    let x = c.args.x.now in
    let e : 0 + k ≡ k = omega arith in (
      omega (arith, c.requires.1, x.framed.n_from),
      omega (arith, c.requires.0, c.requires.1),
      rw c.requires.1 (row_room x.bytes.now x.n c.loop.counter c.loop.invariant.1 (sized x.framed) (omega (arith, c.loop-test.true, c.from-n.ensures))),
      ap (λ x. x + 0x0001000100010001 * k) first_columns ∙ columns_on 0 k ∙ ap columns_from e,
    )

pub loop-preserved : goal.loop-preserved
loop-preserved g c =
    let x = c.args.x.now in
    let l = c.loop in
    let i = l.invariant in (
      c.if-bad-ne0.false,
      omega (arith, i.1, ap (λ k. (l.counter + 1) * (k + k)) c.from-n.ensures, c.from-n.ensures),
      sym (some_next l.counter (bad_behind x.bytes.now x.n g.row.C) (row_names x.bytes.now x.n l.counter i.1 g.row.C (min (x.n - g.row.C) 8) (rw c.requires.1 at c.bad_in_row-bad.ensures)) (sym i.2))
          ∙ ap (λ b. not (eqb b 0)) c.if-bad-ne0.false,
    )

pub returns-then-bad-ne0 : goal.returns-then-bad-ne0
returns-then-bad-ne0 g c =
    let x = c.args.x.now in
    let l = c.loop in
    let found : not (eqb c.bad_in_row-bad.result 0) ≡ true = ap not (ne_eqb c.bad_in_row-bad.result 0 c.if-bad-ne0.true) in
    found
    ∙ sym (some_true x.n (bad_behind x.bytes.now x.n g.row.C) (l.counter + 1) (omega arith) (omega (arith, c.loop-test.true, c.from-n.ensures))
    (sym (row_names x.bytes.now x.n l.counter l.invariant.1 g.row.C (min (x.n - g.row.C) 8) (rw c.requires.1 at c.bad_in_row-bad.ensures)) ∙ found))
