-- Some row of a stall never heard is bad.
use Rattle.std.proofs.Common.{ℕ, ◌≡◌, ◌+◌, ◌-◌, ◌*◌, List, Bool, ◌&&◌, ◌||◌, not, eqb, get_or, sym, ap, ◌∙◌, arith}
use mathlib.Core.Path.{ap₂}
use mathlib.Core.Bool.{not-not}
use Rattle.image.specs.Stalls.{some}
use Rattle.image.specs.Layout.{no_yield, row_place, yield_place, word, partner_at, heard_at}
use Rattle.image.specs.Check.{bad_unheard}
use Rattle.image.proofs.Search.{looked_start, looked_more, looked_on}
use Rattle.image.proofs.Places.{yields_from_lem}
use Rattle.image.proofs.names.bad_unheards.Goals as goal

unheard_test : (s : List ℕ) (n own r at there yields : ℕ) {bad : Bool}
    → bad ≡ (eqb (get_or s there 0) 0 && (some n (λ c. not (eqb (get_or s (at + (c - 1) * 2) 0) 0)) || not (eqb (word s yields) no_yield))) → at ≡ row_place n r → there ≡ row_place n own + (r - 1) * 2 → yields ≡ yield_place n r
    → bad ≡ bad_unheard s n own r
unfolding bad_unheard heard_at
unheard_test s n own r at there yields e a t y =
    e
    ∙ ap₂ ◌&&◌
    (ap (λ k. eqb (get_or s k 0) 0) t ∙ sym (not-not (eqb (partner_at s n own r) 0)))
    (ap₂ (λ k l. some n (λ c. not (eqb (get_or s (k + (c - 1) * 2) 0) 0)) || not (eqb (word s l) no_yield)) a y)

pub loop-init : goal.loop-init
loop-init c = (looked_start _, yields_from_lem c.args.x.now.framed.long c.from-n.ensures c.yields_place-yields.ensures ∙ omega arith, omega (arith, c.row_start-there.ensures))

pub loop-preserved : goal.loop-preserved
loop-preserved c =
    let a = c.args in
    let l = c.loop in
    let i = l.invariant in
    let k : l.counter ≡ l.counter + 1 - 1 = omega arith in (
      looked_on l.at (omega (arith, c.from-n.ensures)) (looked_more i.0 (omega (arith, c.loop-test.true, c.from-n.ensures)) c.bad_unheard-bad.result
          (unheard_test a.x.now.bytes.now a.x.now.n a.x.now.own (l.counter + 1) l.at l.there l.yields (rw c.from-n.ensures at c.bad_unheard-bad.ensures) i.0.stands (i.2 ∙ ap (λ y. row_place a.x.now.n a.x.now.own + y * 2) k) i.1)),
      omega (arith, i.0.from),
      omega (arith, i.0.from),
    )
