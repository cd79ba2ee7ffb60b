-- The own row against the name of each row's own stall.
use Rattle.std.proofs.Common.{ℕ, ◌≡◌, ◌+◌, ◌-◌, ◌*◌, ◌<◌, List, ◌&&◌, not, eqb, get_or, ap, ◌∙◌, arith}
use mathlib.Core.Path.{ap₂}
use native.Mathlib.Decide.{ℕ_discrete}
use native.Mathlib.Nat.{mul-add}
use borrow.Author.Tests.{eq-eqb, ne_eqb}
use lib.Bits.{bit_xor}
use Rattle.image.specs.Layout.{largest, row_place, partner_at, label_at, heard_at}
use Rattle.image.specs.Check.{bad_diagonal}
use Rattle.image.proofs.Search.{looked_start, looked_more, looked_as, looked_on}
use Rattle.image.proofs.Gather.{bit_start, bit_next, bit_le, gather_start, gather_next, gathered_lt}
use Rattle.image.proofs.Lanes.{or_test, xor_differ}
use Rattle.image.proofs.names.own_names.Goals as goal

-- two numbers of two bytes are the same where both bytes are
both_bytes : (a b c d : ℕ) → a < 256 → c < 256 → eqb (a + b * 256) (c + d * 256) ≡ (eqb a c && eqb b d)
both_bytes a b c d p q = elim (ℕ_discrete a c) [
  | yes e ↦ elim (ℕ_discrete b d) [
    | yes i ↦ rw (eq-eqb a c e, eq-eqb b d i) (eq-eqb (a + b * 256) (c + d * 256) (omega arith))
    | no i ↦ rw (eq-eqb a c e, ne_eqb b d i) (ne_eqb (a + b * 256) (c + d * 256) (λ j. i (omega arith)))
  ]
  | no e ↦ rw (ne_eqb a c e) (ne_eqb (a + b * 256) (c + d * 256) (λ j. e (omega arith)))
]

name_test : (s : List ℕ) (n own r here there x y : ℕ) → get_or s here 0 < 256 → get_or s there 0 < 256 → here ≡ row_place n r + (r - 1) * 2 → there ≡ row_place n own + (r - 1) * 2
    → x ≡ get_or s here 0 + get_or s (here + 1) 0 * 256 → y ≡ get_or s there 0 + get_or s (there + 1) 0 * 256 → not (eqb (bit_xor x y) 0) ≡ bad_diagonal s n own r
unfolding bad_diagonal
name_test s n own r here there x y v w h t p q =
    let two : ℕ → ℕ = λ k. get_or s k 0 + get_or s (k + 1) 0 * 256 in
    xor_differ x y
    ∙ ap not
    (ap₂ eqb (p ∙ ap two h) (q ∙ ap two t)
    ∙ both_bytes (partner_at s n r r) (label_at s n r r) (partner_at s n own r) (label_at s n own r) (omega (arith, v, ap (λ k. get_or s k 0) h)) (omega (arith, w, ap (λ k. get_or s k 0) t)))

heard_test : (s : List ℕ) (n own r there : ℕ) → there ≡ row_place n own + (r - 1) * 2 → not (eqb (get_or s there 0) 0) ≡ heard_at s n own r
unfolding heard_at
heard_test s n own r there t = ap (λ k. not (eqb (get_or s k 0) 0)) t

here_is : (n r here : ℕ) → here ≡ 4 + (r - 1) * (n + n + 2) → here ≡ row_place n r + (r - 1) * 2
here_is n r here e = omega (arith, mul-add (r - 1) (n + n) 2)

pub loop-init : goal.loop-init
loop-init c = (looked_start _, omega (arith, c.row_start-there.ensures), bit_start, gather_start _)

pub overflow_add-set : goal.overflow_add-set
overflow_add-set c =
    let i = c.loop.invariant in
    let p = c.args.x.now.framed in
    omega (arith, gathered_lt i.3 i.2, bit_le largest i.2 (omega (arith, c.loop-test.true, c.from-n.ensures, p.n_to)), c.pick-set.ensures)

pub loop-preserved : goal.loop-preserved
loop-preserved c =
    let a = c.args in
    let s = a.x.now.bytes.now in
    let l = c.loop in
    let i = l.invariant in
    let x = c.two_at.result in
    let y = c.two_at-in-loop.result in
    let k : l.counter ≡ l.counter + 1 - 1 = omega arith in
    let there = i.1 ∙ ap (λ y. row_place a.x.now.n a.x.now.own + y * 2) k in (
      looked_as (or_test l.bad (bit_xor x y))
          (looked_on l.here (omega (arith, c.from-n.ensures))
          (looked_more i.0 (omega (arith, c.loop-test.true, c.from-n.ensures)) (not (eqb (bit_xor x y) 0))
          (name_test s a.x.now.n a.x.now.own (l.counter + 1) l.here l.there x y c.two_at.ensures.1 c.two_at-in-loop.ensures.1
          (here_is a.x.now.n (l.counter + 1) l.here i.0.stands) there c.two_at.ensures.0 c.two_at-in-loop.ensures.0))),
      omega (arith, i.1),
      bit_next i.2,
      gather_next i.3 i.2 (not (eqb (get_or s l.there 0) 0)) c.pick-set.ensures.0 (heard_test s a.x.now.n a.x.now.own (l.counter + 1) l.there there),
    )
