-- The stalls by who has them.
use mathlib.Core.Path.{refl, ap, ◌∙◌}
use lib.Bits.{bit_and}
use Rattle.image.specs.Stalls.{without}
use Rattle.merge.proofs.orders.Marks.{pair_bits, apart_bits}
use Rattle.merge.proofs.orders.sorted.Goals as goal

pub returns : goal.returns
returns c =
    let x = c.args.x.now in
    let f = x.first.framed in
    let g = x.second.framed in
    let d = c.args.d in
    let pair = pair_bits x.first.n x.first.own x.second.own (f.n_to, f.own_from, f.own_to, g.own_from, rw x.one_size g.own_to) c.bit_of.ensures c.bit_of-2.ensures in
    let others = apart_bits x.first.n x.first.own x.second.own c.all_stalls.ensures pair c.without-others.ensures in
    record {
      pair_is = pair;
      first_is = c.without.ensures ∙ ap (λ o. without o d.two) others;
      second_is = c.without-2.ensures ∙ ap (λ o. without o d.one) others;
      alone_is = ap (λ o. bit_and o d.two) others;
      heard_is = refl;
    }
