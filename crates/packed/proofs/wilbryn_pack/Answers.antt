-- An image packed into a buffer.
use mathlib.Core.Path.{sym, ap, ◌∙◌}
use native.Mathlib.Omega.{arith}
use Rattle.image.proofs.Accepted.{accepted}
use Rattle.packed.specs.Form.{packed_length}
use Rattle.packed.specs.Bytes.{packed_of}
use Rattle.packed.proofs.Forms.{packed_is}
use Rattle.packed.proofs.Checks.{packable_good}
use Rattle.packed.proofs.Packing.{into_done, accepted_sized, packed_long}
use Rattle.packed.proofs.wilbryn_pack.Goals as goal

pub pack_image-requires : goal.pack_image-requires
pack_image-requires c =
    let (good, few) = packable_good c.args.image.now (sym c.in-Good.ensures) in
    let w = accepted c.args.image.now _ good in
    let n = c.from-n.ensures in
    (accepted_sized w n, packed_long w n few (c.if-packed-packed_length_of.false ∙ c.packed_length_of.ensures))

pub returns : goal.returns
returns c =
    let a = c.args in
    let n = c.from-n.ensures in
    let (passes, few) = packable_good a.image.now (sym c.in-Good.ensures) in
    into_done _ _ packed_length (sym c.in-Good.ensures) (c.if-packed-packed_length_of.false ∙ c.packed_length_of.ensures ∙ ap packed_length n)
    (c.pack_image.ensures ∙ ap (λ k. packed_of k a.image.now) n ∙ packed_is (accepted a.image.now _ passes) few (λ k. omega (arith, c.type_inv.image k)))
