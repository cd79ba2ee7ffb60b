-- What is handed to the plain calls in the place of a packed image.
use mathlib.Core.Path.{sym, ap, ◌∙◌}
use Rattle.packed.specs.Form.{packed_length}
use Rattle.packed.proofs.Handed.{handed_sized}
use Rattle.packed.proofs.unpack.unpack_into.Goals as goal

pub unpack_image-requires : goal.unpack_image-requires
unpack_image-requires c =
    handed_sized c.args.packed.now c.if-packed-eq0.false (sym c.bad_packed_count.ensures ∙ c.if-bad_packed_count.false)
    (c.if-packed-packed_length_of.false ∙ c.packed_length_of.ensures ∙ ap packed_length c.from-m.ensures) c.from-m.ensures c.length_of.ensures c.args.room.now c.told-room
