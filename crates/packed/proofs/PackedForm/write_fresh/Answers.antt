-- A fresh packed table.
use borrow.Author.Rules.{rules}
use mathlib.Core.Path.{sym, ap, ◌∙◌}
use lib.Seq.{length-take-le}
use Rattle.packed.proofs.FreshPacked.{fresh_fits, fresh_sized, fresh_long, fresh_packed, fresh_reads}
use Rattle.packed.specs.Form.{packed_length}
use Rattle.packed.proofs.PackedForm.write_fresh.Goals as goal

pub slice_bounds-room-end : goal.slice_bounds-room-end
slice_bounds-room-end c = fresh_fits c.args.n c.args.stall _ _ _ (search rules) c.from-m.ensures c.length_of.ensures (search rules)

pub slice_bounds-image-end : goal.slice_bounds-image-end
slice_bounds-image-end c = sym (length-take-le _ _ (fresh_fits c.args.n c.args.stall _ _ _ (search rules) c.from-m.ensures c.length_of.ensures (search rules)))

pub pack_image-requires : goal.pack_image-requires
pack_image-requires c = (
  fresh_sized c.args.n c.args.stall _ _ _ (search rules) c.from-m.ensures c.length_of.ensures (search rules) _ _ c.fresh.ensures c.write.ensures,
  fresh_long c.args.n c.args.stall _ _ c.room-room.result (search rules) c.from-m.ensures c.length_of.ensures (search rules) _ (c.if-packed-packed_length_of.false ∙ c.packed_length_of.ensures ∙ ap packed_length c.from-m.ensures),
)

pub returns-clause-fresh : goal.returns-clause-fresh
returns-clause-fresh c count long =
    c.pack_image.ensures ∙ fresh_packed c.args.n c.args.stall _ _ _ count c.from-m.ensures c.length_of.ensures (search rules) _ _ c.fresh.ensures c.write.ensures

pub returns-clause-reads : goal.returns-clause-reads
returns-clause-reads c count long = fresh_reads _ c.args.n c.args.stall count (c.pack_image.auto.packed ∙ long)
    (c.pack_image.ensures ∙ fresh_packed c.args.n c.args.stall _ _ _ count c.from-m.ensures c.length_of.ensures (search rules) _ _ c.fresh.ensures c.write.ensures)
