-- An image, packed.
use borrow.Author.Rules.{rules}
use Rattle.packed.proofs.Joined.{packed_joined}
use Rattle.packed.proofs.pack.pack_image.Goals as goal

pub returns : goal.returns
returns c =
    let a = c.args in
    packed_joined a.image.now a.packed.now c.copy.new.to c.pack_rows.new.packed c.copy-2.new.to a.n c.yields_place-yields.result (search rules) c.copy.ensures
    c.requires.0 c.requires.1 c.yields_place-yields.ensures c.pack_rows.ensures c.copy-2.ensures
