-- A packed image, unpacked.
use borrow.Author.Rules.{rules}
use Rattle.packed.proofs.Joined.{unpacked_joined}
use Rattle.packed.proofs.unpack.unpack_image.Goals as goal

pub returns : goal.returns
returns c =
    let a = c.args in
    unpacked_joined a.packed.now a.image.now c.copy.new.to c.unpack_rows.new.image c.copy-2.new.to a.n c.yields_place-yields.result (search rules) c.copy.ensures
    c.requires.0 c.requires.1 c.yields_place-yields.ensures c.unpack_rows.ensures c.copy-2.ensures
