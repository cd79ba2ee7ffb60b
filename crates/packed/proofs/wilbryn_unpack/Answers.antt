-- A packed image unpacked into a buffer.
use mathlib.Core.Path.{sym, ap, ◌∙◌}
use Rattle.image.specs.Check.{checked, number_of}
use Rattle.packed.proofs.Packing.{unpack_refused}
use Rattle.packed.proofs.wilbryn_unpack.Goals as goal

pub returns-in_default : goal.returns-in_default
returns-in_default c =
    unpack_refused c.args.packed.now c.args.image.now (sym c.in_default.is ∙ c.check-c.ensures ∙ ap checked c.unpack_into-plain.ensures)
    (c.number_of.ensures ∙ ap number_of c.in_default.is)
