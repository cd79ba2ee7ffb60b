-- 00, a byte, and some more.
use mathlib.Core.Path.{refl}
use mathlib.Core.List.{[], ◌∷◌}
use Rattle.line.proofs.Replying.{written_one, written_more, written_byte}
use Rattle.line.proofs.reply_with.Goals as goal

pub returns : goal.returns
returns c = (refl, written_more _ (0 ∷ c.args.byte ∷ []) _ 4 _ _ _ refl refl (written_byte _ (0 ∷ []) _ 2 _ _ refl (written_one _ _ _ c.put_byte.ensures) c.put_byte-2.ensures) c.put_bytes.ensures)
