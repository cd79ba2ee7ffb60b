-- 00 and some bytes.
use mathlib.Core.Path.{refl}
use mathlib.Core.List.{[], ◌∷◌}
use Rattle.line.proofs.Replying.{written_one, written_more}
use Rattle.line.proofs.reply_bytes.Goals as goal

pub returns : goal.returns
returns c = (refl, written_more _ (0 ∷ []) _ 2 _ _ _ refl refl (written_one _ _ _ c.put_byte.ensures) c.put_bytes.ensures)
