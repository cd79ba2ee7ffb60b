-- The theorems of `specs/Theory.antt` hold of the calls on plain images, for every n.
use Prim.Native.Nat.{ℕ}
use Rattle.parlour.specs.Run.{plain_calls}
use Rattle.traces.specs.Theory.{Theory}
use Rattle.traces.proofs.EitherEnd.{either_end}
use Rattle.traces.proofs.TakingPart.{four_heads}
use Rattle.traces.proofs.Trades.{trade_independent}
use Rattle.traces.proofs.OwnOrder.{own_order}

pub theory : (n : ℕ) → Theory plain_calls n
theory n =
    record {
      either_end = λ calls images. either_end;
      trade_places = λ calls calls' images images' run run' later earlier p q r s b c p_r p_s q_r q_s.
          trade_independent run run' later earlier _ _ (four_heads b c p_r p_s q_r q_s);
      trade_independent = λ calls calls' images images'. trade_independent;
      own_order = λ calls calls' images images'. own_order;
    }
