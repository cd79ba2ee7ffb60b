-- What callers may use of an answer. `proofs/Theory.antt` proves it for every state.
use Rattle.std.specs.Prelude.{ℕ, ◌≡◌, List, length, get_or}
use Rattle.line.specs.Parlour.{state_length, is_open}
use Rattle.line.specs.Answer.{reply_to}
use Rattle.line.specs.declared.frame.Frame.{Frame}

pub record Theory : Type 0 where
  -- "A refusal returns its number alone and changes no lent byte.": an answer that does not begin with 00 has one byte, and every byte of the state is as it was.
  pub refusal_alone : (state : List ℕ) (frame : Frame) → let reply = reply_to state (is_open state) frame in length state ≡ state_length
      → (get_or reply.bytes 0 0 ≡ 0 → ⊥) → (length reply.bytes ≡ 1) × (reply.state ≡ state)
