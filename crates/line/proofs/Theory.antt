-- The law of `specs/Theory.antt` holds of every state.
use Rattle.line.specs.Theory.{Theory}
use Rattle.line.proofs.Refusals.{refusal_alone}

pub theory : Theory
theory = record { refusal_alone = refusal_alone }
