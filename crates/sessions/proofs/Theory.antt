-- The theorems of `specs/Theory.antt` hold.
use Rattle.line.proofs.answer.Met as answer
use Rattle.stream.proofs.feed.Met as feed
use Rattle.stream.proofs.finish.Met as finish
use Rattle.sessions.specs.Theory.{Theory, Returns}
use Rattle.sessions.proofs.Calls.{claim, sessions_exist}
use Rattle.sessions.proofs.SettledLines.{settled}
use Rattle.sessions.proofs.Inputs.{blocks, runs, blocks_exist}

pub theory : Theory
theory = record { claim = claim; settled = settled; sessions_exist = sessions_exist; blocks = blocks; runs = runs; blocks_exist = blocks_exist }

pub returns : Returns
returns = record { answer = answer.met; feed = feed.met; finish = finish.met }
