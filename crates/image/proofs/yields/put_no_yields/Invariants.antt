-- Yields of heads that were not milked, written one after the other.
use Rattle.std.proofs.Common.{◌≡◌, length}
use Rattle.image.proofs.YieldRange.{no_yield_bytes}
use Rattle.image.proofs.Blocks.{blocks}
use Rattle.image.proofs.yields.put_no_yields.Given as goal

abbrev pub invariant-loop-c : goal.invariant-loop-c
invariant-loop-c l = (l.image ≡ blocks l.initial.image l.at 2 no_yield_bytes l.c) × (length l.image ≡ length l.initial.image)
