-- The heard list, by what the check answers and by the buffer.
use Prim.Native.Nat.{ℕ, ◌+◌, ◌*◌}
use mathlib.Core.Path.{◌≡◌}
use mathlib.Core.List.{List}
use borrow.Author.Tests.{eq-eqb, ne_eqb}
use lib.ListN.{length}
use Rattle.image.specs.Frame.{Framed}
use Rattle.image.proofs.Stages.{number_le}
use Rattle.image.proofs.Accepted.{accepted}
use Rattle.image.specs.Check.{checked}
use Rattle.image.specs.declared.Header.{Header}
use Rattle.image.specs.declared.Checked.TheVariants.{Good, Refused}
use Rattle.head.specs.Heard.{HeardOutcome, heard_list, heard_from, heard_call}

module _ (s buffer : List ℕ) where
  pub heard_refused : {k code : ℕ} → checked s ≡ Refused k → code ≡ k → ◌≡◌ {A = HeardOutcome} (record { answer = 256 + code; records = buffer }) (heard_call s buffer)
  unfolding heard_from
  heard_refused e i = rw (e, i)

  pub heard_short : {h : Header} → checked s ≡ Good h → (length buffer ≡ 3 * h.n → ⊥) → ◌≡◌ {A = HeardOutcome} (record { answer = 264; records = buffer }) (heard_call s buffer)
  unfolding heard_from
  heard_short {h} e f = rw (e, ne_eqb (length buffer) (3 * h.n) f)

  -- an accepted image with a buffer of 3 × N bytes is not refused
  pub heard_accepted : {h : Header} → checked s ≡ Good h → length buffer ≡ 3 * h.n → heard_call s buffer ≡ heard_list s h.n h.stall
  unfolding heard_from
  heard_accepted {h} e i = rw (e, eq-eqb (length buffer) (3 * h.n) i)

-- what passes the check may be read
pub good_framed : {s : List ℕ} {h : Header} → checked s ≡ Good h → Framed s h.n h.stall
good_framed {s} {h} e = (accepted s h e).frame

-- what an accepted image is, and what numbers refusals have
pub ruleset accepts = (number_le, good_framed)
