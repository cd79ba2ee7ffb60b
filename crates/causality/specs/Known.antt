-- What the rule of a meeting looks at, as events: order, known, and the event that two views have in common.
-- Document 01: "Order mark (r, s): set when the latest of r lies in the past of the latest of s." and "The first's latest of r is *known* to the second if it
-- is none, or if some column s of the first's own row names a meeting that the second's own row names too, in whatever column, and the first has order mark (r, s)."
use Rattle.std.specs.Prelude.{ℕ, ◌≡◌}
use Rattle.causality.specs.Event.{History}
use Rattle.causality.specs.Past.{Past}
use Rattle.causality.specs.Clock.{latest}

-- the order of p's latests: an edge of the primary graph (document 004, section 3)
abbrev pub Order : History → ℕ → ℕ → ℕ → ℕ → Type 0
Order h n p r s = Past h (latest h n p r) (latest h n p s)

-- p's latest of r is known to q
pub data Known (h : History) (n p q r : ℕ) : Type 0 where
  none_heard : latest h n p r ≡ 0 → Known h n p q r
  common : (s t : ℕ) → latest h n p s ≡ latest h n q t → Order h n p r s → Known h n p q r

-- an event that is a latest of p and a latest of q, with x in its past
pub record CommonEvent (h : History) (n p q x : ℕ) : Type 0 where
  pub event : ℕ
  pub above : Past h x event
  pub one : ℕ
  pub of_p : latest h n p one ≡ event
  pub other : ℕ
  pub of_q : latest h n q other ≡ event
