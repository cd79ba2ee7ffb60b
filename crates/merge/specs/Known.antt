-- What two heads that meet know of each other's latests.
-- Document 01: "All names compared are from own rows. The first's latest of r is *known* to the second if it is none, or if some column s of the first's own row
-- names a meeting that the second's own row names too, in whatever column, and the first has order mark (r, s)."
use Rattle.std.specs.Prelude.{ℕ, Bool, false, ◌&&◌, ◌||◌, eqb}
use Rattle.image.specs.Stalls.{some}
use Rattle.image.specs.Row.{is_never}
use Rattle.image.specs.declared.Name.{Name}
use Rattle.image.specs.declared.Name.TheVariants.{Never, With}

-- "In the column of stall r, partner b and label k name the meeting of r and b with label k; column b, partner r, label k names the same one."
abbrev pub same_meeting : ℕ → Name → ℕ → Name → Bool
same_meeting c Never d y = false
same_meeting c (With m) d Never = false
same_meeting c (With m) d (With k) =
    eqb m.label k.label && (eqb c d && eqb m.partner k.partner || eqb c k.partner && eqb m.partner d)

-- the name in column s of one own row names a meeting that another own row names too
unfoldable pub common : ℕ → (ℕ → Name) → (ℕ → Name) → ℕ → Bool
common n mine theirs s = some n (λ d. same_meeting s (mine s) d (theirs d))

-- the latest of r is known to the other, by the own rows and the order marks of r
unfoldable pub known : ℕ → (ℕ → Name) → (ℕ → Bool) → (ℕ → Name) → ℕ → Bool
known n mine marks theirs r = is_never (mine r) || some n (λ s. marks s && common n mine theirs s)
