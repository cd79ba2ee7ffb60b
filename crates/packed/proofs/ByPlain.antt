-- The calls on packed images by way of the plain calls on what is handed to these.
use Prim.Native.Nat.{ℕ, ◌≤◌, ◌<◌}
use mathlib.Core.Path.{◌≡◌, refl, sym, ap, ap₂, subst, ◌∙◌}
use mathlib.Core.List.{List}
use lib.ListN.{length, get_or}
use Rattle.image.specs.Frame.{Sized}
use Rattle.image.specs.Check.{checked}
use Rattle.image.specs.declared.Checked.{Checked}
use Rattle.image.specs.declared.Checked.TheVariants.{Good, Refused}
use Rattle.image.proofs.Accepted.{Accepted}
use Rattle.merge.specs.Call.{MeetingOutcome, meeting_call}
use Rattle.merge.proofs.meeting.Outcomes.{kept}
use Rattle.head.specs.Heard.{heard_from, heard_call}
use Rattle.head.specs.Settled.{settled_from, settled_call}
use Rattle.packed.specs.Form.{largest_packed, packed_image_length, packed, unpacked}
use Rattle.packed.specs.Check.{packed_checked}
use Rattle.packed.specs.Calls.{packed_heard_call, packed_settled_call, packed_meeting_call}
use Rattle.packed.specs.Bytes.{packed_of, plain_of}
use Rattle.packed.proofs.Small.{Small}
use Rattle.packed.proofs.Forms.{packed_is}
use Rattle.packed.proofs.Checks.{checked_unpacked, checked_plain, good_packed}
use Rattle.packed.proofs.MetAlike.{Alike, met_alike, After, meeting_after}
use Rattle.packed.proofs.MetPacked.{after_taken, after_kept}

-- What goes by the check of an image and looks at accepted ones alone: the heard list, and the numbers

by_plain : (s : List ℕ) {A : Type 0} (from : List ℕ → Checked → A) → ((k : ℕ) → from (plain_of s) (Refused k) ≡ from (unpacked s) (Refused k))
    → from (plain_of s) (checked (plain_of s)) ≡ from (unpacked s) (packed_checked s)
by_plain s from refused = ap (from (plain_of s)) (checked_plain s) ∙ go (packed_checked s) refl
  where
    go : (x : Checked) → packed_checked s ≡ x → from (plain_of s) x ≡ from (unpacked s) x
    go (Good h) e = ap (λ l. from l (Good h)) (good_packed s e).plain
    go (Refused number) e = refused number

pub heard_handed : (s buffer : List ℕ) → heard_call (plain_of s) buffer ≡ packed_heard_call s buffer
unfolding heard_from
heard_handed s buffer = by_plain s (λ l. heard_from l buffer) (λ k. refl)

pub settled_handed : (s buffer : List ℕ) → settled_call (plain_of s) buffer ≡ packed_settled_call s buffer
unfolding settled_from
settled_handed s buffer = by_plain s (λ l. settled_from l buffer) (λ k. refl)

-- A meeting: the plain one of what is handed leaves x, y and v

module _ (s u buffer x y v : List ℕ) (r : ℕ)
    (met : ◌≡◌ {A = MeetingOutcome} (record { answer = r; first = x; second = y; verdicts = v }) (meeting_call (plain_of s) (plain_of u) buffer)) where
  abbrev handed : MeetingOutcome
  handed = meeting_call (plain_of s) (plain_of u) buffer

  answers : r ≡ handed.answer
  answers = ap (λ o. o.answer) met

  -- as that of the unpacked forms
  alike : Alike handed (meeting_call (unpacked s) (unpacked u) buffer)
  alike =
      met_alike (plain_of s) (unpacked s) (plain_of u) (unpacked u) buffer
      (checked_plain s ∙ sym (checked_unpacked s)) (checked_plain u ∙ sym (checked_unpacked u))
      (λ h e. (good_packed s (sym (checked_plain s) ∙ e)).plain) (λ g e. (good_packed u (sym (checked_plain u) ∙ e)).plain)

  pub met_refused : 256 ≤ r → ◌≡◌ {A = MeetingOutcome} (record { answer = r; first = s; second = u; verdicts = v }) (packed_meeting_call s u buffer)
  met_refused l =
      let same = answers ∙ alike.0 in
      let stays = ap (λ o. o.verdicts) met ∙ (kept (plain_of s) (plain_of u) buffer (subst (λ k. 256 ≤ k) answers l)).verdicts_stay in
      ap₂ (λ k b. record { answer = k; first = s; second = u; verdicts = b }) same stays ∙ sym (after_kept s u buffer _ (subst (λ k. 256 ≤ k) same l))

  module _ (l : r < 256) where
    abbrev taken : After (plain_of s) (plain_of u) handed
    taken = meeting_after (plain_of s) (plain_of u) buffer (subst (λ k. k < 256) answers l)

    first_good : Accepted x taken.n taken.p
    first_good = subst (λ z. Accepted z taken.n taken.p) (sym (ap (λ o. o.first) met)) taken.first_after_lem

    second_good : Accepted y taken.n taken.q
    second_good = subst (λ z. Accepted z taken.n taken.q) (sym (ap (λ o. o.second) met)) taken.second_after_lem

    count : taken.n ≡ get_or x 0 0
    count = sym first_good.count

    few : taken.n ≤ largest_packed
    few = (good_packed s (sym (checked_plain s) ∙ taken.first_passes)).few

    pub may_pack : Sized x (get_or x 0 0) × Sized y (get_or x 0 0) × (length s ≡ packed_image_length (get_or x 0 0)) × (length u ≡ packed_image_length (get_or x 0 0))
    may_pack =
        let f = first_good.frame in
        let g = second_good.frame in (
          subst (Sized x) count (record { n_from = f.n_from; n_to = f.n_to; long = f.long }),
          subst (Sized y) count (record { n_from = g.n_from; n_to = g.n_to; long = g.long }),
          (good_packed s (sym (checked_plain s) ∙ taken.first_passes)).long ∙ ap packed_image_length count,
          (good_packed u (sym (checked_plain u) ∙ taken.second_passes)).long ∙ ap packed_image_length count,
        )

    pub met_packed : Small x → Small y → (z w : List ℕ) → z ≡ packed_of (get_or x 0 0) x → w ≡ packed_of (get_or x 0 0) y
        → ◌≡◌ {A = MeetingOutcome} (record { answer = r; first = z; second = w; verdicts = v }) (packed_meeting_call s u buffer)
    met_packed a b z w z_is w_is =
        let same = met ∙ alike.2 (subst (λ k. k < 256) answers l) in
        let number = ap (λ o. o.answer) same in
        let first = z_is ∙ ap (λ n. packed_of n x) (sym count) ∙ packed_is first_good few a ∙ ap (λ o. packed o.first) same in
        let second = w_is ∙ ap (λ n. packed_of n y) (sym count) ∙ packed_is second_good few b ∙ ap (λ o. packed o.second) same in
        rw (after_taken s u buffer (meeting_call (unpacked s) (unpacked u) buffer) (subst (λ k. k < 256) number l), number, first, second, ap (λ o. o.verdicts) same)

pub ruleset hand_overs = (heard_handed, settled_handed)
