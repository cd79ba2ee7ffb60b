-- The numbers that the calls answer, and how long what they leave is.
use Prim.Native.Nat.{ℕ, ◌*◌, ◌≤◌, ◌<◌}
use mathlib.Core.Path.{◌≡◌, refl, sym, ap, subst}
use mathlib.Core.Bool.{Bool, true, false, ◌||◌, not, cond}
use mathlib.Core.List.{List}
use native.Mathlib.Omega.{arith}
use native.Mathlib.Decide.{ℕ_discrete}
use lib.Dec.{ltb, eqb}
use lib.ListN.{length}
use Rattle.image.specs.Layout.{largest, yield_limit}
use Rattle.image.specs.Encode.{table_of}
use Rattle.image.specs.Check.{checked}
use Rattle.image.specs.declared.Header.{Header}
use Rattle.image.specs.declared.Checked.{Checked}
use Rattle.image.specs.declared.Checked.TheVariants.{Good, Refused}
use Rattle.image.proofs.Passing.{either}
use Rattle.image.proofs.Stages.{refused_le}
use Rattle.image.proofs.Accepted.{accepted}
use Rattle.head.specs.Calls.{Outcome, milked, milking_call}
use Rattle.head.specs.Settled.{Settled, settled_counts, settled_from, settled_call}
use Rattle.head.specs.Heard.{HeardOutcome, heard_count, heard_call}
use Rattle.head.proofs.HeardLists.{heard_few}
use Rattle.head.proofs.HeardCalls.{heard_refused, heard_short, heard_accepted}
use Rattle.merge.specs.Verdict.{undecided}
use Rattle.merge.specs.Call.{MeetingOutcome, refused_meeting, accepted_meeting, met_together, met_good, met_checked, meeting_call}
use Rattle.merge.proofs.label.NewLabel.{new_label_most}

-- a milking answers a number of 0 to 6
pub milking_number : (s : List ℕ) (yield : ℕ) → (milking_call s yield).answer ≤ 6
unfolding milking_call milked
milking_number s yield = go (checked s) refl
  where
    over : (b : Bool) (u v : Outcome) → u.answer ≤ 6 → v.answer ≤ 6 → (cond b u v).answer ≤ 6
    over true u v p q = p
    over false u v p q = q

    go : (x : Checked) → checked s ≡ x → (milked s yield x).answer ≤ 6
    go (Good h) e = over (ltb yield_limit yield) _ _ (omega arith) (omega arith)
    go (Refused number) e = refused_le s e

pub milking_code : (s : List ℕ) (yield : ℕ) {r : ℕ} {image : List ℕ} → ◌≡◌ {A = Outcome} (record { answer = r; image = image }) (milking_call s yield) → r ≤ 6
milking_code s yield e = omega (arith, ap (λ (o : Outcome). o.answer) e, milking_number s yield)

-- the numbers of a head come with 0, or with a number up to 8
module _ (s buffer : List ℕ) where
  settled_number : (settled_call s buffer).answer ≤ 8
  unfolding settled_from
  settled_number = go (checked s) refl
    where
      go : (x : Checked) → checked s ≡ x → (settled_from s buffer x).answer ≤ 8
      go (Good h) e =
          either (λ (o : Settled). o.answer ≤ 8) (not (eqb (length buffer) h.n)) {x = record { answer = 8; counts = buffer }} {y = record { answer = 0; counts = settled_counts s h.n }}
          (omega arith) (omega arith)
      go (Refused number) e = omega (arith, refused_le s e)

  pub settled_code : {r : ℕ} {counts : List ℕ} → ◌≡◌ {A = Settled} (record { answer = r; counts = counts }) (settled_call s buffer) → r ≤ 8
  settled_code e = omega (arith, ap (λ (o : Settled). o.answer) e, settled_number)

-- a meeting answers its label, or 256 plus a number up to 9
module _ (s u buffer : List ℕ) where
  abbrev Small : MeetingOutcome → Type 0
  Small o = o.answer ≤ 265

  together_number : (n p q : ℕ) → n ≤ largest → (met_together s u buffer n p q).answer ≤ 265
  unfolding met_together
  together_number n p q l =
      either Small (undecided n p (table_of s n) q (table_of u n)) {x = refused_meeting s u buffer 9} {y = accepted_meeting s u buffer n p q}
      (omega arith)
      (omega (arith, new_label_most n p (table_of s n) q (table_of u n)))

  good_number : (h g : Header) → h.n ≤ largest → (met_good s u buffer h g).answer ≤ 265
  unfolding met_good
  good_number h g l =
      either Small (not (eqb h.n g.n) || eqb h.stall g.stall) {x = refused_meeting s u buffer 7} (omega arith)
      (either Small (not (eqb (length buffer) h.n)) {x = refused_meeting s u buffer 8} {y = met_together s u buffer h.n h.stall g.stall} (omega arith)
      (together_number h.n h.stall g.stall l))

  pub meeting_number : (meeting_call s u buffer).answer ≤ 265
  unfolding meeting_call met_checked
  meeting_number = go (checked s) (checked u) refl refl
    where
      go : (x y : Checked) → checked s ≡ x → checked u ≡ y → (met_checked s u buffer x y).answer ≤ 265
      go (Refused number) y e f = omega (arith, refused_le s e)
      go (Good h) (Refused number) e f = omega (arith, refused_le u f)
      go (Good h) (Good g) e f = good_number h g (accepted s h e).frame.n_to

  pub meeting_code : {r : ℕ} {first second verdicts : List ℕ}
      → ◌≡◌ {A = MeetingOutcome} (record { answer = r; first = first; second = second; verdicts = verdicts }) (meeting_call s u buffer) → r ≤ 265
  meeting_code e = omega (arith, ap (λ (o : MeetingOutcome). o.answer) e, meeting_number)

-- a heard list answers its count, at most N, or 256 plus a number up to 8
module _ (s buffer : List ℕ) (n : ℕ) (long : length buffer ≡ 3 * n) (most : n ≤ largest) where
  abbrev Few : HeardOutcome → Type 0
  Few o = (o.answer ≤ 264) × (o.answer < 256 → o.answer ≤ n)

  heard_number : Few (heard_call s buffer)
  heard_number = go (checked s) refl
    where
      go : (x : Checked) → checked s ≡ x → Few (heard_call s buffer)
      go (Good h) e = elim (ℕ_discrete (length buffer) (3 * h.n)) [
        | yes i ↦ let l : heard_count s h.n h.stall ≤ n = omega (arith, heard_few s h.n h.stall) in subst Few (sym (heard_accepted s buffer e i)) (omega arith, λ _. l)
        | no f ↦ subst Few (heard_short s buffer e f) (omega arith, λ k. absurd (omega arith))
      ]
      go (Refused number) e = subst Few (heard_refused s buffer e refl) (omega (arith, refused_le s e), λ k. absurd (omega arith))

  pub heard_code : {r : ℕ} {records : List ℕ} → ◌≡◌ {A = HeardOutcome} (record { answer = r; records = records }) (heard_call s buffer) → (r ≤ 264) × (r < 256 → r ≤ n)
  heard_code e = subst Few (sym e) heard_number
