-- The heads whose images start at two places meet: the first's is lent where it stands, the second's as a copy that is put back.
use Prim.Native.Nat.{ℕ, ◌+◌, ◌-◌, ◌≤◌}
use mathlib.Core.Path.{◌≡◌, refl, ap, ap₂, ◌∙◌}
use mathlib.Core.List.{List, ◌++◌}
use native.Mathlib.Omega.{arith}
use lib.ListN.{length, take, drop, length-drop}
use lib.Seq.{length-take-le}
use Rattle.merge.specs.Call.{MeetingOutcome, meeting_call}
use Rattle.line.specs.Asked.{MetAt}
use Rattle.line.proofs.Lent.{part_length, part_back}
use Rattle.line.proofs.parlour.meet_at.Goals as goal

module _ (s d : List ℕ) (a b : ℕ) (first_fits : a + length d ≤ length s) (second_fits : b + length d ≤ length s) where
  part : length (take (length d) (drop b s)) ≡ length d
  part = length-take-le (length d) (drop b s) (omega (arith, length-drop b s))

  -- the copy of the second's image
  copied : {c : List ℕ} → c ≡ take (b + length d - b) (drop b s) → c ≡ take (length d) (drop b s)
  copied e = let k : b + length d - b ≡ length d = omega arith in e ∙ ap (λ j. take j (drop b s)) k

  met_at : {c v f t w x z : List ℕ} {r : ℕ} → c ≡ take (b + length d - b) (drop b s)
      → ◌≡◌ {A = MeetingOutcome} (record { answer = r; first = f; second = t; verdicts = w }) (meeting_call (take (a + length d - a) (drop a s)) c v)
      → length f ≡ length (take (a + length d - a) (drop a s)) → length t ≡ length c → z ≡ t
      → (let y = take a s ++ (f ++ drop (a + length d - a) (drop a s)) in x ≡ take b y ++ (z ++ drop (b + length d - b) (drop b y))) → MetAt s a b (length d) v r x w
  met_at {c} {v} {f} {t} {w} {x} {z} copy met f_long t_long z_is x_is =
      let k : a + length d - a ≡ length d = omega arith in
      record {
        first = f;
        second = t;
        first_long = f_long ∙ part_length s a (length d) first_fits;
        second_long = t_long ∙ ap length (copied copy) ∙ part;
        met = met ∙ ap₂ (λ y z. meeting_call y z v) (ap (λ j. take j (drop a s)) k) (copied copy);
        put_back =
            x_is
            ∙ part_back (take a s ++ (f ++ drop (a + length d - a) (drop a s))) b (length d) z
            ∙ ap₂ (λ y z. take b y ++ z ++ drop (b + length d) y) (part_back s a (length d) f) z_is;
      }

pub returns : goal.returns
returns c =
    let a = c.args in
    let call = c.wilbryn_meeting-answer in
    met_at a.state.now a.second.now a.a a.b c.requires.0 c.requires.1 c.copy_from_slice.ensures.after call.ensures call.auto.first call.auto.second c.copy_from_slice-2.ensures.after refl
