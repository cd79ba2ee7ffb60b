-- A meeting of two accepted images, as a call: refused with 9, or done.
use Prim.Native.Nat.{ℕ, ◌+◌, ◌<◌}
use mathlib.Core.Path.{◌≡◌, sym, ap, ◌∙◌}
use mathlib.Core.Bool.{false, not, cond}
use mathlib.Core.List.{List}
use borrow.Author.Tests.{eq-eqb, ne_eqb}
use lib.Dec.{eqb}
use lib.ListN.{length, get_or}
use Rattle.image.specs.Stalls.{has}
use Rattle.image.specs.Encode.{table_of}
use Rattle.image.specs.Refusal.{number}
use Rattle.image.specs.declared.Refusal.TheVariants.{Verdict}
use Rattle.image.proofs.StallSets.{has_at, any_test}
use Rattle.image.proofs.Accepted.{Accepted}
use Rattle.merge.specs.declared.Decided.{Decided}
use Rattle.merge.specs.Verdict.{undecided}
use Rattle.merge.specs.Label.{new_label}
use Rattle.merge.specs.ByStall.{ByStall}
use Rattle.merge.specs.Views.{Decides}
use Rattle.merge.specs.Body.{image_after}
use Rattle.merge.specs.Call.{MeetingOutcome, met_together}
use Rattle.merge.proofs.meeting.AfterMeeting.{first_after_lem, second_after_lem, verdicts_in}

module _ (s u buffer : List ℕ) (n p q : ℕ) (d : Decided) (w : Decides n p (table_of s n) q (table_of u n) d) where
  -- the set of the undecided is empty exactly if no verdict is 9
  nine_is : not (eqb d.nine 0) ≡ undecided n p (table_of s n) q (table_of u n)
  unfolding undecided
  nine_is = ap (λ k. not (eqb k 0)) w.nine_is ∙ any_test n _

  pub met_nine : (d.nine ≡ 0 → ⊥)
      → ◌≡◌ {A = MeetingOutcome} (record { answer = 256 + number Verdict; first = s; second = u; verdicts = buffer }) (met_together s u buffer n p q)
  unfolding met_together
  met_nine e = rw (sym nine_is ∙ ap not (ne_eqb d.nine 0 e))

  pub met_done : d.nine ≡ 0 → Accepted s n p → Accepted u n q → ((k : ℕ) → get_or s k 0 < 256) → ((k : ℕ) → get_or u k 0 < 256)
      → length buffer ≡ n → (k : ℕ) (x y v : List ℕ) → k ≡ new_label n p (table_of s n) q (table_of u n)
      → x ≡ image_after s s u n p q k (has d.two) → y ≡ image_after u s u n p q k (has d.two) → ByStall 0 (length buffer) (length buffer) (λ r. cond (has d.one r) 1 (cond (has d.two r) 2 0)) v
      → ◌≡◌ {A = MeetingOutcome} (record { answer = k; first = x; second = y; verdicts = v }) (met_together s u buffer n p q)
  unfolding met_together
  met_done e a b s_bytes u_bytes long k x y v k_is x_is y_is v_is =
      let decided : undecided n p (table_of s n) q (table_of u n) ≡ false = sym nine_is ∙ ap not (eq-eqb d.nine 0 e) in
      let t_is = has_at n _ w.two_is in
      let f = x_is ∙ first_after_lem s u n p q a b s_bytes u_bytes k k_is (has d.two) t_is in
      let g = y_is ∙ second_after_lem s u n p q a b s_bytes u_bytes k k_is (has d.two) t_is in
      let h = verdicts_in n p (table_of s n) q (table_of u n) d v w decided (rw long at v_is) in
      rw (decided, k_is, f, g, h)
