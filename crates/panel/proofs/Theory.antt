-- The laws of the wall panel.
use Prim.Native.Nat.{ℕ, ◌+◌, ◌-◌, ◌≤◌, ◌<◌}
use mathlib.Core.Path.{◌≡◌, refl, ap, ◌∙◌}
use mathlib.Core.Bool.{Bool, true, false, not, cond}
use mathlib.Core.List.{List}
use native.Mathlib.Omega.{arith}
use borrow.Author.Tests.{eqb-true}
use lib.Dec.{eqb}
use lib.ListN.{length, take, replicate, length-append, length-replicate}
use lib.Seq.{take-append_seam}
use Rattle.image.specs.Check.{checked}
use Rattle.image.specs.Theory.{Passes}
use Rattle.image.specs.declared.Checked.{Checked}
use Rattle.image.specs.declared.Checked.TheVariants.{Good, Refused}
use Rattle.head.specs.Heard.{heard_records}
use Rattle.panel.specs.Panel.{panel_text, panel_length, PanelOutcome, shown, panel_from, panel_call}
use Rattle.panel.specs.Reading.{read_records}
use Rattle.panel.specs.Theory.{Theory}
use Rattle.panel.proofs.Decimals.{decimal_read, no_leading_zero}
use Rattle.panel.proofs.ReadBack.{records_read, ranks_read}
use Rattle.panel.proofs.Fitting.{text_fits}
use Rattle.panel.proofs.Calls.{panel_accepted, panel_same}

panel_shows : (s : List ℕ) (n own : ℕ) (buffer : List ℕ) → Passes s n own → length buffer ≡ panel_length
    → let o = panel_call s buffer in read_records (take o.answer o.text) ≡ heard_records s n own
unfolding shown
panel_shows s n own buffer e i =
    let t : List ℕ = panel_text s n own in
    ap (λ o. read_records (take o.answer o.text)) (panel_accepted s buffer e i)
    ∙ ap read_records (take-append_seam t (replicate (panel_length - length t) 0)) ∙ records_read (heard_records s n own)

-- what holds of a refusal, with the buffer as it was, and of a text that fits, holds of the call
panel_elim : (s buffer : List ℕ) (P : PanelOutcome → Type 0) → ((k : ℕ) → P (record { answer = 256 + k; text = buffer }))
    → (length buffer ≡ panel_length → (t : List ℕ) → length t < panel_length → P (shown t)) → P (panel_call s buffer)
unfolding panel_from
panel_elim s buffer P refused accepted = by (checked s) refl
  where
    either : (t : List ℕ) (same : Bool) → (same ≡ true → length buffer ≡ panel_length) → length t < panel_length
        → P (cond (not same) (record { answer = 256 + 8; text = buffer }) (shown t))
    either t true f l = accepted (f refl) t l
    either t false f l = refused 8

    by : (c : Checked) → checked s ≡ c → P (panel_from s buffer c)
    by (Good h) e = either (panel_text s h.n h.stall) (eqb (length buffer) panel_length) (eqb-true (length buffer) panel_length) (text_fits s h.n h.stall e)
    by (Refused k) e = refused k

panel_long : (s buffer : List ℕ) → length (panel_call s buffer).text ≡ length buffer
unfolding shown
panel_long s buffer = panel_elim s buffer (λ o. length o.text ≡ length buffer) (λ k. refl)
    (λ e t l. let z : length (replicate {A = ℕ} (panel_length - length t) 0) ≡ panel_length - length t = length-replicate (panel_length - length t) 0 in
    omega (arith, length-append t (replicate (panel_length - length t) 0)))

panel_refused : (s buffer : List ℕ) → let o = panel_call s buffer in 256 ≤ o.answer → o.text ≡ buffer
unfolding shown panel_length
panel_refused s buffer = panel_elim s buffer (λ o. 256 ≤ o.answer → o.text ≡ buffer) (λ k l. refl) (λ e t l m. absurd (omega arith))

pub theory : Theory
theory =
    record {
      decimal_read = decimal_read;
      no_leading_zero = no_leading_zero;
      records_read = records_read;
      ranks_read = ranks_read;
      text_fits = text_fits;
      panel_shows = panel_shows;
      panel_long = panel_long;
      panel_refused = panel_refused;
      panel_same = panel_same;
    }
