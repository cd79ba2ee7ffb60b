-- Either end of the cable: two heads of one history tell the same of the news that both have, so that a call may name either first.
use Prim.Native.Nat.{ℕ, ◌≤◌}
use mathlib.Core.Path.{◌≡◌, sym, ap, ap₂, ◌∙◌}
use mathlib.Core.Bool.{true, not, false≢true}
use mathlib.Core.List.{List}
use lib.Dec.{eqb}
use lib.ListN.{length}
use Rattle.causality.specs.Event.{History}
use Rattle.causality.specs.Clock.{latest, latest_in, in_past}
use Rattle.causality.specs.Best.{best}
use Rattle.causality.specs.Meetings.{Joins}
use Rattle.causality.proofs.Newer.{Newer, by_first, by_second, by_neither, newer_is}
use Rattle.image.specs.Encode.{Table, table_of}
use Rattle.merge.specs.Call.{MeetingOutcome, accepted_meeting}
use Rattle.parlour.specs.Run.{Images, Called, plain_calls, Run}
use Rattle.parlour.specs.Table.{name_in}
use Rattle.parlour.proofs.Says.{Says, own_names}
use Rattle.parlour.proofs.Verdicts.{verdict_best}
use Rattle.parlour.proofs.Kept.{kept_says}
use Rattle.parlour.proofs.Meetings.{taken}
use Rattle.parlour.proofs.Runs.{run_kept}
use Rattle.traces.specs.Theory.{Gives, Turned}
use Rattle.traces.proofs.TurnedTables.{label_turned, verdicts_turned, Both, Shared, merged_turned}

module _ {n : ℕ} {h : History} (joins : (k : ℕ) → Joins n (h k)) {at : ℕ → ℕ → ℕ} {m p q : ℕ} {a b : Table} (v : Says n h at m p a) (w : Says n h at m q b)
    (p_from : 1 ≤ p) (p_to : p ≤ n) (q_from : 1 ≤ q) (q_to : q ≤ n) where
  -- where both have the news of a stall, it is one meeting
  one_latest : (r : ℕ) → 1 ≤ r → r ≤ n → Both n p a q b r → latest h m p r ≡ latest h m q r
  unfolding best
  one_latest r i j (f, s) =
      let e = verdict_best n h joins m v w p_from p_to q_from q_to r i j in
      go (newer_is (latest h m p r) (latest h m q r)) (ap (λ x. not (eqb x 2)) (sym e) ∙ f) (ap (λ x. not (eqb x 1)) (sym e) ∙ s)
    where
      go : {x y k : ℕ} → Newer x y k → not (eqb k 2) ≡ true → not (eqb k 1) ≡ true → x ≡ y
      go (by_first l) f s = absurd (false≢true s)
      go (by_second l) f s = absurd (false≢true f)
      go (by_neither e) f s = e

  says_shared : Shared n p a q b
  says_shared =
      record {
        latests = λ r i j x. own_names v p_from p_to r i j ∙ ap (name_in n h r) (one_latest r i j x) ∙ sym (own_names w q_from q_to r i j);
        names = λ r c i j k l x. v.names r c i j k l ∙ ap (λ z. name_in n h c (latest_in h z c)) (one_latest r i j x) ∙ sym (w.names r c i j k l);
        yields = λ r i j x. v.yields r i j ∙ ap (λ z. at z r) (one_latest r i j x) ∙ sym (w.yields r i j);
        order = λ r s i j k l x y. v.order r s i j k l ∙ ap₂ (in_past h) (one_latest r i j x) (one_latest s k l y) ∙ sym (w.order r s i j k l);
      }

-- so two accepted meetings of tables that share their news are the same but for the naming
accepted_turned : (s u b c : List ℕ) (n p q : ℕ) → (p ≡ q → ⊥) → Shared n p (table_of s n) q (table_of u n)
    → Turned (accepted_meeting s u b n p q) (accepted_meeting u s c n q p)
accepted_turned s u b c n p q differ w =
    record {
      label = label_turned n p (table_of s n) q (table_of u n);
      first = merged_turned differ w p _;
      second = merged_turned differ w q _;
      verdicts = verdicts_turned n p (table_of s n) q (table_of u n);
    }

pub either_end : {n : ℕ} {calls : List Called} {images : Images} → Run n calls images
    → (p q : ℕ) → 1 ≤ p → p ≤ n → 1 ≤ q → q ≤ n → (p ≡ q → ⊥)
    → (b c : List ℕ) → length b ≡ n → length c ≡ n
    → (one other : MeetingOutcome) → Gives plain_calls (images p) (images q) b one → Gives plain_calls (images q) (images p) c other
    → Turned one other
either_end {n} {images = images} run p q i j k l differ b c long_b long_c one other x y =
    let w = run_kept run in
    let shared = says_shared w.joins (kept_says w p i j) (kept_says w q k l) i j k l in
    let u = taken w p q one.answer b one.first one.second one.verdicts i j k l differ x long_b in
    let v = taken w q p other.answer c other.first other.second other.verdicts k l i j (λ e. differ (sym e)) y long_c in
    rw (u, v) (accepted_turned (images p) (images q) b c n p q differ shared)
