-- A panel, by what the check answers and by the buffer; and from what the call for the heard list leaves.
use Prim.Native.Nat.{ℕ, ◌-◌, ◌*◌, ◌≤◌}
use mathlib.Core.Path.{◌≡◌, refl, sym, ap, ap₂, ◌∙◌}
use mathlib.Core.List.{List, ◌++◌, append_assoc, flat_map}
use native.Mathlib.Omega.{arith}
use borrow.Author.Tests.{eq-eqb, ne_eqb}
use lib.ListN.{length, take, drop, replicate, length-append, length-drop, length-replicate}
use lib.Seq.{length-take-le}
use Rattle.image.specs.Layout.{largest}
use Rattle.image.specs.Check.{checked}
use Rattle.image.specs.declared.Header.{Header}
use Rattle.image.specs.declared.Checked.{Checked}
use Rattle.image.specs.declared.Checked.TheVariants.{Good, Refused}
use Rattle.image.proofs.Accepted.{accepted}
use Rattle.rank.specs.declared.Record.{Record}
use Rattle.head.specs.Heard.{bytes_of, HeardOutcome, heard_records, heard_count, heard_bytes, heard_list, heard_call}
use Rattle.head.proofs.HeardCalls.{heard_accepted}
use Rattle.head.proofs.HeardLists.{heard_few, length_heard_bytes}
use Rattle.packed.specs.Form.{unpacked}
use Rattle.packed.specs.Check.{packed_checked}
use Rattle.packed.specs.Bytes.{plain_of}
use Rattle.packed.proofs.Theory as packed
use Rattle.panel.specs.Panel.{lines, panel_text, panel_length, PanelOutcome, shown, panel_from, panel_call, packed_panel_call}
use Rattle.panel.specs.Writing.{records_in}
use Rattle.panel.proofs.Listed.{records_in_lem}

module _ (s buffer : List ℕ) {c : Checked} where
  pub panel_short : {h : Header} → c ≡ Good h → (length buffer ≡ panel_length → ⊥) → ◌≡◌ {A = PanelOutcome} (record { answer = 264; text = buffer }) (panel_from s buffer c)
  unfolding panel_from
  panel_short e f = rw (e, ne_eqb (length buffer) panel_length f)

  pub panel_accepted : {h : Header} → c ≡ Good h → length buffer ≡ panel_length → panel_from s buffer c ≡ shown (panel_text s h.n h.stall)
  unfolding panel_from
  panel_accepted e i = rw (e, eq-eqb (length buffer) panel_length i)

-- an accepted table, and a buffer for its records at the front of zeros for the largest parlour
module _ (s : List ℕ) {h : Header} (e : checked s ≡ Good h) {used : ℕ} (used_is : used ≡ 3 * h.n) where
  pub few_heads : h.n ≤ largest
  few_heads = (accepted s h e).frame.n_to

  pub used_few : used ≤ 3 * largest
  used_few = omega (arith, few_heads)

  pub buffer_long : length (take {A = ℕ} used (replicate (3 * largest) 0)) ≡ used
  buffer_long = length-take-le used (replicate (3 * largest) 0) (omega (arith, used_few, length-replicate {A = ℕ} (3 * largest) 0))

  module _ {count : ℕ} {x : List ℕ} (call : ◌≡◌ {A = HeardOutcome} (record { answer = count; records = x }) (heard_call s (take used (replicate (3 * largest) 0)))) where
    abbrev bytes : List ℕ
    bytes = x ++ drop used (replicate (3 * largest) 0)

    pub array_long : length x ≡ length (take {A = ℕ} used (replicate (3 * largest) 0)) → length bytes ≡ 3 * largest
    array_long same =
        length-append x (drop used (replicate (3 * largest) 0))
        ∙ omega (arith, same, buffer_long, used_few, length-drop {A = ℕ} used (replicate (3 * largest) 0), length-replicate {A = ℕ} (3 * largest) 0)

    listed : ◌≡◌ {A = HeardOutcome} (record { answer = count; records = x }) (heard_list s h.n h.stall)
    listed = call ∙ heard_accepted s (take used (replicate (3 * largest) 0)) e (buffer_long ∙ used_is)

    count_is : count ≡ heard_count s h.n h.stall
    count_is = ap (λ o. o.answer) listed

    records_are : x ≡ heard_bytes s h.n h.stall ++ replicate (3 * h.n - 3 * heard_count s h.n h.stall) 0
    records_are = ap (λ o. o.records) listed

    pub count_few : count ≤ largest
    count_few = omega (arith, count_is, heard_few s h.n h.stall, few_heads)

    pub bytes_long : 3 * count ≤ length bytes
    bytes_long =
        omega (
          arith,
          count_is,
          length_heard_bytes s h.n h.stall,
          ap length records_are,
          length-append (heard_bytes s h.n h.stall) (replicate (3 * h.n - 3 * heard_count s h.n h.stall) 0),
          length-append x (drop used (replicate (3 * largest) 0)),
        )

    -- the records read are those of the heard list
    heard_read : records_in bytes count ≡ heard_records s h.n h.stall
    unfolding heard_count heard_bytes
    heard_read =
        let l : List Record = heard_records s h.n h.stall in
        let z : List ℕ = replicate (3 * h.n - 3 * length l) 0 in
        ap₂ (λ b k. records_in (b ++ drop used (replicate (3 * largest) 0)) k) records_are count_is
        ∙ ap (λ b. records_in b (length l)) (append_assoc (flat_map bytes_of l) z (drop used (replicate (3 * largest) 0)))
        ∙ records_in_lem l (z ++ drop used (replicate (3 * largest) 0))

    pub panel_heard : (buffer : List ℕ) {out : List ℕ} {r : ℕ} → length buffer ≡ panel_length
        → ◌≡◌ {A = PanelOutcome} (record { answer = r; text = out }) (shown (lines (records_in bytes count))) → ◌≡◌ {A = PanelOutcome} (record { answer = r; text = out }) (panel_call s buffer)
    panel_heard buffer i o = o ∙ ap (λ l. shown (lines l)) heard_read ∙ sym (panel_accepted s buffer e i)

-- the unpacked form is checked alike
pub panel_same : (s buffer : List ℕ) → packed_panel_call s buffer ≡ panel_call (unpacked s) buffer
panel_same s buffer = ap (panel_from (unpacked s) buffer) (sym ((packed.theory).unpacked_checked s))

-- and so is what is handed over in its place
pub panel_handed : (s buffer : List ℕ) → panel_call (plain_of s) buffer ≡ packed_panel_call s buffer
unfolding panel_from
panel_handed s buffer = ap (panel_from (plain_of s) buffer) ((packed.theory).plain_checked s) ∙ go (packed_checked s) refl
  where
    go : (x : Checked) → packed_checked s ≡ x → panel_from (plain_of s) buffer x ≡ panel_from (unpacked s) buffer x
    go (Good h) e = ap (λ l. panel_from l buffer (Good h)) ((packed.theory).plain_passes s h.n h.stall e)
    go (Refused number) e = refl

pub ruleset handed = (panel_handed)
