-- The records in the bytes of a heard list, and their lines, one more at a time.
use Prim.Native.Nat.{ℕ, zero, suc, ◌+◌, ◌-◌, ◌*◌, ◌/◌, ◌%◌, ◌≤◌, ◌<◌}
use mathlib.Core.Path.{◌≡◌, refl, sym, ap, ap₂, ◌∙◌}
use mathlib.Core.List.{List, [], ◌∷◌, ◌++◌, append_assoc, append-nil, flat_map}
use native.Mathlib.Nat.{zero-add}
use native.Mathlib.Omega.{arith}
use lib.ListN.{length, get_or, take, drop, replicate, length-append}
use lib.Seq.{take-suc, take-length, take_at, sets-eq, length-sets}
use Rattle.image.specs.Layout.{largest}
use Rattle.rank.specs.declared.Record.{Record}
use Rattle.head.specs.Heard.{bytes_of}
use Rattle.panel.specs.Panel.{line, lines_from, lines, panel_length, PanelOutcome, shown}
use Rattle.panel.specs.Writing.{Room, Put, record_at, records_in}
use Rattle.panel.proofs.Puts.{put_is, put_then}

-- Lines, the last one last

lines_snoc : (rank : ℕ) (l : List Record) (r : Record) → lines_from rank (l ++ r ∷ []) ≡ lines_from rank l ++ line (rank + length l) r
unfolding lines_from
lines_snoc rank [] r = append-nil (line rank r) ∙ ap (λ k. line k r) (let e : rank ≡ rank + 0 = omega arith in e)
lines_snoc rank (x ∷ l) r =
    ap (λ t. line rank x ++ t) (lines_snoc (suc rank) l r ∙ ap (λ k. lines_from (suc rank) l ++ line k r) (let e : suc rank + length l ≡ rank + suc (length l) = omega arith in e))
    ∙ sym (append_assoc (line rank x) (lines_from (suc rank) l) (line (rank + suc (length l)) r))

length_records_in : (bytes : List ℕ) (i : ℕ) → length (records_in bytes i) ≡ i
unfolding records_in
length_records_in bytes zero = refl
length_records_in bytes (suc i) = length-append (records_in bytes i) (record_at bytes i ∷ []) ∙ (let e : length (records_in bytes i) + 1 ≡ suc i = omega (arith, length_records_in bytes i) in e)

pub lines_next : (bytes : List ℕ) (i : ℕ) → lines (records_in bytes (i + 1)) ≡ lines (records_in bytes i) ++ line (i + 1) (record_at bytes i)
unfolding records_in
lines_next bytes i =
    let e : i + 1 ≡ suc i = omega arith in
    let k : 1 + length (records_in bytes i) ≡ i + 1 = omega (arith, length_records_in bytes i) in
    ap (λ j. lines (records_in bytes j)) e ∙ lines_snoc 1 (records_in bytes i) (record_at bytes i) ∙ ap (λ j. lines (records_in bytes i) ++ line j (record_at bytes i)) k

-- The records of a heard list stand in its bytes

record_at_lem : (l : List Record) (z : List ℕ) (i : ℕ) (none : Record) → i < length l → record_at (flat_map bytes_of l ++ z) i ≡ get_or l i none
unfolding flat_map
record_at_lem [] z i none p = absurd (omega arith)
record_at_lem (r ∷ l) z zero none p = ap (λ g. record { stall = r.stall; given = g }) (let e : r.given / 256 * 256 + r.given % 256 ≡ r.given = omega arith in e)
record_at_lem (r ∷ l) z (suc i) none p =
    let e : 3 * suc i ≡ suc (suc (suc (3 * i))) = omega arith in
    let f : 3 * suc i + 1 ≡ suc (suc (suc (3 * i + 1))) = omega arith in
    let g : 3 * suc i + 2 ≡ suc (suc (suc (3 * i + 2))) = omega arith in
    rw (g, f, e) (record_at_lem l z i none (omega arith))

records_to : (l : List Record) (z : List ℕ) (i : ℕ) (none : Record) → i ≤ length l → records_in (flat_map bytes_of l ++ z) i ≡ take i l
unfolding records_in
records_to l z zero none p = refl
records_to l z (suc i) none p =
    ap₂ (λ a r. a ++ r ∷ []) (records_to l z i none (omega arith)) (record_at_lem l z i none (omega arith)) ∙ sym (take-suc l i none (omega arith))

pub records_in_lem : (l : List Record) (z : List ℕ) → records_in (flat_map bytes_of l ++ z) (length l) ≡ l
records_in_lem l z = records_to l z (length l) (record { stall = 0; given = 0 }) (omega arith) ∙ take-length l

-- One line more

pub put_none : (d bytes : List ℕ) → Put d 0 (lines (records_in bytes 0)) d 0
unfolding records_in lines_from
put_none d bytes = record { put = refl; behind = refl }

pub put_next : (bytes : List ℕ) (i : ℕ) {d text out : List ℕ} {at next : ℕ} {r : Record} → r ≡ record_at bytes i
    → Put d 0 (lines (records_in bytes i)) text at → Put text at (line (i + 1) r) out next → Put d 0 (lines (records_in bytes (i + 1))) out next
put_next bytes i {r = r} e p q = put_is (lines_next bytes i ∙ ap (λ x. lines (records_in bytes i) ++ line (i + 1) x) (sym e)) (put_then p q)

-- fifteen characters a line are fewer than there is room for
pub line_room : {text : List ℕ} {at count : ℕ} (i : ℕ) (r : Record) → length text ≡ panel_length → at ≤ 15 * i → i < count → count ≤ largest → length (line (i + 1) r) ≤ 15 → Room text at (line (i + 1) r)
unfolding panel_length
line_room i r long from few most short = record { fits = omega arith }

pub panel_room : {at i count : ℕ} → at ≤ 15 * i → i ≡ count → count ≤ largest → at ≤ panel_length
unfolding panel_length
panel_room from done most = omega arith

-- The lines, and zeros behind them

pub panel_shown : {d text out l : List ℕ} {used : ℕ} → length d ≡ panel_length → Put d 0 l text used → used ≤ panel_length → out ≡ take used text ++ replicate (length text - used) 0
    → ◌≡◌ {A = PanelOutcome} (record { answer = used; text = out }) (shown l)
unfolding shown
panel_shown {d} {text} {out} {l} {used} long p few e = ap₂ (λ k o. record { answer = k; text = o }) used_is (e ∙ ap₂ (λ a k. a ++ replicate k 0) front rest)
  where
    used_is : used ≡ length l
    used_is = p.behind ∙ zero-add (length l)

    written : text ≡ l ++ drop (0 + length l) d
    written = p.put ∙ sets-eq l d 0 (omega (arith, used_is))

    front : take used text ≡ l
    front = ap (take used) written ∙ take_at l (drop (0 + length l) d) used (sym used_is)

    rest : length text - used ≡ panel_length - length l
    rest = omega (arith, used_is, ap length p.put, length-sets d 0 l)
