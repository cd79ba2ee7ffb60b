-- Names, yields and marks are read from byte 4 on: two images with the same bytes there pass the same checks.
use Prim.Native.Nat.{ℕ, ◌+◌, ◌*◌, ◌≤◌}
use mathlib.Core.Path.{◌≡◌, ap, ap₂, ◌∙◌}
use mathlib.Core.Bool.{true, ◌&&◌, ◌||◌, not}
use mathlib.Core.List.{List}
use native.Mathlib.Omega.{arith}
use lib.Dec.{leb, eqb}
use lib.ListN.{length, get_or}
use Rattle.image.specs.Stalls.{some, has}
use Rattle.image.specs.Layout.{largest, is_yield, label_limit, no_yield, name_place, yield_place, order_place, current_at, partner_at, label_at, yield_at, mark_at, heard_at}
use Rattle.image.specs.Check.{bad_name, bad_diagonal, bad_unheard, bad_row, bad_names, bad_order, bad_marks, bad_yields}
use Rattle.image.proofs.Search.{some_agree}
use Rattle.image.proofs.OrderEntry.{entry_same}
use Rattle.image.proofs.Accepted.{Accepted, not_either}

module _ (s u : List ℕ) (n own : ℕ) (same : (k : ℕ) → 4 ≤ k → get_or u k 0 ≡ get_or s k 0) where
  partner_same : (r c : ℕ) → partner_at u n r c ≡ partner_at s n r c
  partner_same r c = same (name_place n r c) (omega arith)

  label_same : (r c : ℕ) → label_at u n r c ≡ label_at s n r c
  label_same r c = same (name_place n r c + 1) (omega arith)

  yield_same : (r : ℕ) → yield_at u n r ≡ yield_at s n r
  yield_same r = ap₂ (λ a b. a * 256 + b) (same (yield_place n r) (omega arith)) (same (yield_place n r + 1) (omega arith))

  mark_same : (r t : ℕ) → mark_at u n r t ≡ mark_at s n r t
  unfolding mark_at
  mark_same r t = ap (λ b. has b t) (entry_same s u n (order_place n r) (λ k l. same k (omega arith)))

  heard_same : (r : ℕ) → heard_at u n own r ≡ heard_at s n own r
  unfolding heard_at
  heard_same r = ap (λ p. not (eqb p 0)) (partner_same own r)

  diagonal_same : (r : ℕ) → bad_diagonal u n own r ≡ bad_diagonal s n own r
  unfolding bad_diagonal
  diagonal_same r =
      ap not (ap₂ ◌&&◌ (ap₂ eqb (partner_same r r) (partner_same own r)) (ap₂ eqb (label_same r r) (label_same own r)))

  unheard_same : (r : ℕ) → bad_unheard u n own r ≡ bad_unheard s n own r
  unfolding bad_unheard
  unheard_same r =
      ap₂ (λ h b. not h && b) (heard_same r)
      (ap₂ ◌||◌ (some_agree n _ _ (λ c a b. ap (λ p. not (eqb p 0)) (partner_same r c))) (ap (λ y. not (eqb y no_yield)) (yield_same r)))

  row_same : (r : ℕ) → bad_row u n own r ≡ bad_row s n own r
  unfolding bad_row
  row_same r =
      ap₂ ◌||◌
      (ap₂ ◌||◌ (some_agree n _ _ (λ c a b. ap₂ (bad_name n (label_limit n) c) (partner_same r c) (label_same r c))) (diagonal_same r))
      (unheard_same r)

  order_same : (r : ℕ) → bad_order u n own r ≡ bad_order s n own r
  unfolding bad_order
  order_same r =
      ap₂ ◌||◌
      (some_agree largest _ _ (λ t a b. ap₂ (λ m h. m && not h) (mark_same r t) (ap₂ (λ h i. h && (leb t n && i)) (heard_same r) (heard_same t))))
      (ap₂ (λ h m. h && not m) (heard_same r) (ap₂ ◌&&◌ (mark_same r r) (mark_same r own)))

  -- so an accepted image stays accepted when its current yield alone changes; it has to be a yield
  pub same_accepted : Accepted s n own → length u ≡ length s → get_or u 0 0 ≡ get_or s 0 0 → get_or u 1 0 ≡ get_or s 1 0 → is_yield (current_at u) ≡ true → Accepted u n own
  unfolding bad_names bad_marks bad_yields
  same_accepted w e i j l =
      let f = w.frame in
      let over = (not_either (not (is_yield (current_at s))) (some n (λ r. not (is_yield (yield_at s n r)))) w.yields).1 in
      record {
        frame = record { n_from = f.n_from; n_to = f.n_to; own_from = f.own_from; own_to = f.own_to; long = e ∙ f.long };
        count = i ∙ w.count;
        stall = j ∙ w.stall;
        yields = ap₂ ◌||◌ (ap not l) (some_agree n _ _ (λ r a b. ap (λ y. not (is_yield y)) (yield_same r)) ∙ over);
        names = some_agree n _ _ (λ r a b. row_same r) ∙ w.names;
        marks = some_agree n _ _ (λ r a b. order_same r) ∙ w.marks;
      }
