-- What is written after a meeting is the image of the merged table.
use Prim.Native.Nat.{ℕ, zero, suc, ◌-◌, ◌*◌, ◌≤◌, ◌<◌}
use mathlib.Core.Path.{◌≡◌, refl, sym, ap, ap₂, subst, ◌∙◌}
use mathlib.Core.Bool.{Bool, true, false, ◌||◌, not, cond, true≢false}
use mathlib.Core.List.{List, [], ◌∷◌, ◌++◌}
use native.Mathlib.Omega.{arith}
use lib.Dec.{eqb}
use lib.ListN.{length, get_or, take, drop}
use lib.Seq.{take-suc, take_all}
use Rattle.image.specs.Stalls.{each, bits, has}
use Rattle.image.specs.Layout.{row_place, name_place, yield_place}
use Rattle.image.specs.Encode.{Table, name_bytes, word_bytes, order_bytes, encode, table_of}
use Rattle.image.specs.declared.Name.{Name}
use Rattle.image.specs.declared.Name.TheVariants.{Never, With}
use Rattle.image.proofs.Has.{Has, has_part, has_first, each_has, length_each}
use Rattle.image.proofs.Places.{row_within}
use Rattle.image.proofs.StallSets.{has_at}
use Rattle.image.proofs.Tables.{none_at}
use Rattle.image.proofs.Encoding.{Shows, name_wide, encode_shows}
use Rattle.image.proofs.Accepted.{Accepted, accepted_encode}
use Rattle.merge.specs.Verdict.{judge, verdict, undecided}
use Rattle.merge.specs.Label.{new_label}
use Rattle.merge.specs.Merged.{supplier, latest_name, merged_names, merged_yields, merged_order, merged, verdict_bytes}
use Rattle.merge.specs.Orders.{Ordered}
use Rattle.merge.specs.ByStall.{ByStall}
use Rattle.merge.specs.Views.{Decides}
use Rattle.merge.specs.declared.Decided.{Decided}
use Rattle.merge.specs.Body.{pair_at, latest_pair, body_row, body_yield, order_in}
use Rattle.merge.proofs.pairs.PairRows.{each_agree}
use Rattle.merge.proofs.known.Judging.{first_known, second_known, same}

-- the first bytes of a list, one a stall
pub take_each : (n : ℕ) (l : List ℕ) (f : ℕ → ℕ) → n ≤ length l → ((r : ℕ) → 1 ≤ r → r ≤ n → get_or l (r - 1) 0 ≡ f r) → take n l ≡ each n (λ r. f r ∷ [])
unfolding each
take_each zero l f a g = refl
take_each (suc n) l f a g =
    let i : n ≡ suc n - 1 = omega arith in
    take-suc l n 0 a
    ∙ ap₂ (λ x y. x ++ y ∷ []) (take_each n l f (omega arith) (λ r b c. g r b (omega arith))) (ap (λ j. get_or l j 0) i ∙ g (suc n) (omega arith) (omega arith))

pub orders_in : (s u : List ℕ) (n p q : ℕ) (out : List ℕ) → Ordered s u n p q out
    → each n (order_in out n) ≡ each n (λ r. order_bytes n (bits n (merged_order n p (table_of s n) q (table_of u n) r)))
orders_in s u n p q out w = each_agree n _ _ (λ r i j. ap (order_bytes n) (w.right r i j))

-- the verdict of a stall that is not undecided, by its tests
verdict_byte : (x y s : Bool) → eqb (judge x y s) 9 ≡ false → cond (eqb (judge x y s) 1) 1 (cond (eqb (judge x y s) 2) 2 0) ≡ judge x y s
verdict_byte true true true e = refl
verdict_byte true true false e = absurd (true≢false e)
verdict_byte true false s e = refl
verdict_byte false true s e = refl
verdict_byte false false s e = absurd (true≢false e)

pub verdicts_in : (n p : ℕ) (a : Table) (q : ℕ) (b : Table) (d : Decided) (out : List ℕ) → Decides n p a q b d → undecided n p a q b ≡ false
    → ByStall 0 n n (λ r. cond (has d.one r) 1 (cond (has d.two r) 2 0)) out → out ≡ verdict_bytes n p a q b
unfolding verdict_bytes undecided verdict
verdicts_in n p a q b d out w e o =
    sym (take_all n out (omega (arith, o.long)))
    ∙ take_each n out (verdict n p a q b) (omega (arith, o.long))
    (λ r i j.
    o.right r i j
    ∙ rw (has_at n _ w.one_is r i j, has_at n _ w.two_is r i j)
    (verdict_byte (first_known n p a q b r) (second_known n p a q b r) (same n p a q b r) (none_at n _ e r i j)))

-- what holds of both truth values
both : (P : Bool → Type 0) → P true → P false → (t : Bool) → P t
both P a b true = a
both P a b false = b

-- one of two, written as bytes
choose : {A : Type 0} (h : A → List ℕ) {f g : A} {x y : List ℕ} (t : Bool) → x ≡ h f → y ≡ h g → cond t x y ≡ h (cond t f g)
choose h true d e = d
choose h false d e = e

has_pair : {d : List ℕ} {i : ℕ} (x y : ℕ) → Has d i (x ∷ y ∷ []) → pair_at d i ≡ x ∷ y ∷ []
has_pair x y h = ap₂ (λ a b. a ∷ b ∷ []) (has_first h (omega arith)) (h.byte 1 (omega arith))

has_name : {d : List ℕ} {i : ℕ} (x : Name) → Has d i (name_bytes x) → pair_at d i ≡ name_bytes x
has_name Never h = has_pair 0 0 h
has_name (With m) h = has_pair m.partner m.label h

-- what an accepted image holds, in the words of its table
module _ (d : List ℕ) (n own : ℕ) (w : Accepted d n own) (bytes : (k : ℕ) → get_or d k 0 < 256) where
  shown : Shows d n own (table_of d n)
  shown = subst (λ l. Shows l n own (table_of d n)) (accepted_encode w bytes) (encode_shows n own (table_of d n))

  start_part : take 4 d ≡ n ∷ own ∷ word_bytes (table_of d n).current
  start_part = has_part shown.start

  current_pair : pair_at d 2 ≡ word_bytes (table_of d n).current
  unfolding table_of
  current_pair = ap₂ (λ x y. x ∷ y ∷ []) (shown.start.byte 2 (omega arith)) (shown.start.byte 3 (omega arith))

  name_pair : (r c : ℕ) → 1 ≤ r → r ≤ n → 1 ≤ c → c ≤ n → pair_at d (name_place n r c) ≡ name_bytes ((table_of d n).names r c)
  name_pair r c i j k l = has_name ((table_of d n).names r c) (shown.names r c i j k l)

  yield_pair : (r : ℕ) → 1 ≤ r → r ≤ n → pair_at d (yield_place n r) ≡ word_bytes ((table_of d n).yields r)
  yield_pair r i j = has_pair _ _ (shown.yields r i j)

  row_part : (r : ℕ) → 1 ≤ r → r ≤ n → take (n * 2) (drop (row_place n r) d) ≡ each n (λ c. name_bytes ((table_of d n).names r c))
  row_part r i j =
      let name : ℕ → List ℕ = λ c. name_bytes ((table_of d n).names r c) in
      let wide : (c : ℕ) → length (name c) ≡ 2 = λ c. name_wide ((table_of d n).names r c) in
      ap (λ k. take k (drop (row_place n r) d)) (sym (length_each 2 name wide n))
      ∙ has_part (each_has 2 name wide n (omega (arith, row_within i j, w.frame.long)) (λ c. shown.names r c i j))

module _ (s u : List ℕ) (n p q : ℕ) (a : Accepted s n p) (b : Accepted u n q) (s_bytes : (k : ℕ) → get_or s k 0 < 256) (u_bytes : (k : ℕ) → get_or u k 0 < 256)
    (k : ℕ) (k_is : k ≡ new_label n p (table_of s n) q (table_of u n))
    (t : ℕ → Bool) (t_is : (r : ℕ) → 1 ≤ r → r ≤ n → t r ≡ eqb (verdict n p (table_of s n) q (table_of u n) r) 2) where
  abbrev first : Table
  first = table_of s n

  abbrev second : Table
  second = table_of u n

  latest_means : (c : ℕ) → 1 ≤ c → c ≤ n → latest_pair s u n p q k t c ≡ name_bytes (latest_name n p first q second c)
  unfolding latest_pair latest_name
  latest_means c i j =
      let rest =
      both (λ y. pair_at (cond y u s) (name_place n (cond y q p) c) ≡ name_bytes ((cond (not y) first second).names (cond (not y) p q) c))
      (name_pair u n q b u_bytes q c b.frame.own_from b.frame.own_to i j)
      (name_pair s n p a s_bytes p c a.frame.own_from a.frame.own_to i j)
      (eqb (verdict n p first q second c) 2) in
      rw (t_is c i j)
      (choose name_bytes (eqb c p) (ap (λ j. q ∷ j ∷ []) k_is) (choose name_bytes (eqb c q) (ap (λ j. p ∷ j ∷ []) k_is) rest))

  row_means : (r : ℕ) → 1 ≤ r → r ≤ n → body_row s u n p q k t r ≡ each n (λ c. name_bytes (merged_names n p first q second r c))
  unfolding body_row merged_names
  row_means r i j =
      let rest =
      both (λ y. take (n * 2) (drop (row_place n r) (cond y u s)) ≡ each n (λ c. name_bytes ((cond (not y) first second).names r c)))
      (row_part u n q b u_bytes r i j) (row_part s n p a s_bytes r i j) (eqb (verdict n p first q second r) 2) in
      let new = each_agree n (latest_pair s u n p q k t) (λ c. name_bytes (latest_name n p first q second c)) latest_means in
      rw (t_is r i j)
      (both (λ y. cond y (each n (latest_pair s u n p q k t)) (take (n * 2) (drop (row_place n r) (cond (eqb (verdict n p first q second r) 2) u s)))
      ≡ each n (λ c. name_bytes (cond y (latest_name n p first q second c) ((supplier n p first q second r).names r c)))) new rest (eqb r p || eqb r q))

  yield_means : (r : ℕ) → 1 ≤ r → r ≤ n → body_yield s u n p q t r ≡ word_bytes (merged_yields n p first q second r)
  unfolding body_yield merged_yields
  yield_means r i j =
      let rest =
      both (λ y. pair_at (cond y u s) (yield_place n r) ≡ word_bytes ((cond (not y) first second).yields r))
      (yield_pair u n q b u_bytes r i j) (yield_pair s n p a s_bytes r i j) (eqb (verdict n p first q second r) 2) in
      rw (t_is r i j)
      (choose word_bytes (eqb r p) (current_pair s n p a s_bytes) (choose word_bytes (eqb r q) (current_pair u n q b u_bytes) rest))

  -- both images hold the same behind their starts
  body_means : (start : List ℕ) (own current : ℕ) → start ≡ n ∷ own ∷ word_bytes current
      → start ++ each n (body_row s u n p q k t) ++ each n (body_yield s u n p q t) ++ each n (λ r. order_bytes n (bits n (merged_order n p first q second r)))
      ≡ encode n own (merged n p first q second current)
  unfolding encode merged
  body_means start own current e =
      ap (λ l. l ++ each n (λ r. order_bytes n (bits n (merged_order n p first q second r))))
      (ap₂ ◌++◌ (ap₂ ◌++◌ e (each_agree n (body_row s u n p q k t) (λ r. each n (λ c. name_bytes (merged_names n p first q second r c))) row_means))
      (each_agree n (body_yield s u n p q t) (λ r. word_bytes (merged_yields n p first q second r)) yield_means))

  pub first_after_lem : take 4 s ++ each n (body_row s u n p q k t) ++ each n (body_yield s u n p q t) ++ each n (λ r. order_bytes n (bits n (merged_order n p (table_of s n) q (table_of u n) r)))
      ≡ encode n p (merged n p (table_of s n) q (table_of u n) (table_of s n).current)
  first_after_lem = body_means (take 4 s) p first.current (start_part s n p a s_bytes)

  pub second_after_lem : take 4 u ++ each n (body_row s u n p q k t) ++ each n (body_yield s u n p q t) ++ each n (λ r. order_bytes n (bits n (merged_order n p (table_of s n) q (table_of u n) r)))
      ≡ encode n q (merged n p (table_of s n) q (table_of u n) (table_of u n).current)
  second_after_lem = body_means (take 4 u) q second.current (start_part u n q b u_bytes)
