-- The image of a table, read back: what stands where in it, and that an accepted image is the image of what it says.
use Prim.Native.Nat.{ℕ, ◌+◌, ◌/◌, ◌%◌, ◌^◌, ◌≤◌, ◌<◌}
use mathlib.Core.Path.{◌≡◌, refl, sym, ap, ap₂, ◌∙◌}
use mathlib.Core.Bool.{Bool, true, false, ◌&&◌, ◌||◌, not, cond, true≢false}
use mathlib.Core.List.{List, [], ◌∷◌, ◌++◌}
use native.Mathlib.Omega.{arith}
use borrow.Author.Tests.{eqb-true, eqb-false, ne_eqb, not-false}
use lib.Dec.{leb, ltb, eqb}
use lib.ListN.{length, get_or, length-append}
use lib.Pow.{pow_mono}
use Rattle.image.specs.Stalls.{some, each, bits, has}
use Rattle.image.specs.Layout.{largest, label_limit, word, name_place, yield_place, order_width, order_place, current_at, partner_at, label_at, yield_at, order_at, mark_at, name_from, name_at, heard_at, image_length, orders_place, yields_place}
use Rattle.image.specs.Frame.{Framed}
use Rattle.image.specs.Check.{bad_name, bad_diagonal, bad_unheard, bad_row, bad_names, bad_order, bad_marks}
use Rattle.image.specs.Encode.{Table, name_bytes, word_bytes, order_bytes, encode, table_of}
use Rattle.image.specs.declared.Name.{Name}
use Rattle.image.specs.declared.Name.TheVariants.{Never, With}
use Rattle.image.proofs.Bits.{has_ext, has_bits, bits_lt, bits_agree}
use Rattle.image.proofs.Tables.{none_at}
use Rattle.image.proofs.Passing.{or_fails}
use Rattle.image.proofs.Places.{row_within}
use Rattle.image.proofs.Has.{Has, has_place, has_self, has_whole, has_first, has_two, has_left, has_right, has_both, length_each, has_each, each_has}
use Rattle.image.proofs.OrderEntry.{length_order, order_back, order_bound, order_has, order_within}

-- the bytes s show the table t, place by place
pub record Shows (s : List ℕ) (n own : ℕ) (t : Table) : Type 0 where
  pub start : Has s 0 (n ∷ own ∷ word_bytes t.current)
  pub names : (r c : ℕ) → 1 ≤ r → r ≤ n → 1 ≤ c → c ≤ n → Has s (name_place n r c) (name_bytes (t.names r c))
  pub yields : (r : ℕ) → 1 ≤ r → r ≤ n → Has s (yield_place n r) (word_bytes (t.yields r))
  pub order : (r : ℕ) → 1 ≤ r → r ≤ n → Has s (order_place n r) (order_bytes n (bits n (t.order r)))

pub name_wide : (x : Name) → length (name_bytes x) ≡ 2
name_wide Never = refl
name_wide (With m) = refl

module _ (n own : ℕ) (t : Table) where
  -- the blocks of an image
  abbrev name_block : ℕ → ℕ → List ℕ
  name_block r c = name_bytes (t.names r c)

  abbrev row_block : ℕ → List ℕ
  row_block r = each n (name_block r)

  abbrev yield_block : ℕ → List ℕ
  yield_block r = word_bytes (t.yields r)

  abbrev order_block : ℕ → List ℕ
  order_block r = order_bytes n (bits n (t.order r))

  order_block_wide : (r : ℕ) → length (order_block r) ≡ order_width n
  order_block_wide r = length_order n (bits n (t.order r))

  row_wide : (r : ℕ) → length (row_block r) ≡ n + n
  row_wide r = length_each 2 (name_block r) (λ c. name_wide (t.names r c)) n ∙ omega arith

  -- an image up to the names, up to the yields and up to the order entries
  abbrev to_names : List ℕ
  to_names = n ∷ own ∷ word_bytes t.current

  abbrev to_yields : List ℕ
  to_yields = to_names ++ each n row_block

  abbrev to_order : List ℕ
  to_order = to_yields ++ each n yield_block

  length_to_yields : length to_yields ≡ yields_place n
  length_to_yields =
      length-append to_names (each n row_block) ∙ omega (arith, length_each (n + n) row_block row_wide n)

  length_to_order : length to_order ≡ orders_place n
  length_to_order =
      length-append to_yields (each n yield_block)
      ∙ omega (arith, length_to_yields, length_each 2 yield_block (λ r. refl) n)

  pub length_encode : length (encode n own t) ≡ image_length n
  unfolding encode
  length_encode =
      length-append to_order (each n order_block)
      ∙ omega (arith, length_to_order, length_each (order_width n) order_block order_block_wide n)

  -- where the yields and the order entries stand
  yields_from_lem : 0 + length to_yields ≡ yields_place n
  yields_from_lem = omega (arith, length_to_yields)

  order_from_lem : 0 + length to_order ≡ orders_place n
  order_from_lem = omega (arith, length_to_order)

  -- to have the image is to show the table
  pub has_shows : {s : List ℕ} → Has s 0 (encode n own t) → Shows s n own t
  unfolding encode
  has_shows h =
      let a = has_left to_order (each n order_block) h in
      let b = has_left to_yields (each n yield_block) a in
      let rows = has_each (n + n) row_block row_wide n (has_right to_names (each n row_block) b) in
      let bytes = has_each (order_width n) order_block order_block_wide n (has_place order_from_lem (has_right to_order (each n order_block) h)) in
      record {
        start = has_left to_names (each n row_block) b;
        names = λ r c i j. has_each 2 (name_block r) (λ c. name_wide (t.names r c)) n (rows r i j) c;
        yields = has_each 2 yield_block (λ r. refl) n (has_place yields_from_lem (has_right to_yields (each n yield_block) a));
        order = bytes;
      }

  pub shows_has : {s : List ℕ} → image_length n ≤ length s → Shows s n own t → Has s 0 (encode n own t)
  unfolding encode
  shows_has {s} l h =
      has_both (has_both (has_both h.start rows) (has_place (sym yields_from_lem) yields)) (has_place (sym order_from_lem) bytes)
    where
      rows : Has s 4 (each n row_block)
      rows =
          each_has (n + n) row_block row_wide n (omega arith)
          (λ r i j. each_has 2 (name_block r) (λ c. name_wide (t.names r c)) n (omega (arith, row_within i j)) (λ c. h.names r c i j))

      yields : Has s (yields_place n) (each n yield_block)
      yields = each_has 2 yield_block (λ r. refl) n (omega arith) h.yields

      bytes : Has s (orders_place n) (each n order_block)
      bytes = each_has (order_width n) order_block order_block_wide n (omega arith) h.order

  pub encode_shows : Shows (encode n own t) n own t
  encode_shows = has_shows (has_self (encode n own t))

  pub shows_encode : {s : List ℕ} → length s ≡ image_length n → Shows s n own t → encode n own t ≡ s
  shows_encode l h = has_whole (shows_has (omega arith) h) (length_encode ∙ sym l)

-- What stands where in the image of a table

-- a partner 0 would be read as no name
abbrev pub Proper : Name → Type 0
Proper Never = Unit {0}
Proper (With m) = m.partner ≡ 0 → ⊥

pub name_back : (x : Name) → Proper x → name_from (get_or (name_bytes x) 0 0) (get_or (name_bytes x) 1 0) ≡ x
unfolding name_from
name_back Never p = refl
name_back (With m) p = rw (ne_eqb m.partner 0 p)

-- a name that is read from two bytes is no such
pub proper_from : (p l : ℕ) → Proper (name_from p l)
unfolding name_from
proper_from p l = go (eqb p 0) refl
  where
    go : (b : Bool) → eqb p 0 ≡ b → Proper (cond b Never (With (record { partner = p; label = l })))
    go true e = tt
    go false e = eqb-false p 0 e

word_back : {s : List ℕ} {i : ℕ} (x : ℕ) → Has s i (word_bytes x) → word s i ≡ x
word_back x h = omega (arith, has_first h (omega arith), h.byte 1 (omega arith))

module _ (n own : ℕ) (t : Table) where
  pub count_encode : get_or (encode n own t) 0 0 ≡ n
  count_encode = has_first (encode_shows n own t).start (omega arith)

  pub stall_encode : get_or (encode n own t) 1 0 ≡ own
  stall_encode = (encode_shows n own t).start.byte 1 (omega arith)

  pub current_encode : current_at (encode n own t) ≡ t.current
  current_encode = word_back t.current (has_right (n ∷ own ∷ []) (word_bytes t.current) (encode_shows n own t).start)

  module _ (r c : ℕ) (r_from : 1 ≤ r) (r_to : r ≤ n) (c_from : 1 ≤ c) (c_to : c ≤ n) where
    pub partner_encode : partner_at (encode n own t) n r c ≡ get_or (name_bytes (t.names r c)) 0 0
    partner_encode =
        has_first ((encode_shows n own t).names r c r_from r_to c_from c_to) (omega (arith, name_wide (t.names r c)))

    pub label_encode : label_at (encode n own t) n r c ≡ get_or (name_bytes (t.names r c)) 1 0
    label_encode =
        ((encode_shows n own t).names r c r_from r_to c_from c_to).byte 1 (omega (arith, name_wide (t.names r c)))

    pub name_encode : Proper (t.names r c) → name_at (encode n own t) n r c ≡ t.names r c
    unfolding name_at
    name_encode p = ap₂ name_from partner_encode label_encode ∙ name_back (t.names r c) p

  module _ (r : ℕ) (r_from : 1 ≤ r) (r_to : r ≤ n) where
    pub yield_encode : yield_at (encode n own t) n r ≡ t.yields r
    yield_encode = word_back (t.yields r) ((encode_shows n own t).yields r r_from r_to)

    pub order_encode : order_at (encode n own t) n r ≡ bits n (t.order r)
    order_encode = order_back n _ ((encode_shows n own t).order r r_from r_to)

    pub mark_encode : (s : ℕ) → 1 ≤ s → mark_at (encode n own t) n r s ≡ (leb s n && t.order r s)
    unfolding mark_at
    mark_encode s l = ap (λ b. has b s) order_encode ∙ has_bits n (t.order r) s l

-- The image depends only on what lies within n

pub encode_agree : (n own : ℕ) (t u : Table) → t.current ≡ u.current
    → ((r c : ℕ) → 1 ≤ r → r ≤ n → 1 ≤ c → c ≤ n → t.names r c ≡ u.names r c)
    → ((r : ℕ) → 1 ≤ r → r ≤ n → t.yields r ≡ u.yields r)
    → ((r s : ℕ) → 1 ≤ r → r ≤ n → 1 ≤ s → s ≤ n → t.order r s ≡ u.order r s)
    → encode n own t ≡ encode n own u
encode_agree n own t u e names yields order =
    let h = encode_shows n own u in
    shows_encode n own t (length_encode n own u) (record {
      start = rw e h.start;
      names = λ r c i j k l. rw (names r c i j k l) (h.names r c i j k l);
      yields = λ r i j. rw (yields r i j) (h.yields r i j);
      order = λ r i j. rw (bits_agree n (t.order r) (u.order r) (λ s. order r s i j)) (h.order r i j);
    })

-- An accepted image is the image of what it says

word_has : (s : List ℕ) (i : ℕ) → i + 1 < length s → get_or s (i + 1) 0 < 256 → Has s i (word_bytes (word s i))
word_has s i l b = has_two (word s i / 256) (word s i % 256) l (omega arith) (omega arith)

or_left : (a b : Bool) → (a || b) ≡ false → a ≡ false
or_left a b e = ((or_fails a b).0 e).0

-- no label without a partner, so the name of two bytes has these bytes
none_none : (p l : ℕ) → (eqb p 0 && not (eqb l 0)) ≡ false → p ≡ 0 → l ≡ 0
none_none p l e i = eqb-true l 0 (not-false (eqb l 0) (ap (λ k. eqb k 0 && not (eqb l 0)) (sym i) ∙ e))

pub bytes_back : (p l : ℕ) → (p ≡ 0 → l ≡ 0) → name_bytes (name_from p l) ≡ p ∷ l ∷ []
unfolding name_from
bytes_back p l e = go (eqb p 0) refl
  where
    go : (b : Bool) → eqb p 0 ≡ b → name_bytes (cond b Never (With (record { partner = p; label = l }))) ≡ p ∷ l ∷ []
    go true d = let i = eqb-true p 0 d in ap₂ (λ x y. x ∷ y ∷ []) (sym i) (sym (e i))
    go false d = refl

-- no bit above n, so the set of the bits up to n is the whole entry
bits_back : (n b : ℕ) → n ≤ largest → b < 2 ^ largest → ((t : ℕ) → 1 ≤ t → t ≤ largest → (leb t n && has b t) ≡ has b t) → bits n (has b) ≡ b
bits_back n b l k e =
    has_ext largest (bits n (has b)) b (omega (arith, bits_lt n (has b), pow_mono {i = n} {j = largest} l)) k
    (λ t i j. has_bits n (has b) t i ∙ e t i j)

within : (m h l k : Bool) → (m && not (h && (l && k))) ≡ false → (l && m) ≡ m
within true true true k e = refl
within true true false k e = sym e
within true false l k e = absurd (true≢false e)
within false h true k e = refl
within false h false k e = refl

module _ (s : List ℕ) (n own : ℕ) where
  no_label : bad_names s n own ≡ false → (r c : ℕ) → 1 ≤ r → r ≤ n → 1 ≤ c → c ≤ n → partner_at s n r c ≡ 0 → label_at s n r c ≡ 0
  unfolding bad_names bad_row
  no_label e r c i j k l =
      let p = partner_at s n r c in
      let x = label_at s n r c in
      let bad : ℕ → Bool = λ c. bad_name n (label_limit n) c (partner_at s n r c) (label_at s n r c) in
      let row = or_left (some n bad || bad_diagonal s n own r) (bad_unheard s n own r) (none_at n (bad_row s n own) e r i j) in
      let one = none_at n bad (or_left (some n bad) (bad_diagonal s n own r) row) c k l in
      none_none p x
      (or_left (eqb p 0 && not (eqb x 0)) (ltb n p)
      (or_left (eqb p 0 && not (eqb x 0) || ltb n p) (eqb p c)
      (or_left (eqb p 0 && not (eqb x 0) || ltb n p || eqb p c) (ltb (label_limit n) x) one)))

  no_mark : bad_marks s n own ≡ false → (r t : ℕ) → 1 ≤ r → r ≤ n → 1 ≤ t → t ≤ largest → (leb t n && mark_at s n r t) ≡ mark_at s n r t
  unfolding bad_marks bad_order
  no_mark e r t i j k l =
      let bad : ℕ → Bool = λ t. mark_at s n r t && not (heard_at s n own r && (leb t n && heard_at s n own t)) in
      let missing = heard_at s n own r && not (mark_at s n r r && mark_at s n r own) in
      within (mark_at s n r t) (heard_at s n own r) (leb t n) (heard_at s n own t)
      (none_at largest bad (or_left (some largest bad) missing (none_at n (bad_order s n own) e r i j)) t k l)

pub encode_accepted : (s : List ℕ) (n own : ℕ) → Framed s n own → get_or s 0 0 ≡ n → get_or s 1 0 ≡ own → ((k : ℕ) → get_or s k 0 < 256)
    → bad_names s n own ≡ false → bad_marks s n own ≡ false → encode n own (table_of s n) ≡ s
unfolding table_of name_at mark_at
encode_accepted s n own f count stall bytes names marks =
    shows_encode n own (table_of s n) f.long
    (record { start = start; names = name; yields = yield; order = order })
  where
    start : Has s 0 (n ∷ own ∷ word_bytes (current_at s))
    start = has_both (has_two n own (omega arith) count stall) (word_has s 2 (omega arith) (bytes 3))

    name : (r c : ℕ) → 1 ≤ r → r ≤ n → 1 ≤ c → c ≤ n → Has s (name_place n r c) (name_bytes (name_at s n r c))
    name r c i j k l =
        rw (bytes_back (partner_at s n r c) (label_at s n r c) (no_label s n own names r c i j k l))
        (has_two _ _ (omega (arith, row_within i j)) refl refl)

    yield : (r : ℕ) → 1 ≤ r → r ≤ n → Has s (yield_place n r) (word_bytes (yield_at s n r))
    yield r i j = word_has s (yield_place n r) (omega arith) (bytes (yield_place n r + 1))

    order : (r : ℕ) → 1 ≤ r → r ≤ n → Has s (order_place n r) (order_bytes n (bits n (mark_at s n r)))
    order r i j =
        rw (bits_back n (order_at s n r) f.n_to (order_bound s n (order_place n r) bytes) (λ t. no_mark s n own marks r t i j))
        (order_has s n (order_place n r) (omega (arith, order_within i j)) bytes)
