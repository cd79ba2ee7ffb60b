-- The image of a well-made table is accepted.
use Prim.Native.Nat.{ℕ, ◌≤◌}
use mathlib.Core.Path.{◌≡◌, refl, sym, ap, ◌∙◌}
use mathlib.Core.Bool.{true, false, ◌&&◌}
use mathlib.Core.List.{List}
use native.Mathlib.Omega.{arith}
use borrow.Author.Tests.{le-leb}
use lib.ListN.{get_or}
use Rattle.image.specs.Layout.{largest, partner_at, label_at, mark_at, name_at, heard_at}
use Rattle.image.specs.Check.{bad_yields, bad_diagonal, bad_unheard, bad_row, bad_names, bad_order, bad_marks}
use Rattle.image.specs.Encode.{Table, name_bytes, encode, table_of}
use Rattle.image.specs.Made.{NameIn, Made}
use Rattle.image.specs.declared.Name.{Name}
use Rattle.image.specs.declared.Name.TheVariants.{Never, With}
use Rattle.image.proofs.Encoding.{Proper, length_encode, count_encode, stall_encode, current_encode, partner_encode, label_encode, name_encode, yield_encode, mark_encode, encode_agree}
use Rattle.image.proofs.Accepted.{Accepted}
use Rattle.image.proofs.Passing.{passing}
use Rattle.image.proofs.NameBytes.{never, name_in, same_bytes}
use Rattle.image.proofs.Made.{made_agree}

proper_in : (n c : ℕ) (x : Name) → NameIn n c x → Proper x
proper_in n c Never h = tt
proper_in n c (With m) h = λ e. omega arith

-- no label where there is no partner
bare_bytes : (x : Name) → Proper x → get_or (name_bytes x) 0 0 ≡ 0 → get_or (name_bytes x) 1 0 ≡ 0
bare_bytes Never h e = refl
bare_bytes (With m) h e = absurd (h e)

module _ (n own : ℕ) (t : Table) (n_from : 2 ≤ n) (n_to : n ≤ largest) (own_from : 1 ≤ own) (own_to : own ≤ n) (m : Made n own t) where
  abbrev image : List ℕ
  image = encode n own t

  proper : (r c : ℕ) → 1 ≤ r → r ≤ n → 1 ≤ c → c ≤ n → Proper (t.names r c)
  proper r c i j k l = proper_in n c (t.names r c) (m.names_in r c i j k l)

  -- the image says what the table says
  pub read_name : (r c : ℕ) → 1 ≤ r → r ≤ n → 1 ≤ c → c ≤ n → name_at (encode n own t) n r c ≡ t.names r c
  read_name r c i j k l = name_encode n own t r c i j k l (proper r c i j k l)

  pub read_mark : (r s : ℕ) → 1 ≤ r → r ≤ n → 1 ≤ s → s ≤ n → mark_at (encode n own t) n r s ≡ t.order r s
  read_mark r s i j k l = mark_encode n own t r i j s k ∙ ap (λ b. b && t.order r s) (le-leb s n l)

  -- so that is well made
  read_made : Made n own (table_of image n)
  unfolding table_of
  read_made =
      made_agree n own (table_of image n) t own_from own_to
      (current_encode n own t)
      read_name
      (yield_encode n own t)
      read_mark
      m

  -- and it has neither a label without a partner nor a mark above n
  bare : (r c : ℕ) → 1 ≤ r → r ≤ n → 1 ≤ c → c ≤ n → partner_at image n r c ≡ 0 → label_at image n r c ≡ 0
  bare r c i j k l = rw (partner_encode n own t r c i j k l, label_encode n own t r c i j k l) (bare_bytes (t.names r c) (proper r c i j k l))

  inside : (r s : ℕ) → 1 ≤ r → r ≤ n → 1 ≤ s → mark_at image n r s ≡ true → s ≤ n
  inside r s i j k e = (simp passing at (sym (mark_encode n own t r i j s k) ∙ e)).0

  yields : bad_yields image n ≡ false
  unfolding bad_yields table_of
  yields = simp passing (read_made.current_in, read_made.yields_in)

  names : bad_names image n own ≡ false
  unfolding bad_names bad_row bad_diagonal bad_unheard heard_at table_of name_at
  names =
      simp passing (λ r i j. (
        (
          λ c k l. (name_in n c _ _ k).1 (bare r c i j k l, read_made.names_in r c i j k l),
          same_bytes _ _ _ _ (bare r r i j i j) (bare own r own_from own_to i j) (read_made.diagonal r i j),
        ),
        λ u. (λ c k l. (simp never at (read_made.unheard_row r c i j k l)) u, (simp never at (read_made.unheard_yield r i j)) u),
      ))

  marks : bad_marks image n own ≡ false
  unfolding bad_marks bad_order heard_at table_of name_at
  marks =
      simp passing (λ r i j. (
        λ s k l e.
            let z = inside r s i j k e in
            let h = simp never at (read_made.marks_heard r s i j k z e) in
            (h.0, (z, h.1)),
        λ h. ((simp never at (read_made.marked_self r i j)) h, (simp never at (read_made.marked_own r i j)) h),
      ))

  pub made_accepted : Accepted (encode n own t) n own
  made_accepted =
      record {
        frame = record { n_from = n_from; n_to = n_to; own_from = own_from; own_to = own_to; long = length_encode n own t };
        count = count_encode n own t;
        stall = stall_encode n own t;
        yields = yields;
        names = names;
        marks = marks;
      }

  -- and is the image of what it says
  pub encode_again : encode n own (table_of (encode n own t) n) ≡ encode n own t
  unfolding table_of
  encode_again = encode_agree n own (table_of (encode n own t) n) t (current_encode n own t) read_name (yield_encode n own t) read_mark
