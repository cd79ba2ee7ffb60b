-- A name byte with the column's own number and a label other than 0 is refused with 5.
use Prim.Native.Nat.{ℕ, ◌+◌, ◌-◌, ◌*◌, ◌/◌, ◌%◌, ◌≤◌}
use mathlib.Core.Path.{◌≡◌, refl, sym, ap, ◌∙◌}
use mathlib.Core.Bool.{Bool, true, false}
use mathlib.Core.List.{List}
use native.Mathlib.Omega.{arith}
use borrow.Author.Tests.{ne_eqb}
use lib.ListN.{length, get_or, take, drop}
use lib.Seq.{length-take-le}
use Rattle.image.specs.Layout.{partner_at}
use Rattle.image.specs.Encode.{name_bytes}
use Rattle.image.specs.Check.{bad_stall, bad_yields, bad_row, bad_names}
use Rattle.image.specs.declared.Checked.TheVariants.{Refused}
use Rattle.image.proofs.Has.{has_first}
use Rattle.image.proofs.Encoding.{name_wide}
use Rattle.image.proofs.Passing.{passing}
use Rattle.image.proofs.Stages.{refused_5}
use Rattle.packed.specs.Form.{labels, packed_yields_place, packed_image_length, packed_place, name_byte, name_of, unpacked_row, unpacked_of, unpacked}
use Rattle.packed.specs.Check.{bad_packed_count, bad_packed_length, packed_checked}
use Rattle.packed.proofs.Rows.{between}
use Rattle.packed.proofs.Sizes.{unpacked_is, packed_sized}

-- such a byte is a name with that partner
own_partner : (c b : ℕ) → b / labels + 1 ≡ c → (b % labels ≡ 0 → ⊥) → get_or (name_bytes (name_of c b)) 0 0 ≡ c
unfolding name_of name_byte
own_partner c b e f = rw (ne_eqb b ((c - 1) * labels) (λ i. f (omega arith))) e

-- the partner in the unpacked form is that of the byte
pub partner_unpacked : (n : ℕ) (s : List ℕ) → length s ≡ packed_image_length n → (r c : ℕ) → 1 ≤ r → r ≤ n → 1 ≤ c → c ≤ n
    → partner_at (unpacked_of n s) n r c ≡ get_or (name_bytes (name_of c (get_or s (packed_place n r c) 0))) 0 0
unfolding unpacked_of unpacked_row
partner_unpacked n s long r c i j k l =
    let name : ℕ → ℕ → List ℕ = λ r c. name_bytes (name_of c (get_or s (packed_place n r c) 0)) in
    let wide : (r c : ℕ) → length (name r c) ≡ 2 = λ r c. name_wide (name_of c (get_or s (packed_place n r c) 0)) in
    let parts = between n 2 (n + n) name (omega arith) wide (take 4 s) (drop (packed_yields_place n) s) (length-take-le 4 s (omega arith)) in
    has_first (parts.name r c i j k l) (omega (arith, wide r c))

-- a partner equal to the column is a bad name
own_column : (s : List ℕ) (n own r c : ℕ) → 1 ≤ r → r ≤ n → 1 ≤ c → c ≤ n → bad_names s n own ≡ false → partner_at s n r c ≡ c → ⊥
unfolding bad_names bad_row
own_column s n own r c i j k l e = let names = simp passing at e in ((names r i j).0.0 c k l).0.1

own_bad : (s : List ℕ) (n own r c : ℕ) → 1 ≤ r → r ≤ n → 1 ≤ c → c ≤ n → partner_at s n r c ≡ c → bad_names s n own ≡ true
own_bad s n own r c i j k l e = go (bad_names s n own) refl
  where
    go : (b : Bool) → bad_names s n own ≡ b → b ≡ true
    go true f = refl
    go false f = absurd (own_column s n own r c i j k l f e)

-- where none of 1 to 4 applies
pub own_number : (s : List ℕ) (r c : ℕ) → let n = get_or s 0 0 in let b = get_or s (packed_place n r c) 0 in
    bad_packed_count s ≡ false → bad_packed_length s ≡ false → bad_stall n (get_or s 1 0) ≡ false → bad_yields (unpacked s) n ≡ false
    → 1 ≤ r → r ≤ n → 1 ≤ c → c ≤ n → b / labels + 1 ≡ c → (b % labels ≡ 0 → ⊥) → packed_checked s ≡ Refused 5
unfolding packed_checked
own_number s r c count long stall yields i j k l e f =
    let n = get_or s 0 0 in
    let own = get_or s 1 0 in
    let z = (packed_sized s).0 (count, long) in
    let partner = ap (λ u. partner_at u n r c) (unpacked_is s z.n_to) ∙ partner_unpacked n s z.long r c i j k l ∙ own_partner c (get_or s (packed_place n r c) 0) e f in
    rw (count, long) (sym (refused_5 (unpacked s) n own stall yields (own_bad (unpacked s) n own r c i j k l partner)))
