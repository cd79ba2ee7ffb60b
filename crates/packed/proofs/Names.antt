-- A name as one byte, and one byte as a name: each undoes the other.
use Prim.Native.Nat.{ℕ, ◌+◌, ◌-◌, ◌*◌, ◌/◌, ◌%◌, ◌≤◌, ◌<◌}
use mathlib.Core.Path.{◌≡◌, refl, sym, ap, ◌∙◌}
use mathlib.Core.Bool.{Bool, true, false, cond}
use mathlib.Core.List.{[], ◌∷◌}
use native.Mathlib.Omega.{arith}
use borrow.Author.Tests.{eqb-true, ne_eqb, eq-eqb}
use lib.Dec.{eqb}
use lib.ListN.{get_or}
use Rattle.image.specs.Layout.{label_limit, name_from}
use Rattle.image.specs.Encode.{name_bytes}
use Rattle.image.specs.Made.{NameIn}
use Rattle.image.specs.declared.Name.{Name}
use Rattle.image.specs.declared.Name.TheVariants.{Never, With}
use Rattle.image.proofs.Encoding as Encoding
use Rattle.image.proofs.Encoding.{Proper}
use Rattle.image.proofs.NameBytes.{BytesIn, name_in}
use Rattle.image.proofs.Passing.{either}
use Rattle.packed.specs.Form.{labels, largest_packed, name_byte, name_of}
use Rattle.packed.proofs.Small.{Small, small_two}

-- A byte

-- read as a name it is packed as that byte
pub byte_back : (c b : ℕ) → name_byte c (name_of c b) ≡ b
unfolding name_byte name_of
byte_back c b = go (eqb b (name_byte c Never)) refl
  where
    go : (t : Bool) → eqb b (name_byte c Never) ≡ t → name_byte c (cond t Never (With (record { partner = b / labels + 1; label = b % labels }))) ≡ b
    go true e = sym (eqb-true b (name_byte c Never) e)
    go false e = omega arith

-- the partner is never 0
pub proper_of : (c b : ℕ) → Proper (name_of c b)
unfolding name_of
proper_of c b = either Proper (eqb b (name_byte c Never)) tt (λ e. omega arith)

-- so the two bytes of that name are packed as the one
pub pair_back : (c b : ℕ) {x y : ℕ} → x ∷ y ∷ [] ≡ name_bytes (name_of c b) → name_byte c (name_from x y) ≡ b
pair_back c b e =
    ap (λ l. name_byte c (name_from (get_or l 0 0) (get_or l 1 0))) e
    ∙ ap (name_byte c) (Encoding.name_back (name_of c b) (proper_of c b))
    ∙ byte_back c b

-- which are bytes too
pub bytes_small : (c b : ℕ) → b < 256 → Small (name_bytes (name_of c b))
unfolding name_of
bytes_small c b l = either (λ x. Small (name_bytes x)) (eqb b (name_byte c Never)) (small_two (omega arith) (omega arith)) (small_two (omega arith) (omega arith))

-- A name

-- that may stand in column c is read back from its byte
pub name_back : (n c : ℕ) (x : Name) → 1 ≤ c → n ≤ largest_packed → NameIn n c x → name_of c (name_byte c x) ≡ x
unfolding name_byte name_of label_limit
name_back n c Never a b h = rw (eq-eqb (name_byte c Never) (name_byte c Never) refl)
name_back n c (With m) a b h =
    let i : ((m.partner - 1) * labels + m.label) / labels + 1 ≡ m.partner = omega arith in
    let j : ((m.partner - 1) * labels + m.label) % labels ≡ m.label = omega arith in
    rw (ne_eqb ((m.partner - 1) * labels + m.label) ((c - 1) * labels) (λ e. h.2 (omega arith)), i, j)

-- and its byte is one
pub name_small : (n c : ℕ) (x : Name) → c ≤ largest_packed → n ≤ largest_packed → NameIn n c x → name_byte c x < 256
unfolding name_byte label_limit
name_small n c Never a b h = omega arith
name_small n c (With m) a b h = omega arith

-- the same of two bytes that pass the test of a name in column c
pub bytes_back : (n c p l : ℕ) → 1 ≤ c → n ≤ largest_packed → BytesIn n c p l → name_bytes (name_of c (name_byte c (name_from p l))) ≡ p ∷ l ∷ []
bytes_back n c p l a b h =
    ap name_bytes (name_back n c (name_from p l) a b ((name_in n c p l a).0 h).1) ∙ Encoding.bytes_back p l h.0.0.0
