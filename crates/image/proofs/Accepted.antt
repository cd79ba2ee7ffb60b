-- What a good image is, byte by byte: none of the numbers 1 to 6 applies.
use Prim.Native.Nat.{ℕ, ◌≤◌, ◌<◌}
use mathlib.Core.Path.{◌≡◌, refl, sym, ap₂, subst₂, ◌∙◌}
use mathlib.Core.Bool.{Bool, true, false, cond, not, ◌&&◌, ◌||◌, true≢false}
use mathlib.Core.List.{List}
use native.Mathlib.Omega.{arith}
use borrow.Author.Tests.{eqb-true, le-leb}
use lib.Dec.{leb, eqb}
use lib.ListN.{length, get_or}
use Rattle.image.specs.Layout.{largest, length_of}
use Rattle.image.specs.Frame.{Sized, Framed}
use Rattle.image.specs.Check.{bad_count, bad_length, bad_stall, bad_yields, bad_names, bad_marks, check_body, checked}
use Rattle.image.specs.Encode.{encode, table_of}
use Rattle.image.specs.declared.Header.{Header}
use Rattle.image.specs.declared.Checked.{Checked}
use Rattle.image.specs.declared.Checked.TheVariants.{Good, Refused}
use Rattle.image.proofs.Passing.{not_fails}
use Rattle.image.proofs.OrderEntry.{length_is}
use Rattle.image.proofs.Encoding.{encode_accepted}
use Rattle.image.proofs.Stages.{sized, framed, good_body, checked_body}

pub record Accepted (s : List ℕ) (n own : ℕ) : Type 0 where
  pub frame : Framed s n own
  pub count : get_or s 0 0 ≡ n
  pub stall : get_or s 1 0 ≡ own
  pub yields : bad_yields s n ≡ false
  pub names : bad_names s n own ≡ false
  pub marks : bad_marks s n own ≡ false

refused_not_good : {k : ℕ} {h : Header} → Refused k ≡ Good h → ⊥
refused_not_good e = let z : ◌≡◌ {A = ℕ} 0 1 = cc in omega arith

-- a good answer has passed the test in front of it
passed : (b : Bool) (k : ℕ) {x : Checked} {h : Header} → cond b (Refused k) x ≡ Good h → (b ≡ false) × (x ≡ Good h)
passed true k e = absurd (refused_not_good e)
passed false k e = (refl, e)

pub not_either : (a b : Bool) → (a || b) ≡ false → (a ≡ false) × (b ≡ false)
not_either true b e = absurd (true≢false e)
not_either false b e = (refl, e)

body_accepted : (s : List ℕ) (n own : ℕ) (h : Header) → Sized s n → get_or s 0 0 ≡ n → get_or s 1 0 ≡ own → check_body s n own ≡ Good h → Accepted s h.n h.stall
unfolding check_body
body_accepted s n own h z i j e =
    let (a, p) = passed (bad_stall n own) 3 e in
    let (b, q) = passed (bad_yields s n) 4 p in
    let (c, r) = passed (bad_names s n own) 5 q in
    let (d, w) = passed (bad_marks s n own) 6 r in
    let u : n ≡ h.n = cc in
    let v : own ≡ h.stall = cc in
    subst₂ (Accepted s) u v (record { frame = framed z a; count = i; stall = j; yields = b; names = c; marks = d })

pub accepted : (s : List ℕ) (h : Header) → checked s ≡ Good h → Accepted s h.n h.stall
unfolding checked bad_count bad_length
accepted s h e =
    let (a, p) = passed (bad_count s) 1 e in
    let (b, q) = passed (bad_length s) 2 p in
    let (c, d) = not_either (eqb (length s) 0) (not (leb 2 (get_or s 0 0) && leb (get_or s 0 0) largest)) a in
    body_accepted s (get_or s 0 0) (get_or s 1 0) h (sized d (eqb-true _ _ ((not_fails _).0 b))) refl refl q

within : {a b x : ℕ} → a ≤ x → x ≤ b → not (leb a x && leb x b) ≡ false
within {a} {b} {x} p q = rw (le-leb a x p, le-leb x b q)

-- and an image to which none applies is good
pub checked_accepted : {s : List ℕ} {n own : ℕ} → Accepted s n own → checked s ≡ Good (record { n = n; stall = own })
checked_accepted {s} {n} {own} w =
    let f = w.frame in
    let z : length s ≡ length_of n = f.long ∙ sym (length_is n f.n_from f.n_to) in
    sym (checked_body s (λ e. omega (arith, f.long)) (rw w.count (within f.n_from f.n_to)) (rw w.count z))
    ∙ ap₂ (check_body s) w.count w.stall
    ∙ sym (good_body s n own (within f.own_from f.own_to) w.yields w.names w.marks)

-- an accepted image is the image of what it says
pub accepted_encode : {s : List ℕ} {n own : ℕ} → Accepted s n own → ((k : ℕ) → get_or s k 0 < 256) → encode n own (table_of s n) ≡ s
accepted_encode {s} {n} {own} w bytes =
    encode_accepted s n own w.frame w.count w.stall bytes w.names w.marks
