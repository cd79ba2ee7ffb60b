-- The check of a packed image is that of its unpacked form, and that of what is handed to the plain calls.
use Prim.Native.Nat.{ℕ, ◌≤◌, ◌<◌}
use mathlib.Core.Path.{◌≡◌, refl, sym, ap, subst, ◌∙◌}
use mathlib.Core.Bool.{Bool, true, false, ◌||◌, not, cond, or-true}
use mathlib.Core.List.{List, [], ◌∷◌}
use native.Mathlib.Omega.{arith}
use native.Mathlib.Decide.{dec_le, ℕ_discrete}
use borrow.Author.Tests.{le-leb, lt-leb, eq-eqb, ne_eqb}
use lib.Dec.{eqb, eqb-suc-zero}
use lib.ListN.{length, get_or}
use Rattle.image.specs.Stalls.{each}
use Rattle.image.specs.Layout.{largest, length_of, image_length}
use Rattle.image.specs.Check.{bad_count, bad_length, check_body, checked, number_of}
use Rattle.image.specs.declared.Header.{Header}
use Rattle.image.specs.declared.Checked.{Checked}
use Rattle.image.specs.declared.Checked.TheVariants.{Good, Refused}
use Rattle.image.proofs.OrderEntry.{length_is}
use Rattle.image.proofs.Stages.{length_range, refused_empty, refused_2}
use Rattle.image.proofs.Accepted.{Accepted, accepted}
use Rattle.packed.specs.Form.{largest_packed, longest_unpacked, packed_length, packed_image_length, unpacked_of, unpacked}
use Rattle.packed.specs.Check.{bad_packed_count, bad_packed_length, packed_checked, packable_checked}
use Rattle.packed.specs.Bytes.{plain_of}
use Rattle.packed.proofs.Sizes.{PackedSized, packed_length_is, packed_few, plain_short, same_count, length_unpacked, count_of, stall_unpacked, unpacked_is, unpacked_none, packed_count, count_passes, packed_sized, sized_unpacked, unpacked_long}

-- N over that of packed tables is 1

over_count : (p : List ℕ) → largest_packed < get_or p 0 0 → bad_packed_count p ≡ true
unfolding bad_packed_count
over_count p l = rw (le-leb 2 (get_or p 0 0) (omega arith), lt-leb (get_or p 0 0) largest_packed l) (or-true (eqb (length p) 0))

pub over_packed : (p : List ℕ) → largest_packed < get_or p 0 0 → packed_checked p ≡ Refused 1
unfolding packed_checked
over_packed p l = rw (over_count p l)

pub over_packable : (p : List ℕ) → largest_packed < get_or p 0 0 → packable_checked p ≡ Refused 1
unfolding packable_checked
over_packable p l = rw (over_count p l)

-- and up to it an image that is to be packed is checked as any other
plain_same : (p : List ℕ) → get_or p 0 0 ≤ largest_packed → bad_packed_count p ≡ bad_count p
unfolding bad_count bad_packed_count
plain_same p l = ap (λ b. eqb (length p) 0 || not b) (same_count l)

twice : (b : Bool) (x : Checked) → cond b (Refused 1) (cond b (Refused 1) x) ≡ cond b (Refused 1) x
twice true x = refl
twice false x = refl

pub packable_checked_lem : (p : List ℕ) → get_or p 0 0 ≤ largest_packed → packable_checked p ≡ checked p
unfolding packable_checked checked
packable_checked_lem p l = ap (λ b. cond b (Refused 1) (checked p)) (plain_same p l) ∙ twice (bad_count p) (cond (bad_length p) (Refused 2) (check_body p (get_or p 0 0) (get_or p 1 0)))

-- what is good then passes the plain check, with N that of a packed table
pub packable_good : (p : List ℕ) {h : Header} → packable_checked p ≡ Good h → (checked p ≡ Good h) × (h.n ≤ largest_packed)
packable_good p {h} e = elim (dec_le (get_or p 0 0) largest_packed) [
  | yes l ↦
      let good = sym (packable_checked_lem p l) ∙ e in
      (good, subst (λ n. n ≤ largest_packed) (accepted p h good).count l)
  | no l ↦ absurd (omega (arith, ap number_of (sym (over_packable p (omega arith)) ∙ e)))
]

-- The check of the unpacked form

count_same : (p : List ℕ) → bad_count (unpacked p) ≡ bad_packed_count p
unfolding bad_count bad_packed_count unpacked_of each
count_same p = elim (dec_le (get_or p 0 0) largest_packed) [
  | yes l ↦ ap bad_count (unpacked_is p l) ∙ of_packed p l
  | no l ↦ ap bad_count (unpacked_none p (omega arith)) ∙ over p (omega arith)
]
  where
    of_packed : (p : List ℕ) → get_or p 0 0 ≤ largest_packed → bad_count (unpacked_of (get_or p 0 0) p) ≡ bad_packed_count p
    of_packed [] l = refl
    of_packed (x ∷ p) l = rw (same_count l) (simp eqb-suc-zero)

    over : (p : List ℕ) → largest_packed < get_or p 0 0 → bad_count [] ≡ bad_packed_count p
    over p l = sym (over_count p l)

eqb_same : (a b c d : ℕ) → (a ≡ b → c ≡ d) → (c ≡ d → a ≡ b) → eqb c d ≡ eqb a b
eqb_same a b c d f g =
    elim (ℕ_discrete a b) [
      | yes e ↦ eq-eqb c d (f e) ∙ sym (eq-eqb a b e)
      | no e ↦ ne_eqb c d (λ i. e (g i)) ∙ sym (ne_eqb a b e)
    ]

length_same : (p : List ℕ) → bad_packed_count p ≡ false → bad_length (unpacked p) ≡ bad_packed_length p
unfolding bad_length bad_packed_length
length_same p e =
    let n = get_or p 0 0 in
    let (a, b) = ((count_passes p).0 e).1 in
    let is = unpacked_is p b in
    let i : length_of (get_or (unpacked_of n p) 0 0) ≡ image_length n = ap length_of (count_of p) ∙ length_is n a (packed_few b) in
    let j = packed_length_is n a b in
    rw is
    (ap not
    (eqb_same (length p) (packed_length n) (length (unpacked_of n p)) (length_of (get_or (unpacked_of n p) 0 0))
    (λ d. length_unpacked n p (d ∙ j) ∙ sym i)
    (λ d. unpacked_long n p a (d ∙ i) ∙ sym j)))

pub checked_unpacked : (p : List ℕ) → checked (unpacked p) ≡ packed_checked p
unfolding checked packed_checked
checked_unpacked p = go (bad_packed_count p) (bad_packed_length p) refl refl
  where
    go : (a b : Bool) → bad_packed_count p ≡ a → bad_packed_length p ≡ b → checked (unpacked p) ≡ packed_checked p
    go true b e f = rw (count_same p, e)
    go false true e f = rw (count_same p, e, length_same p e, f)
    go false false e f =
        let z = (packed_sized p).0 (e, f) in
        let two : 2 ≤ length p = omega (arith, z) in
        let is = unpacked_is p z.n_to in
        rw (count_same p, e, length_same p e, f, ap (λ s. get_or s 0 0) is ∙ count_of p, ap (λ s. get_or s 1 0) is ∙ stall_unpacked (get_or p 0 0) p two)

-- What is handed to the plain calls

module _ (p : List ℕ) where
  pub plain_empty : bad_packed_count p ≡ true → plain_of p ≡ []
  unfolding plain_of
  plain_empty e = rw e

  pub plain_count : bad_packed_count p ≡ false → bad_packed_length p ≡ true → plain_of p ≡ get_or p 0 0 ∷ []
  unfolding plain_of
  plain_count e f = rw (e, f)

  pub plain_unpacked : bad_packed_count p ≡ false → bad_packed_length p ≡ false → plain_of p ≡ unpacked p
  unfolding plain_of
  plain_unpacked e f = rw (e, f)

  pub checked_plain : checked (plain_of p) ≡ packed_checked p
  unfolding packed_checked
  checked_plain = go (bad_packed_count p) (bad_packed_length p) refl refl
    where
      go : (a b : Bool) → bad_packed_count p ≡ a → bad_packed_length p ≡ b → checked (plain_of p) ≡ packed_checked p
      go true b e f = rw (plain_empty e, e) (sym (refused_empty [] refl))
      go false true e f =
          let n = get_or p 0 0 in
          let (a, b) = ((count_passes p).0 e).1 in
          rw (plain_count e f, e, f)
          (sym (refused_2 (n ∷ []) (λ d. omega arith) (rw (le-leb 2 n a, le-leb n largest (packed_few b))) (λ d. omega (arith, length_range n a (packed_few b)))))
      go false false e f = ap checked (plain_unpacked e f) ∙ checked_unpacked p

  pub plain_fits : length (plain_of p) ≤ longest_unpacked
  plain_fits = go (bad_packed_count p) (bad_packed_length p) refl refl
    where
      go : (a b : Bool) → bad_packed_count p ≡ a → bad_packed_length p ≡ b → length (plain_of p) ≤ longest_unpacked
      go true b e f = rw (plain_empty e) (omega arith)
      go false true e f = rw (plain_count e f) (omega arith)
      go false false e f =
          let z = (packed_sized p).0 (e, f) in
          rw (plain_unpacked e f, unpacked_is p z.n_to) (omega (arith, (sized_unpacked z).long, plain_short z.n_to))

-- of a good packed image
pub record GoodPacked (p : List ℕ) (n own : ℕ) : Type 0 where
  pub few : n ≤ largest_packed
  pub plain : plain_of p ≡ unpacked p
  pub long : length p ≡ packed_image_length n
  pub count : get_or p 0 0 ≡ n
  pub stall : get_or p 1 0 ≡ own
  pub unpacks : Accepted (unpacked p) n own

pub good_packed : (p : List ℕ) {h : Header} → packed_checked p ≡ Good h → GoodPacked p h.n h.stall
good_packed p {h} e =
    let w = accepted (unpacked p) h (checked_unpacked p ∙ e) in
    let f = w.frame in
    let (l, count) = packed_count p w in
    let few = subst (λ n. n ≤ largest_packed) count l in
    let is = unpacked_is p l in
    let long = unpacked_long h.n p f.n_from (ap (λ n. length (unpacked_of n p)) (sym count) ∙ ap length (sym is) ∙ f.long) in
    let passed = (packed_sized p).1 (subst (PackedSized p) (sym count) (record { n_from = f.n_from; n_to = few; long = long })) in
    record {
      few = few;
      plain = plain_unpacked p passed.0 passed.1;
      long = long;
      count = count;
      stall = sym (ap (λ s. get_or s 1 0) is ∙ stall_unpacked (get_or p 0 0) p (omega arith)) ∙ w.stall;
      unpacks = w;
    }

-- it has its header
pub good_long : (p : List ℕ) {h : Header} → packed_checked p ≡ Good h → 4 < length p
good_long p e = let w = good_packed p e in omega (arith, w.long, w.unpacks.frame.n_from)

pub ruleset plains = (checked_plain, good_long)
