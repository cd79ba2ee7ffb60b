-- Replies in the buffers of a call.
use Prim.Native.Nat.{ℕ, ◌+◌, ◌-◌, ◌*◌, ◌≤◌}
use mathlib.Core.Path.{◌≡◌, refl, sym, ap, ap₂, ◌∙◌}
use mathlib.Core.Bool.{true, false, not}
use mathlib.Core.List.{List, [], ◌∷◌, ◌++◌}
use native.Mathlib.Omega.{arith}
use lib.ListN.{length, take, drop, length-append}
use Rattle.image.specs.Layout.{largest, length_of, longest, is_count}
use Rattle.image.specs.Check.{bad_stall}
use Rattle.image.proofs.Stages.{in_range}
use Rattle.head.specs.Calls.{Outcome, milking_call}
use Rattle.image.proofs.Stages.{length_range}
use Rattle.image.proofs.Overwrite.{behind}
use Rattle.line.specs.Digits.{pair_of, digits_of}
use Rattle.line.specs.Parlour.{heads_of, slot_place, image_of, with_image}
use Rattle.line.specs.Answer.{Reply, refusal, milked_by, milking, written, outcome, replied}
use Rattle.line.specs.Asked.{Opened, StallOf}
use Rattle.line.proofs.Hexadecimal.{digits_one, digits_append, length_digits}
use Rattle.line.proofs.Lent.{part_length, part_back}

-- what is written, and more behind it
pub written_one : (out : List ℕ) (b : ℕ) (x : List ℕ) → x ≡ take 0 out ++ pair_of b ++ drop (0 + 2) out → x ≡ written out (b ∷ [])
unfolding written
written_one out b x e = e ∙ ap (λ d. d ++ drop 2 out) (sym (digits_one b))

pub written_more : (out l m : List ℕ) (at count : ℕ) (x y : List ℕ) → at ≡ 2 * length l → count ≡ 2 * length m → x ≡ written out l
    → y ≡ take at x ++ digits_of m ++ drop (at + count) x → y ≡ written out (l ++ m)
unfolding written
written_more out l m at count x y i j e f =
    let k : 2 * length l + 2 * length m ≡ 2 * length (l ++ m) = omega (arith, length-append l m) in
    f
    ∙ ap₂ (λ p z. take p z ++ digits_of m ++ drop (p + count) z) i e
    ∙ ap (λ n. take (2 * length l) (digits_of l ++ drop (2 * length l) out) ++ digits_of m ++ drop (2 * length l + n) (digits_of l ++ drop (2 * length l) out)) j
    ∙ behind (digits_of l) out (digits_of m) (2 * length l) (2 * length m) (length_digits l)
    ∙ ap₂ (λ p n. p ++ drop n out) (sym (digits_append l m)) k

pub written_byte : (out l : List ℕ) (b at : ℕ) (x y : List ℕ) → at ≡ 2 * length l → x ≡ written out l → y ≡ take at x ++ pair_of b ++ drop (at + 2) x
    → y ≡ written out (l ++ (b ∷ []))
written_byte out l b at x y i e f =
    written_more out l (b ∷ []) at 2 x y i refl e (f ∙ ap (λ d. take at x ++ d ++ drop (at + 2) x) (sym (digits_one b)))

module _ (out : List ℕ) {out' state' : List ℕ} {reply : Reply} {count : ℕ} where
  pub replied_bytes : (bytes : List ℕ) → reply ≡ record { bytes = bytes; state = state' } → count ≡ 2 * length bytes → out' ≡ written out bytes → outcome count state' out' ≡ replied out reply
  replied_bytes bytes e k w = ap₂ (λ c o. outcome c state' o) k w ∙ sym (ap (replied out) e)

  pub replied_byte : (b : ℕ) → reply ≡ record { bytes = b ∷ []; state = state' } → (count ≡ 2) × (out' ≡ written out (b ∷ [])) → outcome count state' out' ≡ replied out reply
  replied_byte b e w = replied_bytes (b ∷ []) e w.0 w.1

-- a stall of an open parlour, and its image within the state
pub stall_of : (n stall : ℕ) → bad_stall n stall ≡ false → StallOf n stall
stall_of n stall e = let (a, b) = in_range 1 n stall e in record { from = a; to = b }

module _ (state out : List ℕ) (stall at count : ℕ) (opened : Opened state out) (good : StallOf (heads_of state) stall) (stands : at ≡ slot_place stall)
    (long : count ≡ length_of (heads_of state)) where
  pub image_short : count ≤ longest
  image_short = omega (arith, (length_range (heads_of state) opened.from opened.to).1)

  pub image_fits : at + count ≤ length state
  image_fits = omega (arith, image_short, good.from, good.to, opened.to, opened.long)

  pub the_image : take (at + count - at) (drop at state) ≡ image_of state stall
  unfolding image_of
  the_image = let e : at + count - at ≡ length_of (heads_of state) = omega arith in ap₂ (λ k p. take k (drop p state)) e stands

  pub part_long : length (take (at + count - at) (drop at state)) ≡ count
  part_long = part_length state at count image_fits

  pub put_image : (image : List ℕ) → length image ≡ count → take at state ++ (image ++ drop (at + count - at) (drop at state)) ≡ with_image state stall image
  unfolding with_image
  put_image image e =
      let k : at + count ≡ slot_place stall + length image = omega arith in
      part_back state at count image ∙ ap₂ (λ p q. take p state ++ image ++ drop q state) stands k

-- the numbers of heads that a parlour may have
pub count_range : (n : ℕ) → is_count n ≡ true → (2 ≤ n) × (n ≤ largest)
count_range n e = in_range 2 largest n (ap not e)

-- a milking, refused for its stall and not
module _ (state : List ℕ) (stall yield : ℕ) where
  pub milking_bad : bad_stall (heads_of state) stall ≡ true → milking state stall yield ≡ refusal state 3
  unfolding milking
  milking_bad e = rw e

  pub milking_done : {r : ℕ} {image : List ℕ} → bad_stall (heads_of state) stall ≡ false → ◌≡◌ {A = Outcome} (record { answer = r; image = image }) (milking_call (image_of state stall) yield)
      → milking state stall yield ≡ record { bytes = r ∷ []; state = with_image state stall image }
  unfolding milking
  milking_done e f = rw e (ap (milked_by state stall) (sym f))
