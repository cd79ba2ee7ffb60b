-- A milking of a packed image is that of its unpacked form.
use Prim.Native.Nat.{ℕ, ◌/◌, ◌%◌, ◌≤◌}
use mathlib.Core.Path.{◌≡◌, refl, sym, ap, ap₂, subst, ◌∙◌}
use mathlib.Core.Bool.{Bool, true, false, cond}
use mathlib.Core.List.{List, [], ◌∷◌, ◌++◌}
use native.Mathlib.Omega.{arith}
use lib.Dec.{ltb}
use lib.ListN.{length, get_or, take, set}
use lib.Seq.{drop-set-lt}
use Rattle.image.specs.Encode.{name_bytes}
use Rattle.image.specs.Layout.{yield_limit}
use Rattle.image.specs.declared.Checked.{Checked}
use Rattle.image.specs.declared.Checked.TheVariants.{Good, Refused}
use Rattle.merge.proofs.meeting.AfterLaws.{either}
use Rattle.head.specs.Calls.{Outcome, refused, accepted, with_current, milked, milking_call}
use Rattle.head.proofs.Milked.{milked_other}
use Rattle.packed.specs.Form.{largest_packed, packed_yields_place, packed_place, name_of, unpacked_row, unpacked_of, unpacked}
use Rattle.packed.specs.Check.{packed_checked}
use Rattle.packed.specs.Calls.{packed_milking_call}
use Rattle.packed.proofs.Rows.{rows_agree}
use Rattle.packed.proofs.Sizes.{unpacked_is}
use Rattle.packed.proofs.Checks.{good_packed, checked_unpacked}

-- the current yield stands in the header, which both forms have
milked_of : (s : List ℕ) (yield : ℕ) → 4 ≤ length s → unpacked_of (get_or (with_current s yield) 0 0) (with_current s yield) ≡ with_current (unpacked_of (get_or s 0 0) s) yield
unfolding unpacked_of unpacked_row
milked_of [] yield l = absurd (omega arith)
milked_of (a ∷ []) yield l = absurd (omega arith)
milked_of (a ∷ b ∷ []) yield l = absurd (omega arith)
milked_of (a ∷ b ∷ c ∷ []) yield l = absurd (omega arith)
milked_of (n ∷ own ∷ high ∷ low ∷ s) yield l =
    let whole : List ℕ = n ∷ own ∷ high ∷ low ∷ s in
    let place = packed_yields_place n in
    ap₂ (λ names rest. take 4 (with_current whole yield) ++ names ++ rest)
    (rows_agree n _ _ (λ r c i j k l. ap (λ b. name_bytes (name_of c b)) (milked_other whole yield (packed_place n r c) (λ e. omega arith) (λ e. omega arith))))
    (drop-set-lt place (set whole 2 (yield / 256)) 3 (yield % 256) (omega arith) ∙ drop-set-lt place whole 2 (yield / 256) (omega arith))

-- and so does N
count_milked : (s : List ℕ) (yield : ℕ) → get_or (with_current s yield) 0 0 ≡ get_or s 0 0
count_milked [] yield = refl
count_milked (n ∷ s) yield = refl

pub unpacked_milked : (s : List ℕ) (yield : ℕ) → 4 ≤ length s → get_or s 0 0 ≤ largest_packed → unpacked (with_current s yield) ≡ with_current (unpacked s) yield
unpacked_milked s yield l few =
    unpacked_is (with_current s yield) (subst (λ n. n ≤ largest_packed) (sym (count_milked s yield)) few)
    ∙ milked_of s yield l
    ∙ ap (λ u. with_current u yield) (sym (unpacked_is s few))

-- The call

-- some outcome equals that of the unpacked form
abbrev pub Same : Outcome → Outcome → Type 0
Same o m = (o.answer ≡ m.answer) × (unpacked o.image ≡ m.image)

module _ (s : List ℕ) (yield : ℕ) where
  pub milking_same : Same (packed_milking_call s yield) (milking_call (unpacked s) yield)
  unfolding milking_call milked
  milking_same = rw (checked_unpacked s) (go (packed_checked s) refl)
    where
      go : (x : Checked) → packed_checked s ≡ x → Same (milked s yield x) (milked (unpacked s) yield x)
      go (Refused number) e = (refl, refl)
      go (Good h) e = over (ltb yield_limit yield)
        where
          over : (b : Bool) → Same (cond b (refused 4 s) (accepted (with_current s yield))) (cond b (refused 4 (unpacked s)) (accepted (with_current (unpacked s) yield)))
          over true = (refl, refl)
          over false = let w = good_packed s e in (refl, unpacked_milked s yield (omega (arith, w.long)) (subst (λ n. n ≤ largest_packed) (sym w.count) w.few))

  -- refused, it leaves the image
  pub milking_refused : ((packed_milking_call s yield).answer ≡ 0 → ⊥) → (packed_milking_call s yield).image ≡ s
  unfolding milked
  milking_refused = go (packed_checked s)
    where
      go : (x : Checked) → ((milked s yield x).answer ≡ 0 → ⊥) → (milked s yield x).image ≡ s
      go (Refused number) = λ f. refl
      go (Good h) =
          either (λ o. (o.answer ≡ 0 → ⊥) → o.image ≡ s) (ltb yield_limit yield) (refused 4 s) (accepted (with_current s yield)) (λ e f. refl) (λ e f. absurd (f refl))
