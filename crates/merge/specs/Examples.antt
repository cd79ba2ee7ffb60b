-- Document 01's meetings to try, by evaluation on images.
use Rattle.std.specs.Prelude.{ℕ, zero, suc, ◌≡◌, refl, true, List, [], ◌∷◌, ◌++◌}
use lib.ListN.{get_or, set}
use Rattle.image.specs.Fresh.{fresh_image}
use Rattle.image.specs.Encode.{encode, table_of}
use Rattle.image.specs.Examples.{evaluated as image_evaluated, nine_first, nine_second, listing}
use Rattle.merge.specs.Known.{common, known}
use Rattle.merge.specs.Verdict.{verdict, undecided}
use Rattle.merge.specs.Label.{label_used, lowest_from, new_label}
use Rattle.merge.specs.Merged.{latest_name, merged_names, merged_yields, merged_order, merged, verdict_bytes}
use Rattle.merge.specs.Call.{met_together, met_good, met_checked, meeting_call}

-- whoever unfolds this unfolds all that a meeting is computed with
unfoldable pub evaluated : Unit {0}
unfolding image_evaluated common known verdict undecided label_used lowest_from new_label latest_name merged_names merged_yields merged_order merged verdict_bytes met_together met_good met_checked meeting_call
evaluated = tt

-- the images of a parlour, stall 1 first
abbrev image_of : List (List ℕ) → ℕ → List ℕ
image_of images r = get_or ([] ∷ images) r []

fresh : ℕ → ℕ → List (List ℕ)
fresh zero n = []
fresh (suc r) n = fresh r n ++ (fresh_image n (suc r) ∷ [])

-- what a meeting of p and q leaves
meet : ℕ → List (List ℕ) → ℕ → ℕ → List (List ℕ)
unfolding merged encode table_of
meet n images p q =
    let a = table_of (image_of images p) n in
    let b = table_of (image_of images q) n in
    let next = set ([] ∷ images) p (encode n p (merged n p a q b a.current)) in
    lib.ListN.drop 1 (set next q (encode n q (merged n p a q b b.current)))

-- the labels of a list of meetings
labels_of : ℕ → List (List ℕ) → List (ℕ × ℕ) → List ℕ
unfolding meet new_label table_of
labels_of n images [] = []
labels_of n images (m ∷ l) =
    new_label n m.0 (table_of (image_of images m.0) n) m.1 (table_of (image_of images m.1) n)
    ∷ labels_of n (meet n images m.0 m.1) l

run : ℕ → List (List ℕ) → List (ℕ × ℕ) → List (List ℕ)
run n images [] = images
run n images (m ∷ l) = run n (meet n images m.0 m.1) l

verdicts_after : ℕ → List (ℕ × ℕ) → ℕ → ℕ → List ℕ
verdicts_after n l p q =
    let images = run n (fresh n n) l in
    verdict_bytes n p (table_of (image_of images p) n) q (table_of (image_of images q) n)

-- labels 0, 1, 0, 1 and 0, 0, 1, 2, 1
label_examples : (labels_of 2 (fresh 2 2) ((1, 2) ∷ (1, 2) ∷ (1, 2) ∷ (1, 2) ∷ []) ≡ 0 ∷ 1 ∷ 0 ∷ 1 ∷ [])
    × (labels_of 3 (fresh 3 3) ((1, 2) ∷ (1, 3) ∷ (1, 2) ∷ (1, 2) ∷ (1, 2) ∷ []) ≡ 0 ∷ 0 ∷ 1 ∷ 2 ∷ 1 ∷ [])
unfolding evaluated fresh meet labels_of
label_examples = (refl, refl)

-- example 2.4 of document 003 with both continuations, and N = 4: 1-2, 1-3, 2-4, then 3-4
verdict_examples : (verdicts_after 5 ((1, 2) ∷ (1, 3) ∷ (1, 4) ∷ (4, 5) ∷ (2, 5) ∷ (2, 4) ∷ []) 3 5 ≡ 2 ∷ 2 ∷ 0 ∷ 2 ∷ 2 ∷ [])
    × (verdicts_after 5 ((1, 2) ∷ (1, 3) ∷ (1, 4) ∷ (4, 5) ∷ (2, 5) ∷ (2, 4) ∷ []) 1 2 ≡ 0 ∷ 2 ∷ 0 ∷ 2 ∷ 2 ∷ [])
    × (verdicts_after 4 ((1, 2) ∷ (1, 3) ∷ (2, 4) ∷ []) 3 4 ≡ 1 ∷ 2 ∷ 1 ∷ 2 ∷ [])
unfolding evaluated fresh meet run verdicts_after
verdict_examples = (refl, refl, refl)

-- both images of number 9's example do not belong together
nine_example : undecided 2 1 (table_of nine_first 2) 2 (table_of nine_second 2) ≡ true
unfolding evaluated
nine_example = refl

-- the listing: stall 1 milked with 18, the others not, then 1-2 and 2-3: the image of head 3
listing_example : image_of (run 3 (set (set (fresh_image 3 1) 2 0) 3 0x12 ∷ fresh_image 3 2 ∷ fresh_image 3 3 ∷ []) ((1, 2) ∷ (2, 3) ∷ [])) 3 ≡ listing
unfolding evaluated meet run
listing_example = refl
