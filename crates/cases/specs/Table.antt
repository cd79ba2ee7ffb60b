-- The cases of document 01's "Meetings to try" that are marked P, as the requests change them.
use Rattle.std.specs.Prelude.{ℕ, ◌+◌, ◌-◌, ◌/◌, ◌%◌, ◌^◌, ◌||◌, cond, List, [], ◌∷◌, ◌++◌, leb, eqb, replicate}
use Rattle.image.specs.Stalls.{each}
use Rattle.image.specs.Fresh.{fresh_image}
use Rattle.image.specs.Examples.{not_milked, with_label, nine_first, nine_second, listing}
use Rattle.line.specs.Examples.{frames}
use Rattle.cases.specs.Case.{Given, labels, verdicts, firsts, together, milked, lines, number, lent, every_two}

pub record Case : Type 0 where
  pub given : Given
  pub expected : List ℕ

infix 20 ◌gives◌
abbrev pub ◌gives◌ : Given → List ℕ → Case
given gives expected = record { given = given; expected = expected }

-- document 003's example 2.4
abbrev pub example_2_4 : List (ℕ × ℕ)
example_2_4 = (1, 2) ∷ (1, 3) ∷ (1, 4) ∷ (4, 5) ∷ (2, 5) ∷ (2, 4) ∷ []

-- The first meeting of a parlour, of p and q: "The two that met get the new name and their current yields; their two rows are the new list of latests. Marks: every
-- heard stall has one to each of the two that met". Nobody else was heard, and nobody was milked: all yields are ffff.
module _ (n p q : ℕ) where
  abbrev pub latests : List ℕ
  latests = each n (λ c. cond (eqb c p) (q ∷ 0 ∷ []) (cond (eqb c q) (p ∷ 0 ∷ []) (0 ∷ 0 ∷ [])))

  -- this for each of the two, that for any other stall
  abbrev pub of_the_two : List ℕ → List ℕ → List ℕ
  of_the_two this that = each n (λ r. cond (eqb r p || eqb r q) this that)

  -- an order entry: request 2026-09: "From 9 up, an order byte becomes two bytes, high first"
  abbrev pub entry : ℕ → List ℕ
  entry x = cond (leb n 8) (x ∷ []) (x / 256 ∷ x % 256 ∷ [])

  -- the image of one of them
  abbrev pub met_image : ℕ → List ℕ
  met_image own =
      (n ∷ own ∷ not_milked 1)
      ++ of_the_two latests (replicate (n + n) 0)
      ++ not_milked n
      ++ of_the_two (entry (2 ^ (p - 1) + 2 ^ (q - 1))) (entry 0)

-- label 0, both images, and verdicts all 0
unfoldable pub first_meetings : ℕ → List ℕ
first_meetings n = every_two n (λ p q. 0 ∷ (met_image n p q p ++ met_image n p q q ++ replicate n 0))

-- of the last head and the first
abbrev pub last_and_first : ℕ → Case
last_and_first n = together (fresh_image n n) (fresh_image n 1) gives (0 ∷ (met_image n n 1 n ++ met_image n n 1 1 ++ replicate n 0))

-- the first of two heads that have not met, with this current yield
abbrev pub milked_image : List ℕ → List ℕ
milked_image current = (2 ∷ 1 ∷ current) ++ replicate 8 0 ++ not_milked 2 ++ replicate 2 0

unfoldable pub table : List Case
table =
    -- "N=2, meeting 1-2 four times: labels 0, 1, 0, 1."
    (labels 2 ((1, 2) ∷ (1, 2) ∷ (1, 2) ∷ (1, 2) ∷ []) gives (0 ∷ 1 ∷ 0 ∷ 1 ∷ []))
    -- "N=3, 1-2, 1-3, 1-2, 1-2, 1-2: labels 0, 0, 1, 2, 1."
    ∷ (labels 3 ((1, 2) ∷ (1, 3) ∷ (1, 2) ∷ (1, 2) ∷ (1, 2) ∷ []) gives (0 ∷ 0 ∷ 1 ∷ 2 ∷ 1 ∷ []))
    -- "a first meeting: verdicts all 0.", of every two heads up to 9, the first size with order entries of two bytes, and of two above
    ∷ (firsts 2 gives first_meetings 2)
    ∷ (firsts 3 gives first_meetings 3)
    ∷ (firsts 4 gives first_meetings 4)
    ∷ (firsts 5 gives first_meetings 5)
    ∷ (firsts 6 gives first_meetings 6)
    ∷ (firsts 7 gives first_meetings 7)
    ∷ (firsts 8 gives first_meetings 8)
    ∷ (firsts 9 gives first_meetings 9)
    ∷ last_and_first 10
    ∷ last_and_first 11
    ∷ last_and_first 12
    ∷ last_and_first 13
    ∷ last_and_first 14
    ∷ last_and_first 15
    ∷ last_and_first 16
    -- "document 003's example 2.4 .., then 3-5: 2, 2, 0, 2, 2." and "instead 1-2: 0, 2, 0, 2, 2."
    ∷ (verdicts 5 example_2_4 3 5 gives (2 ∷ 2 ∷ 0 ∷ 2 ∷ 2 ∷ []))
    ∷ (verdicts 5 example_2_4 1 2 gives (0 ∷ 2 ∷ 0 ∷ 2 ∷ 2 ∷ []))
    -- "N=4, 1-2, 1-3, 2-4, then 3-4: 1, 2, 1, 2."
    ∷ (verdicts 4 ((1, 2) ∷ (1, 3) ∷ (2, 4) ∷ []) 3 4 gives (1 ∷ 2 ∷ 1 ∷ 2 ∷ []))
    -- "the listing above": the answers to all five lines, the last with the image of head 3
    ∷ (lines frames
    gives ((0x00 ∷ []) ++ (0x00 ∷ []) ++ (0x00 ∷ 0x00 ∷ 0x00 ∷ 0x00 ∷ 0x00 ∷ []) ++ (0x00 ∷ 0x00 ∷ 0x01 ∷ 0x01 ∷ 0x00 ∷ []) ++ (0x00 ∷ listing)))
    -- "both images of row 9"
    ∷ (together nine_first nine_second gives ((256 + 9) ∷ (nine_first ++ nine_second ++ lent 2)))
    -- "yield 999 taken, 1000 is 4."; request 2026-01: "A milking with ffff is still number 4."
    ∷ (milked 999 gives (0 ∷ milked_image (0x03 ∷ 0xe7 ∷ [])))
    ∷ (milked 0 gives (0 ∷ milked_image (0 ∷ 0 ∷ [])))
    ∷ (milked 1000 gives (4 ∷ milked_image (not_milked 1)))
    ∷ (milked 0xfe00 gives (4 ∷ milked_image (not_milked 1)))
    ∷ (milked 0xffff gives (4 ∷ milked_image (not_milked 1)))
    -- Request 2026-02: "for 3 stalls, 10 passes and 11 is number 5"
    ∷ (number (with_label 10) gives (0 ∷ []))
    ∷ (number (with_label 11) gives (5 ∷ []))
    ∷ []
