-- The check of an image: the first number that applies.
use Rattle.std.specs.Prelude.{ℕ, Bool, ◌&&◌, ◌||◌, not, cond, List, leb, ltb, eqb, length, get_or}
use Rattle.image.specs.Stalls.{some}
use Rattle.image.specs.Layout.{largest, is_count, is_yield, label_limit, no_yield, length_of, current_at, partner_at, label_at, yield_at, mark_at, heard_at}
use Rattle.image.specs.declared.Checked.{Checked}
use Rattle.image.specs.declared.Checked.TheVariants.{Good, Refused}

-- 1: "image empty, or N not" 2 to 16, by request 2026-09: "Check 1 moves to 16"
unfoldable pub bad_count : List ℕ → Bool
bad_count s = eqb (length s) 0 || not (is_count (get_or s 0 0))

-- 2: "length not the one for N"
unfoldable pub bad_length : List ℕ → Bool
bad_length s = not (eqb (length s) (length_of (get_or s 0 0)))

-- 3: "own stall .. not 1 to N"
abbrev pub bad_stall : ℕ → ℕ → Bool
bad_stall n own = not (leb 1 own && leb own n)

-- 4: "current, stall .. yield over 999", but request 2026-01: "Check 4 admits it in images", ffff for not milked
unfoldable pub bad_yields : List ℕ → ℕ → Bool
bad_yields s n = not (is_yield (current_at s)) || some n (λ r. not (is_yield (yield_at s n r)))

-- 5, of one name in column c: "partner 0 with label not 0; partner above N or equal to the column; label above" the limit
abbrev pub bad_name : ℕ → ℕ → ℕ → ℕ → ℕ → Bool
bad_name n limit c partner label =
    eqb partner 0 && not (eqb label 0) || ltb n partner || eqb partner c || ltb limit label

-- "row r, column r not equal to the own row's column r"
unfoldable pub bad_diagonal : List ℕ → ℕ → ℕ → ℕ → Bool
bad_diagonal s n own r =
    not (eqb (partner_at s n r r) (partner_at s n own r) && eqb (label_at s n r r) (label_at s n own r))

-- "a name in the row of a stall never heard"; and of its yield request 2026-01: "check 5 wants it for stalls never heard", ffff for not milked
unfoldable pub bad_unheard : List ℕ → ℕ → ℕ → ℕ → Bool
bad_unheard s n own r =
    not (heard_at s n own r)
    && (some n (λ c. not (eqb (partner_at s n r c) 0)) || not (eqb (yield_at s n r) no_yield))

unfoldable pub bad_row : List ℕ → ℕ → ℕ → ℕ → Bool
bad_row s n own r =
    some n (λ c. bad_name n (label_limit n) c (partner_at s n r c) (label_at s n r c)) || bad_diagonal s n own r || bad_unheard s n own r

-- 5: "a bad name"
unfoldable pub bad_names : List ℕ → ℕ → ℕ → Bool
bad_names s n own = some n (bad_row s n own)

-- 6, of the order entry of stall r: "a mark that involves a stall never heard, or a stall number above N; a heard stall r without (r, r) or without (r, own)"
unfoldable pub bad_order : List ℕ → ℕ → ℕ → ℕ → Bool
bad_order s n own r =
    some largest (λ t. mark_at s n r t && not (heard_at s n own r && (leb t n && heard_at s n own t)))
    || heard_at s n own r && not (mark_at s n r r && mark_at s n r own)

-- 6: "bad order marks"
unfoldable pub bad_marks : List ℕ → ℕ → ℕ → Bool
bad_marks s n own = some n (bad_order s n own)

-- "The first that applies stops the reading."
unfoldable pub check_body : List ℕ → ℕ → ℕ → Checked
check_body s n own =
    cond (bad_stall n own) (Refused 3)
    (cond (bad_yields s n) (Refused 4)
    (cond (bad_names s n own) (Refused 5)
    (cond (bad_marks s n own) (Refused 6)
    (Good (record { n = n; stall = own })))))

unfoldable pub checked : List ℕ → Checked
checked s =
    cond (bad_count s) (Refused 1) (cond (bad_length s) (Refused 2) (check_body s (get_or s 0 0) (get_or s 1 0)))

-- the number of an answer: 0 for a good image
abbrev pub number_of : Checked → ℕ
number_of (Good h) = 0
number_of (Refused number) = number
