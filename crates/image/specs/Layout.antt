-- The byte image of a table.
-- Document 01: "Byte image, unsigned bytes: N; own stall; current yield in two bytes, high first; N rows of N names, each a partner byte (0 for none) and a
-- label byte (0 for none); N yields of two bytes; N order bytes, byte r having the bit of value 2 to the power s−1 for mark (r, s)."
-- Request 2026-09: "From 9 up, an order byte becomes two bytes, high first".
use Rattle.std.specs.Prelude.{ℕ, zero, suc, ◌+◌, ◌-◌, ◌*◌, Bool, ◌&&◌, ◌||◌, not, cond, List, leb, eqb, get_or}
use Rattle.image.specs.Stalls.{has}
use Rattle.image.specs.declared.Name.{Name}
use Rattle.image.specs.declared.Name.TheVariants.{Never, With}

-- the most heads that a parlour has
abbrev pub largest : ℕ
largest = 16

-- Request 2026-09: "N may be 2 to 16."
abbrev pub is_count : ℕ → Bool
is_count n = leb 2 n && leb n largest

-- "decilitres, 0 to 999"
abbrev pub yield_limit : ℕ
yield_limit = 999

-- Request 2026-01: "Hexadecimal ffff now means not milked: it is the current yield of a fresh head, and the stall yield of a stall never heard."
unfoldable pub no_yield : ℕ
no_yield = 0xffff

-- what a yield in an image may be: 0 to 999, or not milked: "Check 4 admits it in images"
unfoldable pub is_yield : ℕ → Bool
is_yield x = leb x yield_limit || eqb x no_yield

-- "Labels run from 0 to" what request 2026-02 makes it: "The label limit becomes 4 × N − 2 wherever labels are chosen or checked"
unfoldable pub label_limit : ℕ → ℕ
label_limit n = 4 * n - 2

-- the bytes of an order entry in an image of n stalls, one for eight stalls; proofs/OrderEntry.antt has the laws of this and of what such an entry says
unfoldable pub order_width : ℕ → ℕ
order_width n = cond (leb n 8) 1 2

-- "Length 2 × N × N + 3 × N + 4", and from 9 up "2 × N × N + 4 × N + 4": two bytes a yield, and those of an order entry; 0 for a number that is that of no parlour
abbrev pub length_of : ℕ → ℕ
length_of n = cond (is_count n) (2 * n * n + (2 + order_width n) * n + 4) 0

-- two bytes as a number, high first
abbrev pub word : List ℕ → ℕ → ℕ
word s at = get_or s at 0 * 256 + get_or s (at + 1) 0

-- so many bytes as a number, high first
unfoldable pub number_at : List ℕ → ℕ → ℕ → ℕ
number_at s at zero = 0
number_at s at (suc width) = number_at s at width * 256 + get_or s (at + width) 0

-- the number of the order entry that starts at a place: the set of stalls that its stall is marked to
unfoldable pub order_from : List ℕ → ℕ → ℕ → ℕ
order_from s n at = number_at s at (order_width n)

-- where the yields and the order entries start, and where the image ends
abbrev pub yields_place : ℕ → ℕ
yields_place n = 4 + n * (n + n)

abbrev pub orders_place : ℕ → ℕ
orders_place n = yields_place n + n * 2

abbrev pub image_length : ℕ → ℕ
image_length n = orders_place n + n * order_width n

-- where they start in an image of this length, counted from its end: so the code needs no product
abbrev pub orders_from : ℕ → ℕ → ℕ
orders_from length n = length - n * order_width n

abbrev pub yields_from : ℕ → ℕ → ℕ
yields_from length n = orders_from length n - n * 2

-- the bytes of a row of the largest parlour, and of its image: "which is 580 for 16"
abbrev pub longest_row : ℕ
longest_row = largest * 2

abbrev pub longest : ℕ
longest = 580

-- where a row, a name in it, a yield and an order entry start
abbrev pub row_place : ℕ → ℕ → ℕ
row_place n r = 4 + (r - 1) * (n + n)

abbrev pub name_place : ℕ → ℕ → ℕ → ℕ
name_place n r c = row_place n r + (c - 1) * 2

abbrev pub yield_place : ℕ → ℕ → ℕ
yield_place n r = yields_place n + (r - 1) * 2

abbrev pub order_place : ℕ → ℕ → ℕ
order_place n r = orders_place n + (r - 1) * order_width n

-- what stands there
abbrev pub current_at : List ℕ → ℕ
current_at s = word s 2

abbrev pub partner_at : List ℕ → ℕ → ℕ → ℕ → ℕ
partner_at s n r c = get_or s (name_place n r c) 0

abbrev pub label_at : List ℕ → ℕ → ℕ → ℕ → ℕ
label_at s n r c = get_or s (name_place n r c + 1) 0

abbrev pub yield_at : List ℕ → ℕ → ℕ → ℕ
yield_at s n r = word s (yield_place n r)

abbrev pub order_at : List ℕ → ℕ → ℕ → ℕ
order_at s n r = order_from s n (order_place n r)

-- order mark (r, t)
unfoldable pub mark_at : List ℕ → ℕ → ℕ → ℕ → Bool
mark_at s n r t = has (order_at s n r) t

-- "A **name** is either none, or a partner with a label": two bytes as a name
unfoldable pub name_from : ℕ → ℕ → Name
name_from partner label = cond (eqb partner 0) Never (With (record { partner = partner; label = label }))

unfoldable pub name_at : List ℕ → ℕ → ℕ → ℕ → Name
name_at s n r c = name_from (partner_at s n r c) (label_at s n r c)

-- the own row has a name for stall r
unfoldable pub heard_at : List ℕ → ℕ → ℕ → ℕ → Bool
heard_at s n own r = not (eqb (partner_at s n own r) 0)
