-- What callers may use of the check, as one record with a field for each law. `proofs/Theory.antt` proves it.
use Rattle.std.specs.Prelude.{ℕ, ◌+◌, ◌*◌, ◌^◌, ◌≤◌, ◌<◌, ◌≡◌, List, ◌∷◌, ◌++◌, get_or, replicate}
use Rattle.image.specs.Stalls.{each}
use Rattle.image.specs.Layout.{largest, longest, length_of, no_yield, order_width, label_at}
use Rattle.image.specs.Fresh.{fresh_image}
use Rattle.image.specs.Check.{checked}
use Rattle.image.specs.Encode.{Table, word_bytes, encode, table_of}
use Rattle.image.specs.Made.{Made}
use Rattle.image.specs.declared.Checked.TheVariants.{Good}

-- the image passes, as that of the head at stall own of n heads
abbrev pub Passes : List ℕ → ℕ → ℕ → Type 0
Passes s n own = checked s ≡ Good (record { n = n; stall = own })

pub record Theory : Type 0 where
  -- "A fresh image is N, its stall", and by request 2026-01 not milked as its current yield and as that of each stall; "names and marks are still zeros".
  pub fresh_bytes : (n own : ℕ)
      → fresh_image n own ≡ (n ∷ own ∷ word_bytes no_yield) ++ replicate (n * (n + n)) 0 ++ each n (λ r. word_bytes no_yield) ++ replicate (n * order_width n) 0
  -- It passes.
  pub fresh_accepted : (n own : ℕ) → 2 ≤ n → n ≤ largest → 1 ≤ own → own ≤ n → Passes (fresh_image n own) n own
  -- The check of an image is `Made` of its table, and an image that passes is the image of what it says.
  pub accepted_made : (s : List ℕ) (n own : ℕ) → Passes s n own → Made n own (table_of s n)
  pub made_accepted : (n own : ℕ) (t : Table) → 2 ≤ n → n ≤ largest → 1 ≤ own → own ≤ n → Made n own t → Passes (encode n own t) n own
  pub accepted_encode : (s : List ℕ) (n own : ℕ) → Passes s n own → ((k : ℕ) → get_or s k 0 < 256) → encode n own (table_of s n) ≡ s
  -- Request 2026-02: "Our link people need the label in five bits." That is enough for 2 to 8 heads, whose labels end at 30; those of 16 end at 62.
  pub label_bits : (s : List ℕ) (n own : ℕ) → Passes s n own → (r c : ℕ) → 1 ≤ r → r ≤ n → 1 ≤ c → c ≤ n → (label_at s n r c < 2 ^ 6) × (n ≤ 8 → label_at s n r c < 2 ^ 5)
  -- Request 2026-09: "which is 580 for 16", and no image is longer.
  pub length_most : (n : ℕ) → 2 ≤ n → n ≤ largest → length_of n ≤ longest
  pub length_longest : length_of largest ≡ longest
