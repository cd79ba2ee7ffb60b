-- Demand 3: what a list of calls leaves, sentence by sentence of "The claim" in document 01's "What a list leaves".
use Rattle.std.specs.Prelude.{ℕ, ◌+◌, ◌≤◌, ◌<◌, ◌≡◌, ◌↔◌, Bool, true, false, List, [], ◌∷◌, ◌++◌, map, eqb, ltb}
use Rattle.causality.specs.Clock.{latest}
use Rattle.causality.specs.Best as Best
use Rattle.labels.specs.Label as Label
use Rattle.labels.specs.Name.{Name, SameName}
use Rattle.image.specs.Layout.{label_limit, name_at}
use Rattle.image.specs.declared.Meet.{Meet}
use Rattle.image.specs.declared.Name.TheVariants.{With}
use Rattle.parlour.specs.Item.{Item, milking, meeting, counts, history}
use Rattle.parlour.specs.History.{meetings, events}
use Rattle.parlour.specs.Table.{image_after}
use Rattle.parlour.specs.Run.{Images, Called}

-- "a milking with 4 and a meeting with 8"; the meeting returns 256 plus its number
unfoldable pub refusal : Item → ℕ
refusal (milking stall yield) = 4
refusal (meeting first second buffer) = 256 + 8

-- accepted is a milking that answers 0, and a meeting that answers a label
unfoldable pub is_accepted : Item → ℕ → Bool
is_accepted (milking stall yield) answer = eqb answer 0
is_accepted (meeting first second buffer) answer = ltb answer 256

-- the verdict buffer that an item lends, besides the images
unfoldable pub buffer_of : Item → List ℕ
buffer_of (milking stall yield) = []
buffer_of (meeting first second buffer) = buffer

-- what is claimed of a call with this history before it
pub record CallClaim (n : ℕ) (c : Called) (before : List Item) : Type 0 where
  -- "accepted are exactly the items that count;"
  pub accepted : is_accepted c.item c.answer ≡ counts n c.item
  -- "the others are refused, a milking with 4 and a meeting with 8,"
  pub refused : counts n c.item ≡ false → c.answer ≡ refusal c.item
  -- "and change no lent byte."
  pub unchanged : counts n c.item ≡ false → (p : ℕ) → c.after p ≡ c.before p
  pub buffer_unchanged : counts n c.item ≡ false → c.verdicts ≡ buffer_of c.item
  -- "Each meeting that counts returns its label,"
  pub label : (p q : ℕ) (buffer : List ℕ) → c.item ≡ meeting p q buffer → counts n c.item ≡ true
      → c.answer ≡ Label.label n (events (c.item ∷ before)) (meetings (c.item ∷ before))
  -- "at most" the limit of request 2026-02,
  pub label_in : (p q : ℕ) (buffer : List ℕ) → c.item ≡ meeting p q buffer → counts n c.item ≡ true → c.answer ≤ label_limit n
  -- and, for a list from fresh images, even below N
  pub label_below : (p q : ℕ) (buffer : List ℕ) → c.item ≡ meeting p q buffer → counts n c.item ≡ true → c.answer < n
  -- "and its buffer then holds the N verdicts of the first section, read from the history before it."
  pub verdicts : (p q : ℕ) (buffer : List ℕ) → c.item ≡ meeting p q buffer → counts n c.item ≡ true
      → c.verdicts ≡ Best.verdicts (events before) (meetings before) n p q

abbrev pub items : List Called → List Item
items calls = map (λ c. c.item) calls

-- c is a call of the list, and `earlier` are those before it
pub record CallOf (calls : List Called) (c : Called) (earlier : List Called) : Type 0 where
  pub later : List Called
  pub split : calls ≡ later ++ (c ∷ earlier)

-- a name read with its column
abbrev pub read : ℕ → Meet → Name
read r name = record { column = r; partner = name.partner; label = name.label }

-- what is claimed of the calls of a list and of the images that they leave
pub record Claim (n : ℕ) (calls : List Called) (images : Images) : Type 0 where
  pub each_call : (c : Called) (earlier : List Called) → CallOf calls c earlier → CallClaim n c (history n (items earlier))
  -- "Afterwards every byte of every image is what the section on the table of one head says of these latests, pasts, names and yields;"
  pub bytes : (p : ℕ) → 1 ≤ p → p ≤ n → images p ≡ image_after n (history n (items calls)) p
  -- "Two names in own rows, neither of them none, of one head or of two, read with their columns, are the same pair and label exactly when they stand for the same
  -- meeting of the history."
  pub names : (p r q s : ℕ) → 1 ≤ p → p ≤ n → 1 ≤ r → r ≤ n → 1 ≤ q → q ≤ n → 1 ≤ s → s ≤ n → (a b : Meet)
      → name_at (images p) n p r ≡ With a → name_at (images q) n q s ≡ With b
      → let l = history n (items calls) in SameName (read r a) (read s b) ↔ (latest (events l) (meetings l) p r ≡ latest (events l) (meetings l) q s)
