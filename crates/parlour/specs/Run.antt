-- A list of calls from a fresh parlour.
-- Document 01: "The list starts from fresh images of one parlour, one for each stall." and "Each call is lent the images as the calls before left them; nobody else
-- writes them."
use Rattle.std.specs.Prelude.{ℕ, ◌≤◌, ◌≡◌, cond, List, [], ◌∷◌, eqb}
use Rattle.image.specs.Layout.{largest}
use Rattle.parlour.specs.Item.{Item, milking, meeting}
use Rattle.parlour.specs.Call.{FreshCall, MilkingCall, MeetingCall}

-- the image of each head, by its stall
abbrev pub Images : Type 0
Images = ℕ → List ℕ

-- the images with another one for one stall
unfoldable pub put : Images → ℕ → List ℕ → Images
put images stall image p = cond (eqb p stall) image (images p)

-- a call of a list: its item, the images of all heads before and after it, what it answered, and what its verdict buffer held afterwards (nothing for a milking)
pub record Called : Type 0 where
  pub item : Item
  pub before : Images
  pub answer : ℕ
  pub after : Images
  pub verdicts : List ℕ

-- the calls of heads that keep their tables in some form: for a fresh table, a milking and a meeting, what it is lent, what it answers and what it leaves
pub record Calls : Type 1 where
  pub fresh : (buffer : List ℕ) (n stall answer : ℕ) (image : List ℕ) → Type 0
  pub milking : (image : List ℕ) (yield answer : ℕ) (image' : List ℕ) → Type 0
  pub meeting : (first second buffer : List ℕ) (answer : ℕ) (first' second' buffer' : List ℕ) → Type 0

-- The calls of a list for a parlour of n heads, newest first, and the images that they leave.
pub data RunBy (by : Calls) (n : ℕ) : List Called → Images → Type 0 where
  start : 2 ≤ n → n ≤ largest → (buffers images : Images)
      → ((p : ℕ) → 1 ≤ p → p ≤ n → by.fresh (buffers p) n p 0 (images p))
      → RunBy by n [] images
  milk : {calls : List Called} {images : Images} → RunBy by n calls images
      → (stall yield answer : ℕ) (image : List ℕ) → 1 ≤ stall → stall ≤ n
      → by.milking (images stall) yield answer image
      → RunBy by n
      (record { item = milking stall yield; before = images; answer = answer; after = put images stall image; verdicts = [] } ∷ calls)
      (put images stall image)
  meet : {calls : List Called} {images : Images} → RunBy by n calls images
      → (p q answer : ℕ) (buffer first second verdicts : List ℕ) → 1 ≤ p → p ≤ n → 1 ≤ q → q ≤ n → (p ≡ q → ⊥)
      → by.meeting (images p) (images q) buffer answer first second verdicts
      → RunBy by n
      (record { item = meeting p q buffer; before = images; answer = answer; after = put (put images p first) q second; verdicts = verdicts } ∷ calls)
      (put (put images p first) q second)

-- tables as document 01 has them
abbrev pub plain_calls : Calls
plain_calls = record { fresh = FreshCall; milking = MilkingCall; meeting = MeetingCall }

abbrev pub Run : ℕ → List Called → Images → Type 0
Run n calls images = RunBy plain_calls n calls images
