-- What callers may use of packed images, as one record with a field for each law. `proofs/Theory.antt` proves it: of every list of numbers, where nothing else is said.
use Rattle.std.specs.Prelude.{ℕ, ◌+◌, ◌/◌, ◌%◌, ◌≤◌, ◌<◌, ◌≡◌, false, List, eqb, length, get_or}
use Rattle.image.specs.Layout.{length_of}
use Rattle.image.specs.Encode.{nothing}
use Rattle.image.specs.Fresh.{fresh_image}
use Rattle.image.specs.Check.{bad_stall, bad_yields, checked}
use Rattle.image.specs.Theory.{Passes}
use Rattle.image.specs.declared.Checked.TheVariants.{Good, Refused}
use Rattle.merge.specs.Call.{meeting_call}
use Rattle.head.specs.Calls.{Outcome, refused, fresh_call, milking_call}
use Rattle.head.specs.Heard.{heard_call}
use Rattle.head.specs.Settled.{settled_call}
use Rattle.packed.specs.Form.{labels, largest_packed, packed_length, packed_place, packed_image, packed, unpacked}
use Rattle.packed.specs.Check.{bad_packed_count, bad_packed_length, packed_checked, packable_checked}
use Rattle.packed.specs.Bytes.{plain_of}
use Rattle.packed.specs.Calls.{packed_fresh_call, packed_milking_call, packed_heard_call, packed_settled_call, packed_meeting_call}

-- the packed image passes, as that of the head at stall own of n heads
abbrev pub PackedPasses : List ℕ → ℕ → ℕ → Type 0
PackedPasses s n own = packed_checked s ≡ Good (record { n = n; stall = own })

pub record Theory : Type 0 where
  -- "Packing an accepted image and unpacking it gives that image"
  pub pack_unpack : (s : List ℕ) (n own : ℕ) → Passes s n own → n ≤ largest_packed → ((k : ℕ) → get_or s k 0 < 256) → unpacked (packed s) ≡ s
  -- And unpacking an accepted packed image and packing it gives that one: no image has two packed forms.
  pub unpack_pack : (s : List ℕ) (n own : ℕ) → PackedPasses s n own → ((k : ℕ) → get_or s k 0 < 256) → packed (unpacked s) ≡ s
  -- "unpacking refuses what 01's checks refuse of the unpacked form": it is refused with the same number, or accepted with the same header.
  pub unpacked_checked : (s : List ℕ) → checked (unpacked s) ≡ packed_checked s
  -- What `Packed` hands to the calls in the place of a packed image is checked alike, and of one that passes it is the unpacked form.
  pub plain_checked : (s : List ℕ) → checked (plain_of s) ≡ packed_checked s
  pub plain_passes : (s : List ℕ) (n own : ℕ) → PackedPasses s n own → plain_of s ≡ unpacked s
  -- The packed form of an image that passes, passes.
  pub packed_checked_lem : (s : List ℕ) (n own : ℕ) → Passes s n own → n ≤ largest_packed → PackedPasses (packed s) n own
  -- Request 2026-09: "a packed table over 8 is still number 1, and so is a plain one over 8 that is to be packed". Up to 8 the latter is checked as any plain one.
  pub over_packed : (s : List ℕ) → largest_packed < get_or s 0 0 → packed_checked s ≡ Refused 1
  pub over_packable : (s : List ℕ) → largest_packed < get_or s 0 0 → packable_checked s ≡ Refused 1
  pub packable_checked_lem : (s : List ℕ) → get_or s 0 0 ≤ largest_packed → packable_checked s ≡ checked s
  -- "own number with another label is 5": in any row and column, where none of 1 to 4 applies.
  pub own_number : (s : List ℕ) (r c : ℕ) → let n = get_or s 0 0 in let b = get_or s (packed_place n r c) 0 in
      bad_packed_count s ≡ false → bad_packed_length s ≡ false → bad_stall n (get_or s 1 0) ≡ false → bad_yields (unpacked s) n ≡ false
      → 1 ≤ r → r ≤ n → 1 ≤ c → c ≤ n → b / labels + 1 ≡ c → (b % labels ≡ 0 → ⊥) → packed_checked s ≡ Refused 5
  -- A fresh packed image and the fresh image are the forms of each other.
  pub packed_fresh : (n own : ℕ) → 2 ≤ n → n ≤ largest_packed → 1 ≤ own → own ≤ n
      → (unpacked (packed_image n own nothing) ≡ fresh_image n own) × (packed (fresh_image n own) ≡ packed_image n own nothing)
  -- Its call answers as the plain one up to 8, where both buffers have the right length or neither has, and 1 above; 0 leaves the fresh image, and any other answer
  -- the buffer.
  pub fresh_same : (s u : List ℕ) (n stall : ℕ) → n ≤ largest_packed → eqb (length s) (packed_length n) ≡ eqb (length u) (length_of n) → (packed_fresh_call s n stall).answer ≡ (fresh_call u n stall).answer
  pub fresh_over : (s : List ℕ) (n stall : ℕ) → largest_packed < n → packed_fresh_call s n stall ≡ refused 1 s
  pub fresh_zero : (s : List ℕ) (n stall : ℕ) (out : List ℕ) → ◌≡◌ {A = Outcome} (record { answer = 0; image = out }) (packed_fresh_call s n stall) → out ≡ packed_image n stall nothing
  pub fresh_refused : (s : List ℕ) (n stall : ℕ) → let o = packed_fresh_call s n stall in (o.answer ≡ 0 → ⊥) → o.image ≡ s
  -- "Meeting, milking and list on packed tables must equal those on the plain ones." A milking has the same answer, and leaves what unpacks to the plain image;
  pub milking_same : (s : List ℕ) (yield : ℕ) → let o = packed_milking_call s yield in let m = milking_call (unpacked s) yield in
      (o.answer ≡ m.answer) × (unpacked o.image ≡ m.image)
  -- "list" is the heard list: what the call answers and writes is what the plain one does;
  pub heard_same : (s buffer : List ℕ) → packed_heard_call s buffer ≡ heard_call (unpacked s) buffer
  -- the numbers of request 2026-05 are those of the unpacked form, and so is what refuses them;
  pub settled_same : (s buffer : List ℕ) → packed_settled_call s buffer ≡ settled_call (unpacked s) buffer
  -- a meeting has the same answer and verdicts, and leaves what unpacks to the two plain images.
  pub meeting_same : (s u buffer : List ℕ) → let o = packed_meeting_call s u buffer in let m = meeting_call (unpacked s) (unpacked u) buffer in
      (o.answer ≡ m.answer) × (unpacked o.first ≡ m.first) × (unpacked o.second ≡ m.second) × (o.verdicts ≡ m.verdicts)
  -- Document 01: "A refusal returns its number alone and changes no lent byte."
  pub milking_refused : (s : List ℕ) (yield : ℕ) → let o = packed_milking_call s yield in (o.answer ≡ 0 → ⊥) → o.image ≡ s
  pub meeting_refused : (s u buffer : List ℕ) → let o = packed_meeting_call s u buffer in 256 ≤ o.answer → (o.first ≡ s) × (o.second ≡ u) × (o.verdicts ≡ buffer)
  -- The check says the same of the images afterwards, accepted or refused: a packed image that passed passes still.
  pub milking_checked : (s : List ℕ) (yield : ℕ) → packed_checked (packed_milking_call s yield).image ≡ packed_checked s
  pub meeting_checked : (s u buffer : List ℕ) → let o = packed_meeting_call s u buffer in (packed_checked o.first ≡ packed_checked s) × (packed_checked o.second ≡ packed_checked u)
