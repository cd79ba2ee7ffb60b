-- The theorems of `settled`: of histories, and of lists of calls in whatever form heads keep their tables. `proofs/Theory.antt` proves them, of the calls on plain images, for
-- every n.
use Rattle.std.specs.Prelude.{ℕ, ◌-◌, ◌≤◌, ◌<◌, ◌≡◌, ◌↔◌, true, List, ◌++◌, length, get_or}
use Rattle.causality.specs.Event.{Of}
use Rattle.causality.specs.Past.{Past}
use Rattle.causality.specs.Clock.{in_past}
use Rattle.causality.specs.Best.{best}
use Rattle.causality.specs.Meetings.{Agree}
use Rattle.image.specs.Layout.{name_at}
use Rattle.head.proofs.wilbryn_settled.Statement as settled
use Rattle.head.specs.Settled.{Settled}
use Rattle.parlour.specs.Item.{Item, history}
use Rattle.parlour.specs.History.{meetings, events}
use Rattle.parlour.specs.Table.{name_in}
use Rattle.parlour.specs.Run.{Images, Called, RunBy}
use Rattle.parlour.specs.Claim.{items}
use Rattle.settled.specs.Count.{latest_after, count_after, counts_after}
use Rattle.settled.specs.Call.{Form}

-- From the history alone, in a parlour of n heads.
pub record HistoryTheory (n : ℕ) (l : List Item) : Type 0 where
  -- "It counts stall s when the latest of r lies in the past of the latest of s": the number is n exactly where that is so of every stall,
  pub all_counted : (p r : ℕ) → (count_after n l p r ≡ n) ↔ ((s : ℕ) → 1 ≤ s → s ≤ n → Past (events l) (latest_after l p r) (latest_after l p s))
  -- and "0 where never heard", exactly there.
  pub never_heard : (p r : ℕ) → 1 ≤ r → r ≤ n → (count_after n l p r ≡ 0) ↔ (latest_after l p r ≡ 0)
  -- What comes later changes no place: a meeting is still the meeting at its place.
  pub places_stay : (later : List Item) → Agree (events l) (events (later ++ l)) (meetings l)
  -- A stall that is counted, q, has heard p's latest of r, or newer news of r, and whatever comes later has still heard it.
  pub counted_heard : (p q r : ℕ) → in_past (events l) (latest_after l p r) (latest_after l p q) ≡ true → (later : List Item) → latest_after l p r ≤ latest_after (later ++ l) q r
  -- The number for one and the same meeting never falls. It may when p hears of a newer meeting of r (Examples.antt: falls_again).
  pub same_no_fewer : (p r : ℕ) (later : List Item) → latest_after (later ++ l) p r ≡ latest_after l p r → count_after n l p r ≤ count_after n (later ++ l) p r
  -- So where the number is n, every head has heard it, and ever after, whatever the number is then.
  pub all_heard : (p r : ℕ) → count_after n l p r ≡ n → (later : List Item) (q : ℕ) → 1 ≤ q → q ≤ n → latest_after l p r ≤ latest_after (later ++ l) q r

-- What a call for the numbers of head p answers and leaves after a history: 0 and the numbers; 8 for a buffer that is not N bytes, which is as it was then.
pub record Answered (n : ℕ) (l : List Item) (p : ℕ) (buffer : List ℕ) (answer : ℕ) (counts : List ℕ) : Type 0 where
  pub accepted : length buffer ≡ n → (answer ≡ 0) × (counts ≡ counts_after n l p)
  pub refused : (length buffer ≡ n → ⊥) → (answer ≡ 8) × (counts ≡ buffer)

-- "every head's own table truly has that meeting or a newer one for r": the own row of this image, of head q, names a meeting of r that is not older than that at place k
pub record HasHeard (n : ℕ) (l : List Item) (image : List ℕ) (q r k : ℕ) : Type 0 where
  pub place : ℕ
  pub is_latest : latest_after l q r ≡ place
  pub is_named : name_at image n q r ≡ name_in n (events l) r place
  pub of_stall : Of (events l) r place
  pub not_older : k ≤ place

-- the meeting of r at place k is settled in a parlour of n heads with these images
pub record IsSettled (n : ℕ) (l : List Item) (images : Images) (r k : ℕ) : Type 0 where
  -- every head has it or a newer one;
  pub heard : (q : ℕ) → 1 ≤ q → q ≤ n → HasHeard n l (images q) q r k
  -- so it is news to nobody: of any two heads whichever has newer news of r has it of a newer meeting, and the yield told with this one is not asked for again
  pub no_news : (a b : ℕ) → 1 ≤ a → a ≤ n → 1 ≤ b → b ≤ n
      → (best (events l) (meetings l) a b r ≡ 1 → k < latest_after l a r) × (best (events l) (meetings l) a b r ≡ 2 → k < latest_after l b r)

-- the plain images of all heads
abbrev pub plain_images : Form → Images → Images
plain_images form images q = form.plain (images q)

-- After any list of calls, and for what comes after it.
pub record Theory (form : Form) (n : ℕ) : Type 0 where
  -- The numbers are those of the history.
  pub answered : (calls : List Called) (images : Images) → RunBy form.calls n calls images
      → (p : ℕ) → 1 ≤ p → p ≤ n → (buffer : List ℕ) (answer : ℕ) (counts : List ℕ) → form.settled (images p) buffer answer counts
      → Answered n (history n (items calls)) p buffer answer counts
  -- "Where the number is N, every head's own table truly has that meeting or a newer one for r, and this stays so through later meetings.": of head p's latest of r at that
  -- moment, then and after every longer list of calls. (The number itself may fall, when p hears of a newer meeting of r: Examples.antt: falls_again.)
  pub settled : (calls : List Called) (images : Images) → RunBy form.calls n calls images
      → (p r : ℕ) → 1 ≤ p → p ≤ n → 1 ≤ r → r ≤ n
      → (buffer counts : List ℕ) → form.settled (images p) buffer 0 counts → get_or counts (r - 1) 0 ≡ n
      → (later : List Called) (images' : Images) → RunBy form.calls n (later ++ calls) images'
      → IsSettled n (history n (items (later ++ calls))) (plain_images form images') r (latest_after (history n (items calls)) p r)
  -- Whatever it is lent, there is such a call.
  pub calls_exist : (image buffer : List ℕ) → (o : Settled) × form.settled image buffer o.answer o.counts

-- The function meets its contract: each call is safe, returns, and what was read of its contract holds.
pub record Returns : Type 2 where
  pub settled : {M : Type 1} → settled.statement M
