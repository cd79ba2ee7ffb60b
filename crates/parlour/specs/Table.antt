-- What a history says of a head: document 01's "The table of one head", for the history that a list leaves.
use Rattle.std.specs.Prelude.{ℕ, zero, suc, cond, List, eqb}
use Rattle.causality.specs.Event.{History}
use Rattle.causality.specs.Clock.{latest, latest_in, in_past}
use Rattle.labels.specs.Label.{label}
use Rattle.labels.specs.Name.{partner_of}
use Rattle.image.specs.Encode.{Table, encode}
use Rattle.image.specs.declared.Name.{Name}
use Rattle.image.specs.declared.Name.TheVariants.{Never, With}
use Rattle.parlour.specs.Item.{Item}
use Rattle.parlour.specs.History.{meetings, events, yield_after, yield_at}

-- "Its name at one of its stalls is the other stall with this label": the name in column r of the meeting at place k
unfoldable pub name_in : ℕ → History → ℕ → ℕ → Name
name_in n h r zero = Never
name_in n h r (suc k) = With (record { partner = partner_of h (suc k) r; label = label n h (suc k) })

-- The place that row s names in column r, of head p after m meetings. "The **own row** (row number equal to the head's stall) names the latest of each stall." and
-- "row s names in column r the latest of r in the past of the latest of s"
unfoldable pub named : History → ℕ → ℕ → ℕ → ℕ → ℕ
named h m p s r = cond (eqb s p) (latest h m p r) (latest_in h (latest h m p s) r)

-- the table of head p after m meetings, for these yields at meetings and this current yield
unfoldable pub table_at : ℕ → History → (ℕ → ℕ → ℕ) → ℕ → ℕ → ℕ → Table
table_at n h yields m p current =
    record {
      current = current;
      names = λ s r. name_in n h r (named h m p s r);
      -- "One **yield** for each stall: the current yield it had at its latest." That of a stall never heard: not milked.
      yields = λ r. yields (latest h m p r) r;
      -- "**Order mark** (r, s): set when the latest of r lies in the past of the latest of s."
      order = λ r s. in_past h (latest h m p r) (latest h m p s);
    }

-- the table and the image of head p after a history
unfoldable pub table_after : ℕ → List Item → ℕ → Table
table_after n l p = table_at n (events l) (yield_at l) (meetings l) p (yield_after l p)

unfoldable pub image_after : ℕ → List Item → ℕ → List ℕ
image_after n l p = encode n p (table_after n l p)
