-- What the functions behind the heard list say to each other: the records are gathered by stall number. No caller of `wilbryn_heard` can see this.
use Rattle.std.specs.Prelude.{ℕ, ◌+◌, ◌-◌, ◌*◌, Bool, not, List, map, get_or}
use Rattle.image.specs.Layout.{word}
use Rattle.image.specs.Row.{is_never, never_at}
use Rattle.image.specs.declared.Entry.{Entry}
use Rattle.rank.specs.declared.Record.{Record}
use Rattle.head.specs.Heard.{chosen}

-- column r of a row has a name
abbrev pub heard_in : List Entry → ℕ → Bool
heard_in row r = not (is_never (get_or row (r - 1) (never_at 0)).name)

-- the record of stall r, with the yields from a place on
abbrev pub record_at : List ℕ → ℕ → ℕ → Record
record_at s yields r = record { stall = r; given = word s (yields + (r - 1) * 2) }

-- the records of the heard stalls of 1 to n
unfoldable pub records_to : List ℕ → ℕ → List Entry → ℕ → List Record
records_to s yields row n = map (record_at s yields) (chosen n (heard_in row))
