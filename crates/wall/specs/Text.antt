-- The wall panel of a head, from the history alone: no table and no label.
-- Request 2026-08: "Each heard stall has one line, and rank counts the lines from 1, equal yields too. Order as in 2026-07".
use Rattle.std.specs.Prelude.{ℕ, Bool, not, List, map, eqb}
use Rattle.rank.specs.declared.Record.{Record}
use Rattle.rank.specs.Order.{ranked}
use Rattle.head.specs.Heard.{chosen}
use Rattle.parlour.specs.Item.{Item}
use Rattle.parlour.specs.History.{yield_at}
use Rattle.settled.specs.Count.{latest_after}
use Rattle.panel.specs.Panel.{lines}

-- stall r is heard: head p has a latest of it
abbrev pub is_heard_after : List Item → ℕ → ℕ → Bool
is_heard_after l p r = not (eqb (latest_after l p r) 0)

-- "the current yield it had at its latest"
abbrev pub record_after : List Item → ℕ → ℕ → Record
record_after l p r = record { stall = r; given = yield_at l (latest_after l p r) r }

-- the heard stalls of 1 to n in the order of request 2026-07
unfoldable pub ranking : ℕ → List Item → ℕ → List Record
ranking n l p = ranked (map (record_after l p) (chosen n (is_heard_after l p)))

abbrev pub wall_text : ℕ → List Item → ℕ → List ℕ
wall_text n l p = lines (ranking n l p)
