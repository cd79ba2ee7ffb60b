-- What callers may use of a milking, of the heard list, and of the numbers of `Settled`. `proofs/Theory.antt` proves it for every image; that a fresh image passes is in `image`, and what a meeting leaves in `merge`.
use Rattle.std.specs.Prelude.{ℕ, ◌-◌, ◌≤◌, ◌≡◌, ◌↔◌, List, length, get_or}
use Rattle.image.specs.Layout.{no_yield, name_at}
use Rattle.image.specs.Check.{checked}
use Rattle.image.specs.Theory.{Passes}
use Rattle.image.specs.declared.Header.{Header}
use Rattle.image.specs.declared.Name.TheVariants.{Never}
use Rattle.image.specs.declared.Checked.TheVariants.{Good}
use Rattle.head.specs.Calls.{refused, milking_call}
use Rattle.rank.specs.declared.Record.{Record}
use Rattle.head.specs.Heard.{HeardList, heard_records}
use Rattle.head.specs.Settled.{settled_counts}

pub record Theory : Type 0 where
  -- The check says the same of the image afterwards, accepted or refused: an image that passed passes still.
  pub milked_accepted : (s : List ℕ) (yield : ℕ) → checked (milking_call s yield).image ≡ checked s
  -- Request 2026-01: "A milking with ffff is still number 4."
  pub not_milked_refused : (s : List ℕ) (h : Header) → checked s ≡ Good h → milking_call s no_yield ≡ refused 4 s
  -- Request 2026-07: the list has one record for each heard stall, with its yield, and no other, in order; "No choice of order is left": no other list of records is so.
  pub heard_list_lem : (s : List ℕ) (n own : ℕ) → HeardList s n own (heard_records s n own)
  pub one_list : (s : List ℕ) (n own : ℕ) (l : List Record) → HeardList s n own l → l ≡ heard_records s n own
  -- Request 2026-05: N bytes, each a number of stalls; "0 where never heard", and only there: a heard stall has at least its own mark.
  pub settled_long : (s : List ℕ) (n : ℕ) → length (settled_counts s n) ≡ n
  pub settled_most : (s : List ℕ) (n r : ℕ) → 1 ≤ r → r ≤ n → get_or (settled_counts s n) (r - 1) 0 ≤ n
  pub settled_heard : (s : List ℕ) (n own : ℕ) → Passes s n own → (r : ℕ) → 1 ≤ r → r ≤ n → (get_or (settled_counts s n) (r - 1) 0 ≡ 0) ↔ (name_at s n own r ≡ Never)
