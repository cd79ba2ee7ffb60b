-- The theorems of `wall`, of lists of calls in whatever form heads keep their tables. `proofs/Theory.antt` proves them, of plain and of packed tables, for every n.
use Rattle.std.specs.Prelude.{ℕ, ◌+◌, ◌≤◌, ◌≡◌, List, length, take}
use Rattle.parlour.specs.Item.{Item, history}
use Rattle.parlour.specs.Run.{Images, Called, Calls, RunBy}
use Rattle.parlour.specs.Claim.{items}
use Rattle.panel.proofs.wilbryn_panel.Statement as panel
use Rattle.panel.proofs.wilbryn_packed_panel.Statement as packed_panel
use Rattle.panel.specs.Panel.{panel_length, PanelOutcome, shown}
use Rattle.panel.specs.Reading.{read_records}
use Rattle.wall.specs.Text.{ranking, wall_text}

-- What a call for the panel of head p answers and leaves after a history: the length of the text, and the text with zeros behind it; 256 plus 8 for a buffer of another
-- length, which is as it was then.
pub record Shown (n : ℕ) (l : List Item) (p : ℕ) (buffer : List ℕ) (answer : ℕ) (text : List ℕ) : Type 0 where
  pub accepted : length buffer ≡ panel_length → ◌≡◌ {A = PanelOutcome} (record { answer = answer; text = text }) (shown (wall_text n l p))
  pub refused : (length buffer ≡ panel_length → ⊥) → (answer ≡ 256 + 8) × (text ≡ buffer)

-- After any list of calls by heads that keep their tables in some form, with the call for the panel of a table in that form.
pub record Theory (by : Calls) (panel : (image buffer : List ℕ) (answer : ℕ) (text : List ℕ) → Type 0) (n : ℕ) : Type 0 where
  -- The panel of every head is that of the history.
  pub shows : (calls : List Called) (images : Images) → RunBy by n calls images
      → (p : ℕ) → 1 ≤ p → p ≤ n → (buffer : List ℕ) (answer : ℕ) (text : List ℕ) → panel (images p) buffer answer text
      → Shown n (history n (items calls)) p buffer answer text
  -- Read from the wall, as far as the answer says, it gives the history's ranking.
  pub reads : (calls : List Called) (images : Images) → RunBy by n calls images
      → (p : ℕ) → 1 ≤ p → p ≤ n → (buffer : List ℕ) (answer : ℕ) (text : List ℕ) → panel (images p) buffer answer text → length buffer ≡ panel_length
      → read_records (take answer text) ≡ ranking n (history n (items calls)) p
  -- Whatever it is lent, there is such a call.
  pub calls_exist : (image buffer : List ℕ) → (o : PanelOutcome) × panel image buffer o.answer o.text

-- The two functions meet their contracts: each call is safe, returns, and what was read of its contract holds.
pub record Returns : Type 2 where
  pub panel : {M : Type 1} → panel.statement M
  pub packed_panel : {M : Type 1} → packed_panel.statement M
