-- From the images of a list to its panels: for any form of tables whose lists and calls are those of plain images.
use Prim.Native.Nat.{ℕ, zero, suc, ◌≤◌}
use mathlib.Core.Path.{◌≡◌, refl, sym, ap, ap₂, ◌∙◌}
use mathlib.Core.Bool.{Bool, true, false, not, cond}
use mathlib.Core.List.{List, [], ◌∷◌, ◌++◌, map, map-append}
use native.Mathlib.Omega.{arith}
use lib.ListN.{length, take}
use Rattle.image.specs.Layout.{partner_at, label_at, name_at, heard_at}
use Rattle.image.specs.Row.{is_never}
use Rattle.image.specs.Encode.{table_of}
use Rattle.image.specs.Theory.{Passes}
use Rattle.image.proofs.Accepted.{checked_accepted}
use Rattle.rank.specs.declared.Record.{Record}
use Rattle.rank.specs.Order.{ranked}
use Rattle.head.specs.Heard.{chosen, record_of, heard_records}
use Rattle.head.proofs.HeardLists.{chosen_agree, named}
use Rattle.parlour.specs.Item.{Item, history}
use Rattle.parlour.specs.History.{events}
use Rattle.parlour.specs.Run.{Images, Called, Calls, RunBy}
use Rattle.parlour.specs.Claim.{items}
use Rattle.parlour.proofs.Names.{never_is}
use Rattle.parlour.proofs.Says.{own_names}
use Rattle.parlour.proofs.Kept.{Kept, kept_says}
use Rattle.settled.specs.Count.{latest_after}
use Rattle.panel.specs.Panel.{lines, panel_length, PanelOutcome, shown, panel_call}
use Rattle.panel.specs.Reading.{read_records}
use Rattle.panel.proofs.Calls.{panel_short, panel_accepted}
use Rattle.panel.proofs.Theory as panel
use Rattle.wall.specs.Text.{is_heard_after, record_after, ranking}
use Rattle.wall.specs.Theory.{Shown, Theory}

-- what agrees on the stalls of 1 to n agrees on those chosen
map_chosen : (n : ℕ) (t : ℕ → Bool) (f g : ℕ → Record) → ((r : ℕ) → 1 ≤ r → r ≤ n → f r ≡ g r) → map f (chosen n t) ≡ map g (chosen n t)
unfolding chosen
map_chosen zero t f g e = refl
map_chosen (suc n) t f g e =
    map-append f (chosen n t) (cond (t (suc n)) (suc n ∷ []) [])
    ∙ ap₂ ◌++◌ (map_chosen n t f g (λ r i j. e r i (omega arith))) (go (t (suc n)))
    ∙ sym (map-append g (chosen n t) (cond (t (suc n)) (suc n ∷ []) []))
  where
    go : (b : Bool) → map f (cond b (suc n ∷ []) []) ≡ map g (cond b (suc n ∷ []) [])
    go true = ap (λ x. x ∷ []) (e (suc n) (omega arith) (omega arith))
    go false = refl

-- one head's table
module _ {n : ℕ} {l : List Item} {images : Images} (w : Kept n l images) (p : ℕ) (p_from : 1 ≤ p) (p_to : p ≤ n) where
  -- it has heard of a stall exactly where it has a latest of it
  heard_is : (r : ℕ) → 1 ≤ r → r ≤ n → heard_at (images p) n p r ≡ is_heard_after l p r
  unfolding heard_at name_at table_of
  heard_is r i j =
      sym (named (partner_at (images p) n p r) (label_at (images p) n p r))
      ∙ ap (λ x. not (is_never x)) (own_names (kept_says w p p_from p_to) p_from p_to r i j)
      ∙ ap not (never_is n (events l) r (latest_after l p r))

  record_is : (r : ℕ) → 1 ≤ r → r ≤ n → record_of (images p) n r ≡ record_after l p r
  unfolding table_of
  record_is r i j = ap (λ y. record { stall = r; given = y }) ((kept_says w p p_from p_to).yields r i j)

  -- so its heard list is the ranking of the history
  records_are : heard_records (images p) n p ≡ ranking n l p
  unfolding heard_records ranking
  records_are =
      ap ranked (map_chosen n (heard_at (images p) n p) (record_of (images p) n) (record_after l p) record_is
      ∙ ap (map (record_after l p)) (chosen_agree n (heard_at (images p) n p) (is_heard_after l p) heard_is))

  passes : Passes (images p) n p
  passes = checked_accepted (w.good p p_from p_to)

  module _ (buffer : List ℕ) {text : List ℕ} {answer : ℕ} (call : ◌≡◌ {A = PanelOutcome} (record { answer = answer; text = text }) (panel_call (images p) buffer)) where
    pub shown_is : Shown n l p buffer answer text
    shown_is =
        record {
          accepted = λ e. call ∙ panel_accepted (images p) buffer passes e ∙ ap (λ x. shown (lines x)) records_are;
          refused = λ f. let o = call ∙ sym (panel_short (images p) buffer passes f) in (ap (λ o. o.answer) o, ap (λ o. o.text) o);
        }

    pub read_is : length buffer ≡ panel_length → read_records (take answer text) ≡ ranking n l p
    read_is e = ap (λ o. read_records (take o.answer o.text)) call ∙ (panel.theory).panel_shows (images p) n p buffer passes e ∙ records_are

-- the lists and calls of a form of tables are those of plain images
pub record Formed (by : Calls) (panel : (image buffer : List ℕ) (answer : ℕ) (text : List ℕ) → Type 0) (plain : List ℕ → List ℕ) (n : ℕ) : Type 0 where
  pub kept : {calls : List Called} {images : Images} → RunBy by n calls images → Kept n (history n (items calls)) (λ q. plain (images q))
  pub call : {image buffer text : List ℕ} {answer : ℕ} → panel image buffer answer text
      → ◌≡◌ {A = PanelOutcome} (record { answer = answer; text = text }) (panel_call (plain image) buffer)
  pub exists : (image buffer : List ℕ) → (o : PanelOutcome) × panel image buffer o.answer o.text

pub theory_of : {by : Calls} {panel : (image buffer : List ℕ) (answer : ℕ) (text : List ℕ) → Type 0} {plain : List ℕ → List ℕ} {n : ℕ} → Formed by panel plain n → Theory by panel n
theory_of w =
    record {
      shows = λ calls images run p i j buffer answer text call. shown_is (w.kept run) p i j buffer (w.call call);
      reads = λ calls images run p i j buffer answer text call e. read_is (w.kept run) p i j buffer (w.call call) e;
      calls_exist = w.exists;
    }
