-- What holds of all images along a list: they are accepted, and they are the images of the history.
use Prim.Native.Nat.{ℕ, ◌≤◌}
use mathlib.Core.Path.{◌≡◌, refl, sym, ap, subst, ◌∙◌}
use mathlib.Core.List.{List, []}
use native.Mathlib.Omega.{arith}
use Rattle.causality.specs.Meetings.{Joins}
use Rattle.causality.specs.Clock.{latest, latest_in, in_past}
use Rattle.causality.proofs.Clocks.{latest_le, latest_in_le}
use Rattle.image.specs.Layout.{largest}
use Rattle.image.specs.Encode.{Table, nothing, encode, table_of}
use Rattle.image.specs.Fresh.{fresh_image}
use Rattle.image.proofs.Encoding.{current_encode}
use Rattle.image.proofs.Accepted.{Accepted}
use Rattle.image.proofs.FreshTable.{fresh_accepted}
use Rattle.head.proofs.Freshness.{fresh_zero}
use Rattle.parlour.specs.Item.{Item}
use Rattle.parlour.specs.History.{meetings, events, yield_after, yield_at}
use Rattle.parlour.specs.Table.{name_in, table_at, table_after, image_after}
use Rattle.parlour.specs.Call.{FreshCall}
use Rattle.parlour.specs.Run.{Images}
use Rattle.parlour.proofs.Says.{Says}
use Rattle.parlour.proofs.Images.{table_says, says_one, image_says}
use Rattle.parlour.proofs.Histories.{joins_meeting}

pub record Kept (n : ℕ) (l : List Item) (images : Images) : Type 0 where
  pub n_from : 2 ≤ n
  pub n_to : n ≤ largest
  pub joins : (k : ℕ) → Joins n (events l k)
  pub good : (p : ℕ) → 1 ≤ p → p ≤ n → Accepted (images p) n p
  pub is : (p : ℕ) → 1 ≤ p → p ≤ n → images p ≡ image_after n l p

-- a table that says what the history says, with the current yield, has the image of the history
pub is_after : (n : ℕ) (l : List Item) (p : ℕ) {t : Table} → Says n (events l) (yield_at l) (meetings l) p t → t.current ≡ yield_after l p → encode n p t ≡ image_after n l p
unfolding image_after table_after table_at
is_after n l p w e = says_one w (table_says n (events l) (yield_at l) (meetings l) p (yield_after l p)) e

module _ {n : ℕ} {l : List Item} {images : Images} (w : Kept n l images) (p : ℕ) (p_from : 1 ≤ p) (p_to : p ≤ n) where
  pub kept_says : Says n (events l) (yield_at l) (meetings l) p (table_of (images p) n)
  unfolding image_after table_after
  kept_says =
      subst (λ s. Says n (events l) (yield_at l) (meetings l) p (table_of s n)) (sym (w.is p p_from p_to))
      (image_says w.joins (table_says n (events l) (yield_at l) (meetings l) p (yield_after l p)))

  pub kept_current : (table_of (images p) n).current ≡ yield_after l p
  unfolding table_of image_after table_after table_at
  kept_current = ap (λ s. (table_of s n).current) (w.is p p_from p_to) ∙ current_encode n p (table_after n l p)

-- a table that says nothing says what no meeting says
nothing_says : (n p : ℕ) → Says n (events []) (yield_at []) 0 p nothing
unfolding nothing name_in yield_at in_past
nothing_says n p =
    let none : (r : ℕ) → latest (events []) 0 p r ≡ 0 = λ r. omega (arith, latest_le (events []) 0 p r) in
    record {
      names = λ s r i j k l.
          let d : latest_in (events []) (latest (events []) 0 p s) r ≡ 0 = omega (arith, none s, latest_in_le (events []) (latest (events []) 0 p s) r) in
          ap (name_in n (events []) r) (sym d);
      yields = λ r i j. refl;
      order = λ r s i j k l. ap (λ x. in_past (events []) x (latest (events []) 0 p s)) (sym (none r));
    }

pub fresh_kept : {n : ℕ} → 2 ≤ n → n ≤ largest → (buffers images : Images) → ((p : ℕ) → 1 ≤ p → p ≤ n → FreshCall (buffers p) n p 0 (images p)) → Kept n [] images
unfolding nothing fresh_image events yield_after meetings
fresh_kept {n} i j buffers images calls =
    let is : (p : ℕ) → 1 ≤ p → p ≤ n → images p ≡ fresh_image n p = λ p k l. fresh_zero (buffers p) n p (images p) (calls p k l).learnt in
    record {
      n_from = i;
      n_to = j;
      joins = λ k. joins_meeting (omega arith) (omega arith) (omega arith) i (λ e. omega arith);
      good = λ p k l. subst (λ s. Accepted s n p) (sym (is p k l)) (fresh_accepted n p i j k l);
      is = λ p k l. is p k l ∙ is_after n [] p (nothing_says n p) refl;
    }

-- what changes no byte changes nothing
pub kept_same : {n : ℕ} {l : List Item} {images next : Images} → Kept n l images → ((p : ℕ) → next p ≡ images p) → Kept n l next
kept_same {n} {next = next} w e =
    record {
      n_from = w.n_from;
      n_to = w.n_to;
      joins = w.joins;
      good = λ p i j. subst (λ s. Accepted s n p) (sym (e p)) (w.good p i j);
      is = λ p i j. e p ∙ w.is p i j;
    }
