-- The theorems of `causality`, as one record with a field for each, and those of messages. `proofs/Theory.antt` proves them for every history.
use Rattle.std.specs.Prelude.{ℕ, suc, ◌≤◌, ◌<◌, ◌≡◌, ◌↔◌, ◌⊎◌, T}
use Rattle.causality.specs.Event.{History, Of}
use Rattle.causality.specs.Past.{Past, last, View}
use Rattle.causality.specs.Latest.{LatestIn, Latest}
use Rattle.causality.specs.Clock.{latest, latest_in, in_past}
use Rattle.causality.specs.Best.{best, best_in}
use Rattle.causality.specs.Known.{Order, Known, CommonEvent}
use Rattle.causality.specs.GoodPath.{LatestByPath, BestByPath, Winner, winner}
use Rattle.causality.specs.Meetings.{Agree}
use Rattle.causality.specs.Messages.{Action, messages, Computation, Below}

pub record Theory (h : History) : Type 0 where
  -- 1. Past is reflexive on events, transitive, and decided by a computation.
  pub past_refl : (k : ℕ) → Past h (suc k) (suc k)
  pub past_trans : (x y z : ℕ) → Past h x y → Past h y z → Past h x z
  pub past_decided : (x y : ℕ) → T (in_past h x y) ↔ Past h x y
  pub past_dec : (x y : ℕ) → Dec (Past h x y)
  -- Of two events of one process the older lies in the past of the newer, and an older past holds nothing newer.
  pub comparable : (r x y : ℕ) → Of h r x → Of h r y → x ≤ y → Past h x y
  pub past_le : (x y : ℕ) → Past h x y → x ≤ y
  -- The next event leaves the view of whoever takes no part, and gives both that do the union of their views and itself.
  pub view_apart : (n p x : ℕ) → (Of h p (suc n) → ⊥) → View h (suc n) p x ↔ View h n p x
  pub view_joined : (n p x : ℕ) → Of h p (suc n)
      → View h (suc n) p x ↔ ((x ≡ suc n) ⊎ (View h n (h n).first x ⊎ View h n (h n).second x))
  -- So for the latests: none changes for whoever takes no part; the two that do get the event for each other, and for the rest the newer of their two.
  pub latest_apart : (n p r : ℕ) → (Of h p (suc n) → ⊥) → latest h (suc n) p r ≡ latest h n p r
  pub latest_own : (n p r : ℕ) → Of h p (suc n) → Of h r (suc n) → latest h (suc n) p r ≡ suc n
  pub latest_first : (n p r : ℕ) → Of h p (suc n) → (Of h r (suc n) → ⊥)
      → latest h n (h n).second r ≤ latest h n (h n).first r → latest h (suc n) p r ≡ latest h n (h n).first r
  pub latest_second : (n p r : ℕ) → Of h p (suc n) → (Of h r (suc n) → ⊥)
      → latest h n (h n).first r ≤ latest h n (h n).second r → latest h (suc n) p r ≡ latest h n (h n).second r
  -- What comes later changes nothing.
  pub past_agree : (g : History) (n x y : ℕ) → Agree h g n → y ≤ n → Past h x y ↔ Past g x y
  pub last_agree : (g : History) (n p : ℕ) → Agree h g n → last h n p ≡ last g n p
  pub latest_agree : (g : History) (n p r : ℕ) → Agree h g n → latest h n p r ≡ latest g n p r
  -- The computed latests are the defined ones, and those of document 003; best likewise.
  pub latest_iff : (n p r k : ℕ) → Latest h n p r k ↔ (latest h n p r ≡ k)
  pub latest_in_iff : (y r k : ℕ) → LatestIn h y r k ↔ (latest_in h y r ≡ k)
  pub path_latest : (n p r k : ℕ) → LatestByPath h n p r k ↔ (latest h n p r ≡ k)
  pub path_best : (n p q r : ℕ) (w : Winner) → BestByPath h n p q r w ↔ (winner p q (best h n p q r) ≡ w)
  pub best_pasts : (n p q r : ℕ) → best h n p q r ≡ best_in h (last h n p) (last h n q) r
  -- 2. What lies in two views lies in the past of an event that is a latest of both.
  pub common_event : (n p q x : ℕ) → View h n p x → View h n q x → CommonEvent h n p q x
  -- 3. Known is in the other's view; the verdict follows from known; at least one of the two is known.
  pub known_view : (n p q r : ℕ) → Known h n p q r ↔ ((latest h n p r ≡ 0) ⊎ View h n q (latest h n p r))
  pub known_le : (n p q r : ℕ) → Known h n p q r ↔ (latest h n p r ≤ latest h n q r)
  pub only_first_known : (n p q r : ℕ) → Known h n p q r → (Known h n q p r → ⊥) → best h n p q r ≡ 2
  pub only_second_known : (n p q r : ℕ) → (Known h n p q r → ⊥) → Known h n q p r → best h n p q r ≡ 1
  pub both_known : (n p q r : ℕ) → Known h n p q r → Known h n q p r → (latest h n p r ≡ latest h n q r) × (best h n p q r ≡ 0)
  pub one_is_known : (n p q r : ℕ) → (Known h n p q r → ⊥) → (Known h n q p r → ⊥) → ⊥
  -- 4. Secondary information suffices: z's latest of s stands in row t, column s of the table of s, for some t.
  pub secondary : (n z s : ℕ) → 0 < latest h n z s → (t : ℕ) × (latest_in h (latest h n s t) s ≡ latest h n z s)
  -- 5, first half. A latest was somebody's latest at every moment since it happened.
  pub was_latest : (n m z s : ℕ) → 0 < latest h n z s → latest h n z s ≤ m → m ≤ n → (y : ℕ) × (latest h m y s ≡ latest h n z s)
  -- 7. Row s is the same for all who have the same latest of s; what p alone has newer lies in the past of nothing that q has.
  pub own_row : (n p r : ℕ) → latest h n p r ≡ latest_in h (latest h n p p) r
  pub unordered : (n p q r s : ℕ) → latest h n q r < latest h n p r → Past h (latest h n p r) (latest h n q s) → ⊥
  -- 9. What p knows q to have heard, q has heard: where p's latest of r lies in the past of its latest of q, q has that event of r or a newer one at every moment since.
  pub ordered_heard : (n m p q r : ℕ) → n ≤ m → Order h n p r q → latest h n p r ≤ latest h m q r
  -- And p still knows it, as long as its latest of r is the same.
  pub order_stays : (n m p q r : ℕ) → n ≤ m → latest h m p r ≡ latest h n p r → Order h n p r q → Order h m p r q

-- For messages that go one way the past is document 004's order of events.
pub record MessageTheory (N : ℕ) (u : ℕ → Action) : Type 0 where
  pub past_iff_below : Computation N u → (x y : ℕ) → Past (messages N u) x y ↔ Below u x y
