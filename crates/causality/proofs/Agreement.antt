-- What comes later changes nothing: histories that agree so far have the same pasts, last events and latests.
use Prim.Native.Nat.{ℕ, zero, suc, ◌≤◌}
use mathlib.Core.Path.{◌≡◌, refl, sym, ap, ◌∙◌}
use mathlib.Core.Bool.{Bool}
use mathlib.Core.List.{[]}
use native.Mathlib.Omega.{arith}
use lib.ListN.{get_or}
use Rattle.causality.specs.Event.{History, Of, takes_part}
use Rattle.causality.specs.Past.{Past, here, on, newest, last}
use Rattle.causality.specs.Clock.{clocks, latest, latest_in}
use Rattle.causality.specs.Meetings.{Agree}

pub agree_sym : {h g : History} {n : ℕ} → Agree h g n → Agree g h n
agree_sym a = record { same = λ k l. sym (a.same k l) }

pub agree_less : {h g : History} {m n : ℕ} → m ≤ n → Agree h g n → Agree h g m
agree_less l a = record { same = λ k b. a.same k (omega arith) }

-- who takes part in an event so far
pub takes_part_agree : {h g : History} {n : ℕ} → Agree h g n → (r k : ℕ) → k ≤ n → takes_part h r k ≡ takes_part g r k
unfolding takes_part
takes_part_agree a r zero l = refl
takes_part_agree a r (suc k) l = rw (a.same k l)

pub of_agree : {h g : History} {n r k : ℕ} → Agree h g n → k ≤ n → Of h r k → Of g r k
of_agree {r = r} {k = k} a l o = record { holds = rw (takes_part_agree a r k l) at o.holds }

pub past_agree : {h g : History} {n x y : ℕ} → Agree h g n → y ≤ n → Past h x y → Past g x y
past_agree a l (here p) = here p
past_agree a l (on c k) =
    on (past_agree a (omega (arith, k.ascends)) c)
    (record {
      process = k.process;
      of_older = of_agree a (omega (arith, k.ascends)) k.of_older;
      of_newer = of_agree a l k.of_newer;
      ascends = k.ascends;
    })

newest_agree : (f g : ℕ → Bool) (n : ℕ) → ((k : ℕ) → k ≤ n → f k ≡ g k) → newest f n ≡ newest g n
unfolding newest
newest_agree f g zero e = refl
newest_agree f g (suc n) e = rw (e (suc n) (omega arith), newest_agree f g n (λ k l. e k (omega arith)))

pub last_agree : {h g : History} {n : ℕ} → Agree h g n → (p : ℕ) → last h n p ≡ last g n p
unfolding last
last_agree {h} {g} {n} a p = newest_agree (takes_part h p) (takes_part g p) n (λ k l. takes_part_agree a p k l)

clocks_agree : {h g : History} (n : ℕ) → Agree h g n → clocks h n ≡ clocks g n
unfolding clocks
clocks_agree zero a = refl
clocks_agree (suc n) a = rw (a.same n (omega arith), clocks_agree n (agree_less (omega arith) a))

pub latest_agree : {h g : History} {n : ℕ} → Agree h g n → (p r : ℕ) → latest h n p r ≡ latest g n p r
unfolding latest
latest_agree {n = n} a p r = ap (λ c. get_or (get_or c p []) r 0) (clocks_agree n a)

pub latest_in_agree : {h g : History} {n : ℕ} → Agree h g n → (y r : ℕ) → y ≤ n → latest_in h y r ≡ latest_in g y r
unfolding latest_in
latest_in_agree a zero r l = refl
latest_in_agree {h} {g} a (suc k) r l =
    latest_agree (agree_less l a) (h k).first r ∙ ap (λ e. latest g (suc k) e.first r) (a.same k l)
