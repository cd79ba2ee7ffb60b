-- Demand 3, by one induction over the calls, and demand 2 from it.
use Prim.Native.Nat.{ℕ, zero, suc, ◌-◌, ◌≤◌, ◌<◌}
use mathlib.Core.Path.{◌≡◌, refl, sym, ap, ap₂, subst, subst₂, ◌∙◌}
use mathlib.Core.Logic.{◌↔◌}
use mathlib.Core.Bool.{cond}
use mathlib.Core.List.{List, [], ◌∷◌, ◌++◌, map, append_assoc}
use native.Mathlib.Omega.{arith}
use lib.ListN.{length, get_or}
use Rattle.causality.specs.Clock.{latest}
use Rattle.causality.specs.Best as Best
use Rattle.causality.specs.Best.{best}
use Rattle.causality.specs.GoodPath.{winner}
use Rattle.causality.proofs.Newer.{newer_in}
use Rattle.causality.proofs.GoodPaths.{path_best}
use Rattle.labels.specs.Label.{label}
use Rattle.labels.specs.Name.{partner_of, SameName, name_of}
use Rattle.labels.proofs.Unique.{names_agree}
use Rattle.image.specs.Stalls.{each}
use Rattle.image.specs.Layout.{name_at}
use Rattle.image.specs.Encode.{table_of}
use Rattle.image.proofs.Has.{length_each, each_byte}
use Rattle.image.specs.declared.Meet.{Meet}
use Rattle.image.specs.declared.Name.TheVariants.{With}
use Rattle.parlour.specs.Item.{Item, history}
use Rattle.parlour.specs.History.{meetings, events}
use Rattle.parlour.specs.Table.{name_in}
use Rattle.parlour.specs.Run.{Images, Called, Run, start, milk, meet}
use Rattle.parlour.specs.Claim.{CallClaim, items, read, Claim}
use Rattle.parlour.specs.Verdict.{accepted_items, BestVerdicts, VerdictsAreBest}
use Rattle.parlour.proofs.Splits.{of_newest, of_none}
use Rattle.parlour.proofs.Says.{own_names}
use Rattle.parlour.proofs.Kept.{Kept, fresh_kept, kept_says}
use Rattle.parlour.proofs.Milkings.{milking_claim, milking_kept}
use Rattle.parlour.proofs.Meetings.{each_map, meeting_claim, meeting_kept}

pub run_kept : {n : ℕ} {calls : List Called} {images : Images} → Run n calls images → Kept n (history n (items calls)) images
unfolding history
run_kept (start i j buffers images calls) = fresh_kept i j buffers images calls
run_kept (milk run stall y answer image i j call) = milking_kept (run_kept run) stall y answer image i j call
run_kept (meet run p q answer buffer first second verdicts i j k l f call) = meeting_kept (run_kept run) p q answer buffer first second verdicts i j k l f call

-- what is claimed of each call
run_claim : {n : ℕ} {calls : List Called} {images : Images} → Run n calls images → (c : Called) (earlier later : List Called) → calls ≡ later ++ (c ∷ earlier)
    → CallClaim n c (history n (items earlier))
run_claim (start i j buffers images calls) c earlier later e = absurd (of_none c earlier later e)
run_claim {n} (milk {calls = calls} run stall y answer image i j call) c earlier later e =
    of_newest c earlier (λ d rest. CallClaim n d (history n (items rest))) _ calls
    (milking_claim (run_kept run) stall y answer image i j call) (λ rest d. run_claim run c earlier rest d) later e
run_claim {n} (meet {calls = calls} run p q answer buffer first second verdicts i j k l f call) c earlier later e =
    of_newest c earlier (λ d rest. CallClaim n d (history n (items rest))) _ calls
    (meeting_claim (run_kept run) p q answer buffer first second verdicts i j k l f call) (λ rest d. run_claim run c earlier rest d) later e

-- a name of an own row, read from the bytes, is the name of the latest
own_name : {n : ℕ} {l : List Item} {images : Images} → Kept n l images → (p r : ℕ) → 1 ≤ p → p ≤ n → 1 ≤ r → r ≤ n → (a : Meet) → name_at (images p) n p r ≡ With a
    → (0 < latest (events l) (meetings l) p r) × (read r a ≡ name_of n (events l) r (latest (events l) (meetings l) p r))
unfolding name_of table_of name_in
own_name {n} {l} {images} w p r i j k o a e = go (latest (events l) (meetings l) p r) (sym e ∙ own_names (kept_says w p i j) i j r k o)
  where
    go : (x : ℕ) → With a ≡ name_in n (events l) r x → (0 < x) × (read r a ≡ name_of n (events l) r x)
    go zero d = let z : ◌≡◌ {A = ℕ} 0 1 = cc in absurd (omega arith)
    go (suc x) d = (omega arith, let z : a ≡ record { partner = partner_of (events l) (suc x) r; label = label n (events l) (suc x) } = cc in ap (read r) z)

pub run_names : {n : ℕ} {l : List Item} {images : Images} → Kept n l images → (p r q s : ℕ) → 1 ≤ p → p ≤ n → 1 ≤ r → r ≤ n → 1 ≤ q → q ≤ n → 1 ≤ s → s ≤ n
    → (a b : Meet) → name_at (images p) n p r ≡ With a → name_at (images q) n q s ≡ With b
    → SameName (read r a) (read s b) ↔ (latest (events l) (meetings l) p r ≡ latest (events l) (meetings l) q s)
run_names {n} {l} w p r q s i j k o i' j' k' o' a b e f =
    let (u, x) = own_name w p r i j k o a e in
    let (v, y) = own_name w q s i' j' k' o' b f in
    rw (x, y) (names_agree n (events l) w.joins (meetings l) p r q s u v)

pub claim : {n : ℕ} {calls : List Called} {images : Images} → Run n calls images → Claim n calls images
claim run =
    record {
      each_call = λ c earlier o. run_claim run c earlier o.later o.split;
      bytes = (run_kept run).is;
      names = run_names (run_kept run);
    }

-- Demand 2

-- the accepted calls are those whose items count
accepted_history : {n : ℕ} (calls : List Called) → ((c : Called) (earlier later : List Called) → calls ≡ later ++ (c ∷ earlier) → CallClaim n c (history n (items earlier)))
    → accepted_items calls ≡ history n (items calls)
unfolding accepted_items history
accepted_history [] f = refl
accepted_history {n} (c ∷ earlier) f =
    ap₂ (λ t l. cond t (c.item ∷ l) l) (f c earlier [] refl).accepted
    (accepted_history earlier (λ d rest later e. f d rest (c ∷ later) (ap (λ l. c ∷ l) e)))

-- the verdicts one by one
verdicts_best : (n : ℕ) (l : List Item) (p q : ℕ) → BestVerdicts n l p q (Best.verdicts (events l) (meetings l) n p q)
unfolding Best.verdicts best
verdicts_best n l p q =
    let f : ℕ → ℕ = best (events l) (meetings l) p q in
    let bytes : each n (λ r. f r ∷ []) ≡ map f (Best.up_to n) = each_map n f in
    let one : (r : ℕ) → 1 ≤ r → r ≤ n → get_or (map f (Best.up_to n)) (r - 1) 0 ≡ f r = λ r i j. ap (λ s. get_or s (r - 1) 0) (sym bytes) ∙ each_byte n f r i j in
    record {
      long = ap length (sym bytes) ∙ length_each 1 (λ r. f r ∷ []) (λ r. omega arith) n ∙ omega arith;
      known = λ r i j. subst (λ x. x ≤ 2) (sym (one r i j)) (newer_in (latest (events l) (meetings l) p r) (latest (events l) (meetings l) q r));
      best = λ r i j. (path_best (events l) (meetings l) p q r _).1 (ap (winner p q) (sym (one r i j)));
    }

pub verdicts_are_best : {n : ℕ} {calls : List Called} {images : Images} → Run n calls images → VerdictsAreBest n calls
verdicts_are_best {n} {calls} run c earlier o p q buffer e a =
    let f = run_claim run c earlier o.later o.split in
    let rest = accepted_history {n = n} earlier (λ d before later i.
    run_claim run d before (o.later ++ (c ∷ later)) (o.split ∙ ap (λ l. o.later ++ (c ∷ l)) i ∙ sym (append_assoc o.later (c ∷ later) (d ∷ before)))) in
    subst₂ (λ l v. BestVerdicts n l p q v) (sym rest) (sym (f.verdicts p q buffer e (sym f.accepted ∙ a))) (verdicts_best n (history n (items earlier)) p q)
