-- The list that is written is the heard list.
use Prim.Native.Nat.{ℕ, zero, suc, ◌-◌, ◌*◌, ◌≤◌}
use mathlib.Core.Path.{◌≡◌, refl, sym, ap, ap₂, ◌∙◌}
use mathlib.Core.Bool.{Bool, true, false, not, cond}
use mathlib.Core.List.{List, [], ◌∷◌, ◌++◌, map, flat_map}
use native.Mathlib.Omega.{arith}
use lib.Dec.{eqb}
use lib.ListN.{length, take, drop, replicate, length-append, length-map}
use lib.Seq.{take_at, length-take-le}
use Rattle.image.specs.Layout.{largest, partner_at, label_at, name_from, name_at, heard_at, yields_from}
use Rattle.image.specs.Frame.{Framed}
use Rattle.image.specs.Row.{is_never, own_row}
use Rattle.image.specs.declared.Name.TheVariants.{Never, With}
use Rattle.image.specs.declared.Entry.{Entry}
use Rattle.image.proofs.Places.{yields_from_lem}
use Rattle.image.proofs.OwnRow.{own_row_name}
use Rattle.rank.specs.declared.Record.{Record}
use Rattle.rank.specs.Order.{ranked}
use Rattle.rank.proofs.Ranking.{ranked_same, length_same}
use Rattle.head.specs.Heard.{chosen, record_of, bytes_of, heard_records, heard_count, heard_bytes, HeardOutcome, heard_list}
use Rattle.head.specs.Gathered.{heard_in, record_at, records_to}
use Rattle.head.proofs.Listed.{length_bytes, listed}

-- The stalls that pass a test

length_chosen : (n : ℕ) (f : ℕ → Bool) → length (chosen n f) ≤ n
unfolding chosen
length_chosen zero f = omega arith
length_chosen (suc n) f = go (f (suc n)) (length_chosen n f)
  where
    go : (t : Bool) → length (chosen n f) ≤ n → length (chosen n f ++ cond t (suc n ∷ []) []) ≤ suc n
    go true l = omega (arith, length-append (chosen n f) (suc n ∷ []))
    go false l = omega (arith, length-append {A = ℕ} (chosen n f) [])

pub chosen_agree : (n : ℕ) (f g : ℕ → Bool) → ((r : ℕ) → 1 ≤ r → r ≤ n → f r ≡ g r) → chosen n f ≡ chosen n g
unfolding chosen
chosen_agree zero f g e = refl
chosen_agree (suc n) f g e =
    ap₂ (λ l t. l ++ cond t (suc n ∷ []) []) (chosen_agree n f g (λ r a b. e r a (omega arith))) (e (suc n) (omega arith) (omega arith))

-- The own row says who was heard

pub named : (p l : ℕ) → not (is_never (name_from p l)) ≡ not (eqb p 0)
unfolding name_from
named p l = go (eqb p 0)
  where
    go : (t : Bool) → not (is_never (cond t Never (With (record { partner = p; label = l })))) ≡ not t
    go true = refl
    go false = refl

heard_agree : (s : List ℕ) (n own : ℕ) (row : List Entry) → Framed s n own → row ≡ own_row s n own → (r : ℕ) → 1 ≤ r → r ≤ n → heard_in row r ≡ heard_at s n own r
unfolding name_at heard_at
heard_agree s n own row f e r a b =
    ap (λ w. heard_in w r) e ∙ ap (λ x. not (is_never x)) (own_row_name s n own f r a b) ∙ named (partner_at s n own r) (label_at s n own r)

-- The records gathered, put in order, written, and zeros behind them

module _ (s : List ℕ) (n own m : ℕ) (row : List Entry) (f : Framed s n own) (i : m ≡ n) (row_is : row ≡ own_row s n own) (at : ℕ) (stands : at ≡ yields_from (length s) m) where
  gathered : records_to s at row m ≡ map (record_of s n) (chosen n (heard_at s n own))
  unfolding records_to
  gathered =
      ap (λ y. map (record_at s y) (chosen m (heard_in row))) (yields_from_lem f.long i stands)
      ∙ ap (map (record_of s n)) (ap (λ k. chosen k (heard_in row)) i ∙ chosen_agree n (heard_in row) (heard_at s n own) (heard_agree s n own row f row_is))

  module _ (records ordered : List Record) (count : ℕ) (few : count ≤ m) (long : length records ≡ largest) (so : take count records ≡ records_to s at row m)
      (ordered_is : ordered ≡ ranked (take count records) ++ drop count records) where
    ranked_long : length (ranked (take count records)) ≡ count
    ranked_long = sym (length_same (ranked_same (take count records))) ∙ length-take-le count records (omega (arith, f.n_to))

    ranked_is : ranked (take count records) ≡ heard_records s n own
    unfolding heard_records
    ranked_is = ap ranked (so ∙ gathered)

    the_records : take count ordered ≡ heard_records s n own
    the_records = ap (take count) ordered_is ∙ take_at (ranked (take count records)) (drop count records) count ranked_long ∙ ranked_is

    the_count : count ≡ heard_count s n own
    unfolding heard_count
    the_count = sym ranked_long ∙ ap length ranked_is

    the_bytes : flat_map bytes_of (take count ordered) ≡ heard_bytes s n own
    unfolding heard_bytes
    the_bytes = ap (flat_map bytes_of) the_records

    bytes_long : length (flat_map bytes_of (take count ordered)) ≡ 3 * count
    bytes_long = length_bytes (take count ordered) ∙ ap (λ l. 3 * length l) (the_records ∙ sym ranked_is) ∙ ap (λ k. 3 * k) ranked_long

    pub heard_list_lem : (d mid out : List ℕ) → length d ≡ 3 * n → length mid ≡ length d → mid ≡ listed ordered d count → out ≡ take (3 * count) mid ++ replicate (length mid - 3 * count) 0
        → ◌≡◌ {A = HeardOutcome} (record { answer = count; records = out }) (heard_list s n own)
    heard_list_lem d mid out d_long mid_long mid_is out_is = ap₂ (λ k o. record { answer = k; records = o }) the_count (out_is ∙ ap₂ (λ a k. a ++ replicate k 0) front rest)
      where
        front : take (3 * count) mid ≡ heard_bytes s n own
        front = ap (take (3 * count)) mid_is ∙ take_at (flat_map bytes_of (take count ordered)) (drop (3 * count) d) (3 * count) bytes_long ∙ the_bytes

        rest : length mid - 3 * count ≡ 3 * n - 3 * heard_count s n own
        rest = omega (arith, the_count)

-- no more records than stalls, each of three bytes
pub heard_few : (s : List ℕ) (n own : ℕ) → heard_count s n own ≤ n
unfolding heard_count heard_records
heard_few s n own =
    let stalls : List ℕ = chosen n (heard_at s n own) in
    omega (arith, length_same (ranked_same (map (record_of s n) stalls)), length-map stalls (record_of s n), length_chosen n (heard_at s n own))

pub length_heard_bytes : (s : List ℕ) (n own : ℕ) → length (heard_bytes s n own) ≡ 3 * heard_count s n own
unfolding heard_count heard_bytes
length_heard_bytes s n own = length_bytes (heard_records s n own)
