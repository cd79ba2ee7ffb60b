-- The latest, computed: each process has a vector clock, which gives for each process the place of its newest event that is known.
-- Nothing here has to be believed: `Theory` says that these functions compute what `Past` and `Latest` define.
use Rattle.std.specs.Prelude.{ℕ, zero, suc, max, Bool, false, List, [], ◌∷◌, leb, get_or}
use Rattle.causality.specs.Event.{Event, History}

-- `at` set to `value` in a list that has `default` past its end
unfoldable pub put {ℓ} : {A : Type ℓ} → A → List A → ℕ → A → List A
put default [] zero value = value ∷ []
put default [] (suc at) value = default ∷ put default [] at value
put default (a ∷ l) zero value = value ∷ l
put default (a ∷ l) (suc at) value = a ∷ put default l at value

-- the larger at each place of two lists that have 0 past their ends
unfoldable pub maxima : List ℕ → List ℕ → List ℕ
maxima [] m = m
maxima (a ∷ l) [] = a ∷ l
maxima (a ∷ l) (b ∷ m) = max a b ∷ maxima l m

-- Each process has a vector clock: for each process the place of its newest event known. An event that it takes part in
-- gives both processes the larger of their entries, and this event for the two of them.
unfoldable pub joined : Event → ℕ → List (List ℕ) → List ℕ
joined e k clocks =
    put 0 (put 0 (maxima (get_or clocks e.first []) (get_or clocks e.second [])) e.first k) e.second k

unfoldable pub clocks : History → ℕ → List (List ℕ)
clocks h zero = []
clocks h (suc n) =
    let old = clocks h n in
    let row = joined (h n) (suc n) old in
    put [] (put [] old (h n).first row) (h n).second row

-- the latest of r for p after n events, computed (0 for none)
unfoldable pub latest : History → ℕ → ℕ → ℕ → ℕ
latest h n p r = get_or (get_or (clocks h n) p []) r 0

-- the newest event of r in the past of y, computed
unfoldable pub latest_in : History → ℕ → ℕ → ℕ
latest_in h zero r = 0
latest_in h (suc k) r = latest h (suc k) (h k).first r

-- x lies in the past of y, decided: x is no newer than the newest event of its first process there
unfoldable pub in_past : History → ℕ → ℕ → Bool
in_past h zero y = false
in_past h (suc k) y = leb (suc k) (latest_in h y (h k).first)
