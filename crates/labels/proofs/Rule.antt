-- The label rule: the label of a meeting is the lowest that is not taken, and what comes later does not change it.
use Prim.Native.Nat.{ℕ, zero, suc, ◌≤◌, ◌<◌}
use mathlib.Core.Path.{◌≡◌, refl, sym, ap, ap₂, subst, ◌∙◌, fun_ext}
use mathlib.Core.Logic.{◌⊎◌, inl, inr}
use mathlib.Core.List.Memᴰ
use mathlib.Core.List.{[], ◌∷◌, ◌++◌, map, flat_map, Memᴰ}
use native.Mathlib.Omega.{arith}
use native.Mathlib.Decide.{dec_le}
use lib.ListN.{length, length-append, get_or-append}
use lib.Seq.{get_or_at}
use Rattle.causality.specs.Event.{Event, History}
use Rattle.causality.specs.Clock.{latest, latest_in}
use Rattle.causality.specs.Best.{up_to}
use Rattle.causality.specs.Meetings.{Agree}
use Rattle.causality.proofs.Clocks.{latest_le, latest_in_le}
use Rattle.causality.proofs.Agreement.{agree_less, latest_agree, latest_in_agree}
use Rattle.labels.specs.Lowest.{lowest_free, keep}
use Rattle.labels.specs.Label.{named, between, label_at, current, labels, label}
use Rattle.labels.specs.Theory.{Names, primary, secondary, Taken}
use Rattle.labels.proofs.Members.{mem_keep, keep_mem, keep_agree, mem_up_to, up_to_mem, mem_flat_map, flat_map_mem}
use Rattle.labels.proofs.Free.{lowest_below, lowest_free_lem}

-- The list of labels, read at a place

length_labels : (N : ℕ) (h : History) (n : ℕ) → length (labels N h n) ≡ n
unfolding labels
length_labels N h zero = refl
length_labels N h (suc n) = length-append (labels N h n) _ ∙ omega (arith, length_labels N h n)

module _ (N : ℕ) (h : History) where
  label_at_step : (n k : ℕ) → k ≤ n → label_at (labels N h (suc n)) k ≡ label_at (labels N h n) k
  unfolding labels label_at
  label_at_step n zero l = refl
  label_at_step n (suc k) l = get_or-append (labels N h n) _ 0 k (omega (arith, length_labels N h n))

  -- the list of a later moment gives a meeting the same label
  label_at_lem : (n k : ℕ) → k ≤ n → label_at (labels N h n) k ≡ label N h k
  unfolding label
  label_at_lem zero k l = let e : k ≡ 0 = omega arith in rw e
  label_at_lem (suc n) k l =
      elim (dec_le k n) [
        | yes a ↦ label_at_step n k a ∙ label_at_lem n k a
        | no f ↦ let e : k ≡ suc n = omega arith in rw e
      ]

  pub label_next : (n : ℕ) → label N h (suc n) ≡ lowest_free (map (label_at (labels N h n)) (current N h n))
  unfolding label labels label_at
  label_next n = get_or_at (labels N h n) _ [] 0 n (length_labels N h n)

-- What the list of named meetings holds

module _ (N : ℕ) (h : History) (n z : ℕ) where
  pub names_le : {e : ℕ} → Names N h n z e → e ≤ n
  names_le (primary r a b) = latest_le h n z r
  names_le (secondary s r a b c d) = omega (arith, latest_in_le h (latest h n z s) r, latest_le h n z s)

  mem_named : {e : ℕ} → Memᴰ e (named N h n z) → Names N h n z e
  unfolding named
  mem_named m =
      elim (Memᴰ.append_cases (map (latest h n z) (up_to N)) m) [
        | inl u ↦ let (r, v, i) = Memᴰ.of_map (latest h n z) (up_to N) u in
            let (a, b) = mem_up_to N v in
            subst (Names N h n z) i (primary r a b)
        | inr u ↦ let (s, v, w) = mem_flat_map (λ s. map (latest_in h (latest h n z s)) (up_to N)) (up_to N) u in
            let (r, x, i) = Memᴰ.of_map (latest_in h (latest h n z s)) (up_to N) w in
            let (a, b) = mem_up_to N v in
            let (c, d) = mem_up_to N x in
            subst (Names N h n z) i (secondary s r a b c d)
      ]

  named_mem : {e : ℕ} → Names N h n z e → Memᴰ e (named N h n z)
  unfolding named
  named_mem (primary r a b) = Memᴰ.append_left _ (Memᴰ.map (latest h n z) (up_to_mem N a b))
  named_mem (secondary s r a b c d) =
      Memᴰ.append_right (map (latest h n z) (up_to N))
      (flat_map_mem (λ s. map (latest_in h (latest h n z s)) (up_to N)) (up_to N) (up_to_mem N a b)
      (Memᴰ.map (latest_in h (latest h n z s)) (up_to_mem N c d)))

-- A label is in the list that the lowest free one is sought for exactly where it is taken

module _ (N : ℕ) (h : History) (n : ℕ) where
  either_le : {e : ℕ} → Names N h n (h n).first e ⊎ Names N h n (h n).second e → e ≤ n
  either_le (inl a) = names_le N h n _ a
  either_le (inr a) = names_le N h n _ a

  mem_either : {e : ℕ} → Memᴰ e (named N h n (h n).first ++ named N h n (h n).second)
      → Names N h n (h n).first e ⊎ Names N h n (h n).second e
  mem_either m =
      elim (Memᴰ.append_cases (named N h n (h n).first) m)
      [ inl u ↦ inl (mem_named N h n _ u) | inr u ↦ inr (mem_named N h n _ u) ]

  either_mem : {e : ℕ} → Names N h n (h n).first e ⊎ Names N h n (h n).second e
      → Memᴰ e (named N h n (h n).first ++ named N h n (h n).second)
  either_mem (inl a) = Memᴰ.append_left _ (named_mem N h n _ a)
  either_mem (inr a) = Memᴰ.append_right (named N h n (h n).first) (named_mem N h n _ a)

  pub taken_mem : {k : ℕ} → Taken N h n k → Memᴰ k (map (label_at (labels N h n)) (current N h n))
  unfolding current
  taken_mem t =
      Memᴰ.cast (sym (label_at_lem N h n t.place (either_le t.is_named) ∙ t.has_label_lem))
      (Memᴰ.map (label_at (labels N h n)) (keep_mem (between h (h n)) _ (either_mem t.is_named) t.same_two))

  pub mem_taken : {k : ℕ} → Memᴰ k (map (label_at (labels N h n)) (current N h n)) → Taken N h n k
  unfolding current
  mem_taken m =
      let (e, u, i) = Memᴰ.of_map (label_at (labels N h n)) (current N h n) m in
      let (v, t) = mem_keep (between h (h n)) (named N h n (h n).first ++ named N h n (h n).second) u in
      let a = mem_either v in
      record { place = e; is_named = a; same_two = t; has_label_lem = sym (label_at_lem N h n e (either_le a)) ∙ i }

  pub label_free : Taken N h n (label N h (suc n)) → ⊥
  label_free t = lowest_free_lem _ (taken_mem (rw (label_next N h n) at t))

  pub label_lowest : (k : ℕ) → k < label N h (suc n) → Taken N h n k
  label_lowest k l = mem_taken (lowest_below _ k (rw (label_next N h n) at l))

-- What comes later changes no label

between_agree : {h g : History} {n : ℕ} → Agree h g n → (e : Event) (k : ℕ) → k ≤ n → between h e k ≡ between g e k
unfolding between
between_agree a e zero l = refl
between_agree a e (suc k) l = rw (a.same k l)

named_agree : {h g : History} {n : ℕ} → Agree h g n → (N z : ℕ) → named N h n z ≡ named N g n z
unfolding named
named_agree {h} {g} {n} a N z =
    ap₂ ◌++◌ (ap (λ f. map f (up_to N)) (fun_ext (latest_agree a z))) (ap (λ f. flat_map f (up_to N)) (fun_ext row))
  where
    row : (s : ℕ) → map (latest_in h (latest h n z s)) (up_to N) ≡ map (latest_in g (latest g n z s)) (up_to N)
    row s =
        ap (λ f. map f (up_to N))
        (fun_ext (λ r. latest_in_agree a (latest h n z s) r (latest_le h n z s) ∙ ap (λ y. latest_in g y r) (latest_agree a z s)))

current_agree : {h g : History} {n : ℕ} → Agree h g (suc n) → (N : ℕ) → current N h n ≡ current N g n
unfolding current
current_agree {h} {g} {n} a N =
    keep_agree (between h (h n)) (between g (g n)) _
    (λ k m. between_agree before (h n) k (either_le N h n (mem_either N h n m)) ∙ ap (λ e. between g e k) next)
    ∙ ap (keep (between g (g n)))
    (ap₂ ◌++◌
    (named_agree before N (h n).first ∙ ap (λ e. named N g n e.first) next)
    (named_agree before N (h n).second ∙ ap (λ e. named N g n e.second) next))
  where
    before : Agree h g n
    before = agree_less (omega arith) a

    next : h n ≡ g n
    next = a.same n (omega arith)

labels_agree : {h g : History} (N n : ℕ) → Agree h g n → labels N h n ≡ labels N g n
unfolding labels
labels_agree N zero a = refl
labels_agree N (suc n) a =
    ap₂ (λ before c. before ++ (lowest_free (map (label_at before) c) ∷ []))
    (labels_agree N n (agree_less (omega arith) a))
    (current_agree a N)

pub label_agree : {h g : History} (N k : ℕ) → Agree h g k → label N h k ≡ label N g k
unfolding label
label_agree N k a = ap (λ l. label_at l k) (labels_agree N k a)
