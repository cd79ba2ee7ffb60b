-- The bound: whatever names of a pair the two heads hold, they are at most N - 1 meetings.
-- Let L be the pair's last meeting. For a stall u take the newest meeting of u in the past of L, and in the past of that the newest of the pair: every
-- meeting of the pair that is named is one of these, and for the two of the pair it is L itself. So one of the N stalls can be left out.
use Prim.Native.Nat.{ℕ, suc, ◌≤◌, ◌<◌}
use mathlib.Core.Path.{◌≡◌, refl, sym, ap, subst, ◌∙◌}
use mathlib.Core.Logic.Dec
use mathlib.Core.Logic.{◌⊎◌, inl, inr}
use mathlib.Core.List.Memᴰ
use mathlib.Core.List.{List, map, Memᴰ}
use native.Mathlib.Omega.{arith}
use native.Mathlib.Decide.{dec_le}
use lib.ListN.{length, length-map}
use Rattle.causality.specs.Event.{History, Of}
use Rattle.causality.specs.Past.{Link, Past, here, on, View}
use Rattle.causality.specs.Latest.{Newest}
use Rattle.causality.specs.Clock.{latest, latest_in}
use Rattle.causality.specs.Meetings.{Joins}
use Rattle.causality.proofs.Newest.{newest_exists, newest_ge}
use Rattle.causality.proofs.Events.{two, of_pos, of_dec}
use Rattle.causality.proofs.Pasts.{past_pos, past_le, past_refl, past_trans, comparable, view_own}
use Rattle.causality.proofs.Clocks.{past_dec, latest_le, latest_of, latest_ge, latest_self, latest_in_le, latest_in_of, latest_in_past, latest_in_ge}
use Rattle.labels.specs.Label.{label_at, current, labels, label}
use Rattle.labels.specs.Theory.{Names, primary, secondary, Taken}
use Rattle.labels.proofs.Members.{others, others_mem, length_others}
use Rattle.labels.proofs.Free.{lowest_le}
use Rattle.labels.proofs.Pairs.{between_of}
use Rattle.labels.proofs.Rule.{label_next, mem_taken}
use Rattle.labels.proofs.Unique.{of_range}

-- where a chain leaves the past of L
record Leaves (h : History) (L l m : ℕ) : Type 0 where
  inner : ℕ
  outer : ℕ
  up_to_inner : Past h l inner
  inside : Past h inner L
  link : Link h inner outer
  outside : Past h outer L → ⊥
  from_outer : Past h outer m

leaves : {h : History} (L : ℕ) {l m : ℕ} → Past h l m → Past h l L → (Past h m L → ⊥) → Leaves h L l m
leaves L (here a) i f = absurd (f i)
leaves {h} L (on {y = y} c k) i f =
    elim (past_dec h y L) [
      | yes d ↦ record {
        inner = y;
        outer = _;
        up_to_inner = c;
        inside = d;
        link = k;
        outside = f;
        from_outer = past_refl k.of_newer;
      }
      | no g ↦ let w = leaves L c i g in
          record {
            inner = w.inner;
            outer = w.outer;
            up_to_inner = w.up_to_inner;
            inside = w.inside;
            link = w.link;
            outside = w.outside;
            from_outer = on w.from_outer k;
          }
    ]

module _ (h : History) (p q : ℕ) where
  -- a meeting of the pair
  record Pair (x : ℕ) : Type 0 where
    of_p : Of h p x
    of_q : Of h q x

  pair_dec : (x : ℕ) → Dec (Pair x)
  pair_dec x =
      elim (of_dec h p x) [
        | yes a ↦ elim (of_dec h q x) [ yes b ↦ yes (record { of_p = a; of_q = b }) | no f ↦ no (λ w. f w.of_q) ]
        | no f ↦ no (λ w. f w.of_p)
      ]

  -- the newest meeting of the pair in the past of y
  pair_in : ℕ → ℕ
  pair_in y = (newest_exists (λ x. Dec.and (pair_dec x) (past_dec h x y)) y).0

  pair_in_is : (y : ℕ) → Newest (λ x. Pair x × Past h x y) y (pair_in y)
  unfolding pair_in
  pair_in_is y = (newest_exists (λ x. Dec.and (pair_dec x) (past_dec h x y)) y).1

  -- l is the newest meeting of the pair in the past of m
  record TopPair (m l : ℕ) : Type 0 where
    pair : Pair l
    below : Past h l m
    top : (x : ℕ) → Pair x → Past h x m → x ≤ l

  -- and so of everything between the two
  pair_in_eq : {m l y : ℕ} → TopPair m l → Past h l y → Past h y m → pair_in y ≡ l
  pair_in_eq {m} {l} {y} t a b =
      let c = newest_ge (pair_in_is y) (t.pair, a) (past_le a) in
      let (w, d) = (pair_in_is y).has (omega (arith, past_pos a)) in
      let e = t.top (pair_in y) w (past_trans d b) in
      omega arith

  -- the processes of a meeting of the pair
  pair_only : (p ≡ q → ⊥) → {x c : ℕ} → Pair x → Of h c x → (p ≡ c) ⊎ (q ≡ c)
  pair_only f {x} {c} w o =
      let d = two h (of_pos o) in
      elim (d.only p w.of_p) [
        | inl a ↦ elim (d.only c o) [
          | inl b ↦ inl (omega arith)
          | inr b ↦ elim (d.only q w.of_q) [ inl e ↦ absurd (f (omega arith)) | inr e ↦ inr (omega arith) ]
        ]
        | inr a ↦ elim (d.only c o) [
          | inl b ↦ elim (d.only q w.of_q) [ inl e ↦ inr (omega arith) | inr e ↦ absurd (f (omega arith)) ]
          | inr b ↦ inl (omega arith)
        ]
      ]

-- the pair's last meeting among the first n
last_pair : History → ℕ → ℕ → ℕ → ℕ
last_pair h p q n = (newest_exists (pair_dec h p q) n).0

last_pair_is : (h : History) (p q n : ℕ) → Newest (Pair h p q) n (last_pair h p q n)
unfolding last_pair
last_pair_is h p q n = (newest_exists (pair_dec h p q) n).1

-- l is found through some stall other than q
record Through (h : History) (p q n l : ℕ) : Type 0 where
  stall : ℕ
  place : ℕ
  of_stall : Of h stall place
  not_q : stall ≡ q → ⊥
  found : pair_in h p q (latest_in h (last_pair h p q n) stall) ≡ l

-- One row: m is the latest of s for z, who is one of the pair, and names l
module _ (h : History) (p q n : ℕ) (differ : p ≡ q → ⊥) (z s l : ℕ) (one : (p ≡ z) ⊎ (q ≡ z)) (t : TopPair h p q (latest h n z s) l) where
  abbrev L : ℕ
  L = last_pair h p q n

  abbrev m : ℕ
  m = latest h n z s

  m_pos : 0 < m
  m_pos = omega (arith, past_pos t.below, past_le t.below)

  l≤L : l ≤ L
  l≤L = newest_ge (last_pair_is h p q n) t.pair (omega (arith, past_le t.below, latest_le h n z s))

  pair_l : Pair h p q L
  pair_l = (last_pair_is h p q n).has (omega (arith, past_pos t.below, l≤L))

  l_in_l : Past h l L
  l_in_l = comparable t.pair.of_p pair_l.of_p l≤L

  L_of_z : Of h z L
  L_of_z = elim one [ inl e ↦ subst (λ v. Of h v L) e pair_l.of_p | inr e ↦ subst (λ v. Of h v L) e pair_l.of_q ]

  L_in_view : View h n z L
  L_in_view = view_own h n z L_of_z (last_pair_is h p q n).within (past_refl L_of_z)

  -- L lies in the past of m: through p, whose newest in the past of L is L
  if_above : Past h L m → Through h p q n l
  if_above a =
      let e : latest_in h L p ≡ L = omega (arith, latest_in_le h L p, latest_in_ge h L p pair_l.of_p (past_refl pair_l.of_p)) in
      record {
        stall = p;
        place = L;
        of_stall = pair_l.of_p;
        not_q = differ;
        found = ap (pair_in h p q) e ∙ pair_in_eq h p q t l_in_l a;
      }

  -- m lies in the past of L: through s, whose newest in the past of L is m
  if_below : (Past h L m → ⊥) → Past h m L → Through h p q n l
  if_below f a =
      let o = latest_of h n z s m_pos in
      let c = latest_in_ge h L s o a in
      let d = latest_ge h n z s (latest_in_of h L s (omega (arith, m_pos))) (past_trans (latest_in_past h L s (omega (arith, m_pos))) L_in_view) in
      let e : latest_in h L s ≡ m = omega arith in
      record {
        stall = s;
        place = m;
        of_stall = o;
        not_q = λ i. f (comparable pair_l.of_q (subst (λ v. Of h v m) i o)
            (latest_ge h n z s (subst (λ v. Of h v L) (sym i) pair_l.of_q) L_in_view));
        found = ap (pair_in h p q) e ∙ pair_in_eq h p q t t.below (past_refl o);
      }

  -- neither: through the stall at which the chain from l to m leaves the past of L
  if_beside : (Past h L m → ⊥) → (Past h m L → ⊥) → Through h p q n l
  if_beside f g =
      let w = leaves L t.below l_in_l g in
      let k = w.link in
      let u = k.process in
      let c = latest_in_ge h L u k.of_older w.inside in
      let y_pos : 0 < latest_in h L u = omega (arith, of_pos k.of_older) in
      let oy = latest_in_of h L u y_pos in
      let y≤g : latest_in h L u ≤ w.outer = elim (dec_le (latest_in h L u) w.outer) [
        | yes a ↦ a
        | no b ↦ absurd (w.outside (past_trans (comparable k.of_newer oy (omega arith)) (latest_in_past h L u y_pos)))
      ] in
      record {
        stall = u;
        place = w.inner;
        of_stall = k.of_older;
        not_q = λ i. elim (dec_le L w.outer) [
          | yes a ↦ f (past_trans (comparable pair_l.of_q (subst (λ v. Of h v w.outer) i k.of_newer) a) w.from_outer)
          | no b ↦ w.outside (comparable (subst (λ v. Of h v w.outer) i k.of_newer) pair_l.of_q (omega arith))
        ];
        found = pair_in_eq h p q t
            (past_trans w.up_to_inner (comparable k.of_older oy c))
            (past_trans (comparable oy k.of_newer y≤g) w.from_outer);
      }

  through : Through h p q n l
  through =
      elim (past_dec h L m) [
        | yes a ↦ if_above a
        | no f ↦ elim (past_dec h m L) [ yes a ↦ if_below f a | no g ↦ if_beside f g ]
      ]

-- What a row names of the pair is the newest of the pair in the past of its meeting
top_row : (h : History) (p q : ℕ) (differ : p ≡ q → ⊥) (m c : ℕ) → Pair h p q (latest_in h m c) → TopPair h p q m (latest_in h m c)
top_row h p q differ m c w =
    record {
      pair = w;
      below = latest_in_past h m c (of_pos w.of_p);
      top = λ x v b. latest_in_ge h m c (same x v) b;
    }
  where
    same : (x : ℕ) → Pair h p q x → Of h c x
    same x v =
        elim (pair_only h p q differ w (latest_in_of h m c (of_pos w.of_p)))
        [ inl e ↦ subst (λ z. Of h z x) e v.of_p | inr e ↦ subst (λ z. Of h z x) e v.of_q ]

module _ (N : ℕ) (h : History) (joins : (k : ℕ) → Joins N (h k)) (n : ℕ) where
  abbrev p : ℕ
  p = (h n).first

  abbrev q : ℕ
  q = (h n).second

  found_through : (z : ℕ) → (p ≡ z) ⊎ (q ≡ z) → {e : ℕ} → Names N h n z e → Pair h p q e → Through h p q n e
  found_through z one (primary r a b) w =
      let i = latest_self h n z r in
      subst (Through h p q n) (sym i)
      (through h p q n (joins n).different z z _ one (top_row h p q (joins n).different (latest h n z z) r (subst (Pair h p q) i w)))
  found_through z one (secondary s r a b c d) w =
      through h p q n (joins n).different z s _ one (top_row h p q (joins n).different (latest h n z s) r w)

  taken_through : {k : ℕ} (t : Taken N h n k) → Through h p q n t.place
  taken_through t =
      let (a, b) = between_of h (h n) t.place t.same_two in
      let w : Pair h p q t.place = record { of_p = a; of_q = b } in
      elim t.is_named [ inl i ↦ found_through p (inl refl) i w | inr i ↦ found_through q (inr refl) i w ]

  -- the labels of the meetings that are found through the stalls other than q
  cover : List ℕ
  cover = map (λ u. label N h (pair_in h p q (latest_in h (last_pair h p q n) u))) (others N q)

  covered : {k : ℕ} → Taken N h n k → Memᴰ k cover
  unfolding cover
  covered t =
      let w = taken_through t in
      let (a, b) = of_range N h joins w.of_stall in
      Memᴰ.cast (sym (ap (label N h) w.found ∙ t.has_label_lem))
      (Memᴰ.map (λ u. label N h (pair_in h p q (latest_in h (last_pair h p q n) u))) (others_mem N q a b w.not_q))

  length_cover : suc (length cover) ≡ N
  unfolding cover
  length_cover = rw length-map (length_others N q (joins n).second_from (joins n).second_to)

  pub label_bound : label N h (suc n) < N
  label_bound =
      let a = lowest_le (map (label_at (labels N h n)) (current N h n)) cover (λ k m. covered (mem_taken N h n m)) in
      omega (arith, label_next N h n, length_cover)
