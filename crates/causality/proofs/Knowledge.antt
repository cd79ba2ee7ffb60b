-- What follows from the common event: known is in the view, the verdict follows from known, and secondary information suffices.
use Prim.Native.Nat.{ℕ, zero, suc, ◌≤◌, ◌<◌}
use mathlib.Core.Path.{◌≡◌, refl, sym, subst, ◌∙◌}
use mathlib.Core.Logic.{◌↔◌, ◌⊎◌, inl, inr}
use native.Mathlib.Omega.{arith}
use native.Mathlib.Decide.{ℕ_discrete, dec_le, dec_lt}
use Rattle.causality.specs.Event.{History, Of}
use Rattle.causality.specs.Past.{Past, View}
use Rattle.causality.specs.Clock.{latest, latest_in}
use Rattle.causality.specs.Best.{best}
use Rattle.causality.specs.Known.{Order, Known, none_heard, common}
use Rattle.causality.proofs.Newer.{newer_first, newer_second, newer_equal}
use Rattle.causality.proofs.Events.{of_dec}
use Rattle.causality.proofs.Pasts.{past_pos, past_le, past_refl, past_trans, comparable, last_le, last_of, view_own}
use Rattle.causality.proofs.Clocks.{latest_le, latest_of, latest_view, latest_ge, latest_apart, latest_own, latest_max, latest_in_of, latest_in_past, latest_in_ge}
use Rattle.causality.proofs.Common.{common_event}

module _ (h : History) (n p q r : ℕ) where
  -- known is in the other's view
  pub known_view : Known h n p q r ↔ ((latest h n p r ≡ 0) ⊎ View h n q (latest h n p r))
  known_view = (to, from)
    where
      to : Known h n p q r → (latest h n p r ≡ 0) ⊎ View h n q (latest h n p r)
      to (none_heard e) = inl e
      to (common s t e c) =
          inr (past_trans (subst (Past h (latest h n p r)) e c) (latest_view h n q t (omega (arith, past_pos c, past_le c))))

      from : (latest h n p r ≡ 0) ⊎ View h n q (latest h n p r) → Known h n p q r
      from (inl e) = none_heard e
      from (inr v) =
          let c = common_event h n p q (latest_view h n p r (past_pos v)) v in
          common c.one c.other (c.of_p ∙ sym c.of_q) (subst (Past h (latest h n p r)) (sym c.of_p) c.above)

  -- so it is to be no newer
  pub known_le : Known h n p q r ↔ (latest h n p r ≤ latest h n q r)
  known_le = (to, from)
    where
      to : Known h n p q r → latest h n p r ≤ latest h n q r
      to k =
          elim (known_view.0 k) [
            | inl e ↦ omega arith
            | inr v ↦ latest_ge h n q r (latest_of h n p r (past_pos v)) v
          ]

      from : latest h n p r ≤ latest h n q r → Known h n p q r
      from l =
          known_view.1 (elim (dec_lt 0 (latest h n p r)) [
            | yes a ↦ inr (past_trans (comparable (latest_of h n p r a) (latest_of h n q r (omega arith)) l) (latest_view h n q r (omega arith)))
            | no f ↦ inl (omega arith)
          ])

-- The verdict from known
not_known : (h : History) (n p q r : ℕ) → (Known h n p q r → ⊥) → latest h n q r < latest h n p r
not_known h n p q r f =
    elim (dec_lt (latest h n q r) (latest h n p r))
    [ yes l ↦ l | no g ↦ absurd (f ((known_le h n p q r).1 (omega arith))) ]

module _ (h : History) (n p q r : ℕ) where
  pub only_first_known : Known h n p q r → (Known h n q p r → ⊥) → best h n p q r ≡ 2
  unfolding best
  only_first_known k f = newer_second (not_known h n q p r f)

  pub only_second_known : (Known h n p q r → ⊥) → Known h n q p r → best h n p q r ≡ 1
  unfolding best
  only_second_known f k = newer_first (not_known h n p q r f)

  pub both_known_same : Known h n p q r → Known h n q p r → latest h n p r ≡ latest h n q r
  both_known_same k l = omega (arith, (known_le h n p q r).0 k, (known_le h n q p r).0 l)

  pub both_known : Known h n p q r → Known h n q p r → best h n p q r ≡ 0
  unfolding best
  both_known k l = newer_equal (both_known_same k l)

  pub one_is_known : (Known h n p q r → ⊥) → (Known h n q p r → ⊥) → ⊥
  one_is_known f g = omega (arith, not_known h n p q r f, not_known h n q p r g)

-- Secondary information suffices: what z has as its latest of s stands in a row of s, in column s
pub secondary : (h : History) (n z s : ℕ) → 0 < latest h n z s → (t : ℕ) × (latest_in h (latest h n s t) s ≡ latest h n z s)
secondary h n z s l =
    let e = latest h n z s in
    let o : Of h s e = latest_of h n z s l in
    let v : View h n z e = latest_view h n z s l in
    let c = common_event h n s z (view_own h n s o (latest_le h n z s) (past_refl o)) v in
    let above : Past h e (latest h n s c.one) = subst (Past h e) (sym c.of_p) c.above in
    let top : latest h n s c.one ≡ latest h n z c.other = c.of_p ∙ sym c.of_q in
    let a = latest_in_ge h (latest h n s c.one) s o above in
    let known : View h n z (latest h n s c.one) =
    subst (View h n z) (sym top) (latest_view h n z c.other (omega (arith, past_pos above, past_le above))) in
    let b = latest_ge h n z s (latest_in_of h _ s (omega arith)) (past_trans (latest_in_past h _ s (omega arith)) known) in
    (c.one, omega arith)

-- A latest that the last event did not make was somebody's before it
was_before : (h : History) (n z s : ℕ) → latest h (suc n) z s ≤ n → (y : ℕ) × (latest h n y s ≡ latest h (suc n) z s)
was_before h n z s l =
    elim (of_dec h z (suc n)) [
      | yes o ↦ elim (of_dec h s (suc n)) [
        | yes q ↦ absurd (omega (arith, latest_own h n z s o q))
        | no f ↦ let e = latest_max h n z s o f in
            elim (dec_le (latest h n (h n).second s) (latest h n (h n).first s))
            [ yes g ↦ ((h n).first, omega arith) | no g ↦ ((h n).second, omega arith) ]
      ]
      | no f ↦ (z, sym (latest_apart h n z s f))
    ]

-- so it was somebody's at every moment since it happened
pub was_latest : (h : History) (n m z s : ℕ) → 0 < latest h n z s → latest h n z s ≤ m → m ≤ n → (y : ℕ) × (latest h m y s ≡ latest h n z s)
was_latest h zero m z s l a b = absurd (omega (arith, latest_le h 0 z s))
was_latest h (suc n) m z s l a b =
    elim (ℕ_discrete m (suc n)) [
      | yes e ↦ (z, subst (λ k. latest h k z s ≡ latest h (suc n) z s) (sym e) refl)
      | no f ↦ let (y, e) = was_before h n z s (omega arith) in
          let (x, i) = was_latest h n m y s (omega arith) (omega arith) (omega arith) in
          (x, ◌∙◌ {a = latest h m x s} {b = latest h n y s} i e)
    ]

-- News of two stalls from two heads has no order: what p alone has newer lies in no past that q holds
pub unordered : (h : History) (n p q r s : ℕ) → latest h n q r < latest h n p r → Past h (latest h n p r) (latest h n q s) → ⊥
unordered h n p q r s l c =
    omega (arith, latest_ge h n q r (latest_of h n p r (past_pos c)) (past_trans c (latest_view h n q s (omega (arith, past_pos c, past_le c)))))

-- What p knows q to have heard, q has: p's latest of q is an event of q, so whatever lies in its past lies in the view of q from then on
pub ordered_heard : (h : History) (n m p q r : ℕ) → n ≤ m → Order h n p r q → latest h n p r ≤ latest h m q r
ordered_heard h n m p q r l c =
    latest_ge h m q r (latest_of h n p r (past_pos c))
    (view_own h m q (latest_of h n p q (omega (arith, past_pos c, past_le c))) (omega (arith, latest_le h n p q)) c)

-- and p's own latest of q only moves on, to what has the older one in its past
pub order_stays : (h : History) (n m p q r : ℕ) → n ≤ m → latest h m p r ≡ latest h n p r → Order h n p r q → Order h m p r q
order_stays h n m p q r l e c =
    let pos : 0 < latest h n p q = omega (arith, past_pos c, past_le c) in
    let of_q = latest_of h n p q pos in
    let seen = latest_view h n p q pos in
    let still = view_own h m p (last_of h n p (omega (arith, past_pos seen, past_le seen))) (omega (arith, last_le h n p)) seen in
    let on = latest_ge h m p q of_q still in
    subst (λ k. Past h k (latest h m p q)) (sym e) (past_trans c (comparable of_q (latest_of h m p q (omega arith)) on))
