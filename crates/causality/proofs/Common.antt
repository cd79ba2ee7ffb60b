-- The common event: what lies in two views lies in the past of an event that is a latest of both.
use Prim.Native.Nat.{ℕ, ◌<◌}
use mathlib.Core.Path.{◌≡◌, refl, sym, subst}
use mathlib.Core.Logic.Dec
use mathlib.Core.Logic.{◌⊎◌, inl, inr}
use native.Mathlib.Omega.{arith}
use native.Mathlib.Decide.{ℕ_discrete, dec_le, dec_lt}
use Rattle.causality.specs.Event.{History, Of}
use Rattle.causality.specs.Past.{Link, Past, here, on, last, View}
use Rattle.causality.specs.Clock.{latest}
use Rattle.causality.specs.Known.{CommonEvent}
use Rattle.causality.proofs.Newest.{newest_exists, newest_ge}
use Rattle.causality.proofs.Events.{two}
use Rattle.causality.proofs.Pasts.{past_pos, past_refl, past_trans, comparable, last_of, last_ge, view_le}
use Rattle.causality.proofs.Clocks.{latest_le, latest_of, latest_view, latest_ge, past_dec}

-- the first step of a chain
pub past_head : {h : History} {x y : ℕ} → Past h x y → (x ≡ y) ⊎ ((z : ℕ) × Link h x z × Past h z y)
past_head (here l) = inl refl
past_head {h} {x} {y} (on {y = w} c k) =
    elim (past_head c) [
      | inl e ↦ inr (y, subst (λ v. Link h v y) (sym e) k, past_refl k.of_newer)
      | inr s ↦ let (z, j, d) = s in inr (z, j, on d k)
    ]

-- e lies in both views, and nothing newer above e does
record Top (h : History) (n p q e : ℕ) : Type 0 where
  in_p : View h n p e
  in_q : View h n q e
  none_newer : (u : ℕ) → e < u → Past h e u → View h n p u → View h n q u → ⊥

swap : {h : History} {n p q e : ℕ} → Top h n p q e → Top h n q p e
swap t = record { in_p = t.in_q; in_q = t.in_p; none_newer = λ u l c v w. t.none_newer u l c w v }

module _ (h : History) (n p q : ℕ) {e : ℕ} (t : Top h n p q e) where
  -- the two do not both go on in one column of e
  not_both_on : (s : ℕ) → Of h s e → e < latest h n p s → e < latest h n q s → ⊥
  not_both_on s o a b =
      let op = latest_of h n p s (omega arith) in
      let oq = latest_of h n q s (omega arith) in
      let vp = latest_view h n p s (omega arith) in
      let vq = latest_view h n q s (omega arith) in
      elim (dec_le (latest h n p s) (latest h n q s)) [
        | yes l ↦ t.none_newer _ a (comparable o op (omega arith)) vp (past_trans (comparable op oq l) vq)
        | no f ↦ t.none_newer _ b (comparable o oq (omega arith)) (past_trans (comparable oq op (omega arith)) vp) vq
      ]

  -- p does not go on in every column of e
  not_all_on : ((s : ℕ) → Of h s e → e < latest h n p s) → ⊥
  not_all_on f =
      elim (past_head t.in_q) [
        | inl i ↦ let o = subst (Of h q) (sym i) (last_of h n q (omega (arith, past_pos t.in_p))) in
            let l = f q o in
            omega (arith, last_ge h n q (latest_of h n p q (omega arith)) (latest_le h n p q))
        | inr g ↦ let (z, k, c) = g in
            let l = latest_ge h n q k.process k.of_newer c in
            not_both_on k.process k.of_older (f k.process k.of_older) (omega (arith, k.ascends))
      ]

  -- so p stops at e in some column
  stops : (s : ℕ) × (latest h n p s ≡ e)
  stops =
      let d = two h (past_pos t.in_p) in
      elim (ℕ_discrete (latest h n p d.one) e) [
        | yes i ↦ (d.one, i)
        | no f ↦ elim (ℕ_discrete (latest h n p d.other) e) [
          | yes i ↦ (d.other, i)
          | no g ↦ absurd (not_all_on (λ s o. elim (d.only s o) [
            | inl i ↦ subst (λ z. e < latest h n p z) i (beyond d.of_one f)
            | inr i ↦ subst (λ z. e < latest h n p z) i (beyond d.of_other g)
          ]))
        ]
      ]
    where
      beyond : {s : ℕ} → Of h s e → (latest h n p s ≡ e → ⊥) → e < latest h n p s
      beyond {s} o f =
          let l = latest_ge h n p s o t.in_p in
          elim (dec_lt e (latest h n p s)) [ yes a ↦ a | no g ↦ absurd (f (omega arith)) ]

-- the newest event in both views with x in its past
top : (h : History) (n p q : ℕ) {x : ℕ} → View h n p x → View h n q x → (e : ℕ) × Past h x e × Top h n p q e
top h n p q {x} v w =
    let (e, m) = newest_exists (λ e. Dec.and (past_dec h x e) (Dec.and (past_dec h e (last h n p)) (past_dec h e (last h n q)))) n in
    let l = newest_ge m (here (past_pos v), (v, w)) (view_le h n p v) in
    let (c, (a, b)) = m.has (omega (arith, past_pos v)) in (
      e,
      c,
      record {
        in_p = a;
        in_q = b;
        none_newer = λ u g d vu wu. m.none_newer u g (view_le h n p vu) (past_trans c d, (vu, wu));
      },
    )

pub common_event : (h : History) (n p q : ℕ) {x : ℕ} → View h n p x → View h n q x → CommonEvent h n p q x
common_event h n p q v w =
    let (e, c, t) = top h n p q v w in
    let (s, i) = stops h n p q t in
    let (r, j) = stops h n q p (swap t) in
    record { event = e; above = c; one = s; of_p = i; other = r; of_q = j }
