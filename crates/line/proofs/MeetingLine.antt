-- A meeting in a line: the first's image is lent where it stands, the second's as a copy that is put back.
use Prim.Native.Nat.{ℕ, ◌+◌, ◌-◌, ◌≤◌, ◌<◌}
use mathlib.Core.Path.{◌≡◌, sym, ap, ap₂, subst, ◌∙◌}
use mathlib.Core.Bool.{true, false}
use mathlib.Core.List.{List, [], ◌∷◌, ◌++◌}
use native.Mathlib.Omega.{arith}
use borrow.Author.Tests.{lt-ltb, le-ltb, eq-eqb, ne_eqb}
use lib.ListN.{length, take, drop, replicate}
use Rattle.image.specs.Layout.{largest, length_of, longest}
use Rattle.image.specs.Check.{bad_stall}
use Rattle.image.proofs.Zeros.{take_zeros}
use Rattle.merge.specs.Call.{MeetingOutcome, meeting_call}
use Rattle.line.specs.Parlour.{heads_of, slot_place, image_of, with_image}
use Rattle.line.specs.Answer.{refusal, met_by, meeting_of, meeting}
use Rattle.line.specs.Asked.{Opened, StallOf, MetAt}
use Rattle.line.proofs.Numbers.{meeting_code}
use Rattle.line.proofs.Lent.{lent_long, the_front}
use Rattle.line.proofs.Replying.{image_short, image_fits}

-- a meeting, refused for its stalls and not
module _ (state : List ℕ) (p q : ℕ) where
  pub meeting_first : bad_stall (heads_of state) p ≡ true → meeting state p q ≡ refusal state 3
  unfolding meeting
  meeting_first e = rw e

  module _ (first : bad_stall (heads_of state) p ≡ false) where
    pub meeting_second : bad_stall (heads_of state) q ≡ true → meeting state p q ≡ refusal state 3
    unfolding meeting
    meeting_second e = rw (first, e)

    module _ (second : bad_stall (heads_of state) q ≡ false) where
      pub meeting_same : p ≡ q → meeting state p q ≡ refusal state 7
      unfolding meeting
      meeting_same e = rw (first, second, eq-eqb p q e)

      pub meeting_stalls : (p ≡ q → ⊥) → meeting state p q ≡ meeting_of state p q
      unfolding meeting
      meeting_stalls e = rw (first, second, ne_eqb p q e)

-- two stalls of an open parlour, and where their slots start
pub record Stalls (state out : List ℕ) (n p q m count a b : ℕ) : Type 0 where
  pub opened : Opened state out
  pub n_is : n ≡ heads_of state
  pub first : StallOf n p
  pub second : StallOf n q
  pub m_is : m ≡ n
  pub count_is : count ≡ length_of m
  pub a_is : a ≡ slot_place p
  pub b_is : b ≡ slot_place q

module _ {state out : List ℕ} {n p q m count a b : ℕ} (w : Stalls state out n p q m count a b) where
  long : count ≡ length_of (heads_of state)
  long = w.count_is ∙ ap length_of (w.m_is ∙ w.n_is)

  first_good : StallOf (heads_of state) p
  first_good = subst (λ k. StallOf k p) w.n_is w.first

  second_good : StallOf (heads_of state) q
  second_good = subst (λ k. StallOf k q) w.n_is w.second

  pub m_to : m ≤ largest
  m_to = omega (arith, w.m_is, w.n_is, w.opened.to)

  pub short : count ≤ longest
  short = image_short state out p a count w.opened first_good w.a_is long

  pub fits_first : a + count ≤ length state
  fits_first = image_fits state out p a count w.opened first_good w.a_is long

  pub copy_long : count ≡ length (take {A = ℕ} count (replicate longest 0))
  copy_long = lent_long count longest short

  -- what the meeting leaves
  module _ {r : ℕ} {x v : List ℕ} (w' : MetAt state a b (length (take {A = ℕ} count (replicate longest 0))) (take m (replicate largest 0)) r x v)
      (v_long : length v ≡ length (take {A = ℕ} m (replicate largest 0))) where
    size : length (take {A = ℕ} count (replicate longest 0)) ≡ length_of (heads_of state)
    size = sym copy_long ∙ long

    zeros : take {A = ℕ} m (replicate largest 0) ≡ replicate (heads_of state) 0
    zeros = take_zeros m largest m_to ∙ ap (λ k. replicate k 0) (w.m_is ∙ w.n_is)

    image_of_lem : (stall at : ℕ) → at ≡ slot_place stall → take (length (take {A = ℕ} count (replicate longest 0))) (drop at state) ≡ image_of state stall
    unfolding image_of
    image_of_lem stall at e = ap₂ (λ k i. take k (drop i state)) size e

    the_call : ◌≡◌ {A = MeetingOutcome} (record { answer = r; first = w'.first; second = w'.second; verdicts = v })
        (meeting_call (image_of state p) (image_of state q) (replicate (heads_of state) 0))
    the_call = w'.met ∙ ap₂ (λ y z. meeting_call y z (take m (replicate largest 0))) (image_of_lem p a w.a_is) (image_of_lem q b w.b_is) ∙ ap (meeting_call (image_of state p) (image_of state q)) zeros

    put_at : (s image : List ℕ) (stall at : ℕ) → at ≡ slot_place stall → length image ≡ length (take {A = ℕ} count (replicate longest 0))
        → take at s ++ image ++ drop (at + length (take {A = ℕ} count (replicate longest 0))) s ≡ with_image s stall image
    unfolding with_image
    put_at s image stall at e f = ap₂ (λ i j. take i s ++ image ++ drop j s) e (ap₂ ◌+◌ e (sym f))

    after_both : x ≡ with_image (with_image state p w'.first) q w'.second
    after_both =
        w'.put_back
        ∙ ap (λ y. take b y ++ w'.second ++ drop (b + length (take {A = ℕ} count (replicate longest 0))) y) (put_at state w'.first p a w.a_is w'.first_long)
        ∙ put_at (with_image state p w'.first) w'.second q b w.b_is w'.second_long

    -- the verdicts stand at the front of their array
    the_verdicts : take m (v ++ drop m (replicate largest 0)) ≡ v
    the_verdicts = the_front m largest m_to v v_long

    pub code : r ≤ 265
    code = meeting_code _ _ _ w'.met

    pub met_refused : 256 ≤ r → meeting_of state p q ≡ record { bytes = (r - 256) ∷ []; state = x }
    unfolding meeting_of
    met_refused l = ap (met_by state p q) (sym the_call) ∙ rw (le-ltb r 256 l) (ap (λ z. record { bytes = (r - 256) ∷ []; state = z }) (sym after_both))

    pub met_done : r < 256 → meeting_of state p q ≡ record { bytes = 0 ∷ r ∷ take m (v ++ drop m (replicate largest 0)); state = x }
    unfolding meeting_of
    met_done l =
        ap (met_by state p q) (sym the_call)
        ∙ rw (lt-ltb r 256 l) (ap₂ (λ y z. record { bytes = 0 ∷ r ∷ y; state = z }) (sym the_verdicts) (sym after_both))
