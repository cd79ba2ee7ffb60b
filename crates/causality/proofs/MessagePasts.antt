-- For messages that go one way the past is document 004's order of events.
use Prim.Native.Nat.{ℕ, zero, suc, ◌+◌, ◌<◌}
use mathlib.Core.Path.{◌≡◌, refl, sym, ap, subst, ◌∙◌}
use mathlib.Core.Logic.{◌↔◌, inl, inr}
use native.Mathlib.Omega.{arith}
use Rattle.causality.specs.Past.{Link, Past, here, on}
use Rattle.causality.specs.Messages.{Action, send, receive, actor, message_of, messages, Computation, Before, own, message, Below, itself, further}
use Rattle.causality.proofs.Events.{of_pos, of_either, of_cases}

module _ (N : ℕ) (u : ℕ → Action) (v : Computation N u) where
  -- two events about one message are its send and its receipt
  one_message : (i k : ℕ) → i < k → message_of (suc i) (u i) ≡ message_of (suc k) (u k) → Before u (suc i) (suc k)
  unfolding message_of
  one_message i k l = go (u i) refl (u k) refl
    where
      go : (a : Action) → u i ≡ a → (b : Action) → u k ≡ b → message_of (suc i) a ≡ message_of (suc k) b → Before u (suc i) (suc k)
      go (send p q) e (send r s) f m = absurd (omega arith)
      go (send p q) e (receive r j) f m = message i k r (subst (λ z. u k ≡ receive r z) (sym m) f)
      go (receive q j) e (send r s) f m = absurd (omega (arith, (v.matched i q j e).place, (v.matched i q j e).before))
      go (receive q j) e (receive r s) f m =
          absurd (omega (arith, v.once i k q r s (e ∙ ap (receive q) m) f))

  -- no message is a process
  message_above : (k : ℕ) → N < N + message_of (suc k) (u k)
  unfolding message_of
  message_above k = go (u k) refl
    where
      go : (a : Action) → u k ≡ a → N < N + message_of (suc k) a
      go (send p q) e = omega arith
      go (receive q j) e = omega (arith, (v.matched k q j e).place)

  link_before : {x y : ℕ} → Link (messages N u) x y → Before u x y
  unfolding messages
  link_before {x = zero} k = absurd (omega (arith, of_pos k.of_older))
  link_before {x = suc i} {y = zero} k = absurd (omega (arith, k.ascends))
  link_before {x = suc i} {y = suc j} k =
      let l : i < j = omega (arith, k.ascends) in
      elim (of_cases k.of_older) [
        | inl a ↦ elim (of_cases k.of_newer) [
          | inl b ↦ own i j l (a ∙ sym b)
          | inr b ↦ absurd (omega (arith, message_above j, v.actors i))
        ]
        | inr a ↦ elim (of_cases k.of_newer) [
          | inl b ↦ absurd (omega (arith, message_above i, v.actors j))
          | inr b ↦ one_message i j l (omega arith)
        ]
      ]

  before_link : {x y : ℕ} → Before u x y → Link (messages N u) x y
  unfolding messages message_of
  before_link (own i k l e) =
      record { process = actor (u k); of_older = of_either (inl e); of_newer = of_either (inl refl); ascends = omega arith }
  before_link (message i k q e) =
      let s = v.matched k q (suc i) e in
      let a : s.at ≡ i = omega (arith, s.place) in
      record {
        process = N + suc i;
        of_older = of_either (inr (ap (λ b. N + message_of (suc i) b) (subst (λ z. u z ≡ send s.sender q) a s.sends)));
        of_newer = of_either (inr (ap (λ b. N + message_of (suc k) b) e));
        ascends = omega (arith, s.before);
      }

  past_below : {x y : ℕ} → Past (messages N u) x y → Below u x y
  past_below {x = zero} (here l) = absurd (omega arith)
  past_below {x = suc k} (here l) = itself k
  past_below (on c k) = further (past_below c) (link_before k)

  below_past : {x y : ℕ} → Below u x y → Past (messages N u) x y
  below_past (itself k) = here {x = suc k} (omega arith)
  below_past (further c b) = on (below_past c) (before_link b)

  pub past_iff_below : (x y : ℕ) → Past (messages N u) x y ↔ Below u x y
  past_iff_below x y = (past_below, below_past)
