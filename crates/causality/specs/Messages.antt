-- The second kind of event: messages that go one way, as in document 004, section 1. A send and its receipt are two events, and what joins them is the
-- message: it counts as a process of its own, of which the two are the only events. So chains, pasts, views and latests are those of meetings.
use Rattle.std.specs.Prelude.{ℕ, suc, ◌+◌, ◌≤◌, ◌<◌, ◌≡◌, List, get_or}
use Rattle.causality.specs.Event.{History}

-- An action is a send from one process to another, or the receipt by a process of what was sent at a place (φ of document 004).
pub data Action : Type 0 where
  send : ℕ → ℕ → Action
  receive : ℕ → ℕ → Action

-- the process that executes it
unfoldable pub actor : Action → ℕ
actor (send p q) = p
actor (receive q k) = q

-- the place of the send whose message it is about, for an action at place k
unfoldable pub message_of : ℕ → Action → ℕ
message_of k (send p q) = k
message_of k (receive q j) = j

-- The history of a word of actions: with processes 1 to N, the message sent at place k counts as process N + k.
unfoldable pub messages : ℕ → (ℕ → Action) → History
messages N u k = record { first = actor (u k); second = N + message_of (suc k) (u k) }

-- a list of actions as a word; what stands past its end is never looked at
unfoldable pub word : List Action → ℕ → Action
word l k = get_or l k (send 1 2)

-- conditions (iii) and (iv): what q receives at place k + 1 was sent to it before, at place j
pub record Sent (u : ℕ → Action) (k q j : ℕ) : Type 0 where
  pub at : ℕ
  pub place : j ≡ suc at
  pub before : at < k
  pub sender : ℕ
  pub sends : u at ≡ send sender q

-- "Computations" of document 004 with processes up to N; `once` is condition (ii)
pub record Computation (N : ℕ) (u : ℕ → Action) : Type 0 where
  pub actors : (k : ℕ) → actor (u k) ≤ N
  pub once : (i k p q j : ℕ) → u i ≡ receive p j → u k ≡ receive q j → i ≡ k
  pub matched : (k q j : ℕ) → u k ≡ receive q j → Sent u k q j

-- ⊏: two events of one process, or a send and its receipt
pub data Before (u : ℕ → Action) : ℕ → ℕ → Type 0 where
  own : (i k : ℕ) → i < k → actor (u i) ≡ actor (u k) → Before u (suc i) (suc k)
  message : (i k q : ℕ) → u k ≡ receive q (suc i) → Before u (suc i) (suc k)

-- ⊑*: its closure
pub data Below (u : ℕ → Action) : ℕ → ℕ → Type 0 where
  itself : (k : ℕ) → Below u (suc k) (suc k)
  further : {x y z : ℕ} → Below u x y → Before u y z → Below u x z
