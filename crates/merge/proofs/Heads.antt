-- The two heads of a meeting: different stalls of 1 to n, and well-made tables.
use Prim.Native.Nat.{ℕ, ◌≤◌}
use mathlib.Core.Path.{◌≡◌}
use mathlib.Core.List.{List}
use Rattle.image.specs.Encode.{Table, table_of}
use Rattle.image.specs.Made.{Made}
use Rattle.image.proofs.Accepted.{Accepted}
use Rattle.image.proofs.AcceptedMade.{accepted_made}

pub record Heads (n p : ℕ) (a : Table) (q : ℕ) (b : Table) : Type 0 where
  pub p_from : 1 ≤ p
  pub p_to : p ≤ n
  pub q_from : 1 ≤ q
  pub q_to : q ≤ n
  pub differ : p ≡ q → ⊥
  pub first : Made n p a
  pub second : Made n q b

-- so it is where both images are accepted
pub accepted_heads : {s u : List ℕ} {n p q : ℕ} → Accepted s n p → Accepted u n q → (p ≡ q → ⊥) → Heads n p (table_of s n) q (table_of u n)
accepted_heads w v differ =
    record {
      p_from = w.frame.own_from;
      p_to = w.frame.own_to;
      q_from = v.frame.own_from;
      q_to = v.frame.own_to;
      differ = differ;
      first = accepted_made w;
      second = accepted_made v;
    }
