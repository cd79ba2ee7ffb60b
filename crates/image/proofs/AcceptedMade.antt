-- An accepted image holds a well-made table, with labels of five bits.
use Prim.Native.Nat.{ℕ, ◌^◌, ◌≤◌, ◌<◌}
use mathlib.Core.Path.{ap₂}
use mathlib.Core.List.{List}
use native.Mathlib.Omega.{arith}
use Rattle.image.specs.Layout.{partner_at, label_at, name_from, name_at, heard_at}
use Rattle.image.specs.Check.{bad_yields, bad_diagonal, bad_unheard, bad_row, bad_names, bad_order, bad_marks}
use Rattle.image.specs.Encode.{table_of}
use Rattle.image.specs.Made.{Made}
use Rattle.image.proofs.Accepted.{Accepted}
use Rattle.image.proofs.Passing.{passing}
use Rattle.image.proofs.NameBytes.{never, name_in, limit_bits, limit_five}

pub accepted_made : {s : List ℕ} {n own : ℕ} → Accepted s n own → Made n own (table_of s n)
unfolding table_of name_at heard_at bad_yields bad_diagonal bad_unheard bad_row bad_names bad_order bad_marks
accepted_made {s} {n} {own} w =
    let yields = simp passing at w.yields in
    let names = simp passing at w.names in
    let marks = simp passing at w.marks in
    record {
      current_in = yields.0;
      yields_in = yields.1;
      names_in = λ r c i j k l. ((name_in n c (partner_at s n r c) (label_at s n r c) k).0 ((names r i j).0.0 c k l)).1;
      diagonal = λ r i j. let same = (names r i j).0.1 in ap₂ name_from same.0 same.1;
      unheard_row = λ r c i j k l. simp never (λ u. ((names r i j).1 u).0 c k l);
      unheard_yield = λ r i j. simp never (λ u. ((names r i j).1 u).1);
      marks_heard = λ r c i j k l. simp never (λ e. let h = (marks r i j).0 c k (omega (arith, w.frame.n_to)) e in (h.0, h.1.1));
      marked_self = λ r i j. simp never (λ h. ((marks r i j).1 h).0);
      marked_own = λ r i j. simp never (λ h. ((marks r i j).1 h).1);
    }

-- each label byte is within the limit, and that is below 32
pub label_bits : {s : List ℕ} {n own : ℕ} → Accepted s n own → (r c : ℕ) → 1 ≤ r → r ≤ n → 1 ≤ c → c ≤ n → (label_at s n r c < 2 ^ 6) × (n ≤ 8 → label_at s n r c < 2 ^ 5)
unfolding bad_row bad_names
label_bits {n = n} w r c i j k l =
    let names = simp passing at w.names in
    (omega (arith, ((names r i j).0.0 c k l).1, limit_bits n w.frame.n_to), λ m. omega (arith, ((names r i j).0.0 c k l).1, limit_five n m))
