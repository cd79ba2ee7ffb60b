-- What the numbers of an image say.
use Prim.Native.Nat.{ℕ, suc, ◌-◌, ◌≤◌}
use mathlib.Core.Path.{◌≡◌, refl, sym, ◌∙◌}
use mathlib.Core.Logic.{◌↔◌}
use mathlib.Core.Bool.{Bool, true, false}
use mathlib.Core.List.{List}
use native.Mathlib.Omega.{arith}
use lib.ListN.{length, get_or}
use Rattle.image.specs.Stalls.{count_stalls}
use Rattle.image.specs.Layout.{mark_at, name_at}
use Rattle.image.specs.Encode.{table_of}
use Rattle.image.specs.declared.Name.{Name}
use Rattle.image.specs.declared.Name.TheVariants.{Never, With}
use Rattle.image.proofs.Accepted.{Accepted}
use Rattle.image.proofs.AcceptedMade.{accepted_made}
use Rattle.image.proofs.Counts.{count_le, stalls_some, stalls_none}
use Rattle.image.proofs.Has.{length_each, each_byte}
use Rattle.head.specs.Settled.{settled_counts}
use Rattle.head.proofs.SettledCounts.{count_at}

module _ (s : List ℕ) (n : ℕ) where
  pub settled_long : length (settled_counts s n) ≡ n
  unfolding settled_counts
  settled_long = length_each 1 (count_at s n) (λ r. refl) n ∙ omega arith

  pub settled_at : (r : ℕ) → 1 ≤ r → r ≤ n → get_or (settled_counts s n) (r - 1) 0 ≡ count_stalls n (mark_at s n r)
  unfolding settled_counts
  settled_at r i j = each_byte n (λ r. count_stalls n (mark_at s n r)) r i j

  pub settled_most : (r : ℕ) → 1 ≤ r → r ≤ n → get_or (settled_counts s n) (r - 1) 0 ≤ n
  settled_most r i j = omega (arith, settled_at r i j, count_le n (λ k. mark_at s n r (suc k)))

-- no marks of a stall never heard, and one at least of a stall that is
pub settled_heard : {s : List ℕ} {n own : ℕ} → Accepted s n own → (r : ℕ) → 1 ≤ r → r ≤ n → (get_or (settled_counts s n) (r - 1) 0 ≡ 0) ↔ (name_at s n own r ≡ Never)
unfolding table_of
settled_heard {s} {n} {own} w r i j = (λ e. go (name_at s n own r) refl e, λ e. settled_at s n r i j ∙ stalls_none n (mark_at s n r) (unmarked e))
  where
    unmarked : name_at s n own r ≡ Never → (t : ℕ) → 1 ≤ t → t ≤ n → mark_at s n r t ≡ false
    unmarked e t k l = off (mark_at s n r t) refl
      where
        off : (b : Bool) → mark_at s n r t ≡ b → b ≡ false
        off true d = absurd (((accepted_made w).marks_heard r t i j k l d).0 e)
        off false d = refl

    go : (x : Name) → name_at s n own r ≡ x → get_or (settled_counts s n) (r - 1) 0 ≡ 0 → x ≡ Never
    go Never d e = refl
    go (With m) d e =
        let heard : name_at s n own r ≡ Never → ⊥ = λ z. never_with (sym z ∙ d) in
        absurd (omega (arith, settled_at s n r i j, stalls_some n (mark_at s n r) r i j ((accepted_made w).marked_self r i j heard)))
      where
        never_with : Never ≡ With m → ⊥
        never_with z = let y : ◌≡◌ {A = ℕ} 0 1 = cc in omega arith
