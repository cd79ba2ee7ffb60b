-- The records of a heard list are of stalls of the parlour, with yields that an image may have: of the stated laws of images and heard lists alone.
use Prim.Native.Nat.{ℕ, ◌≤◌}
use native.Mathlib.Omega.{arith}
use mathlib.Core.Path.{◌≡◌, refl, ap, ◌∙◌}
use mathlib.Core.Bool.{Bool, true, false, ◌&&◌, cond}
use mathlib.Core.List.{List, [], ◌∷◌, map}
use borrow.Author.Tests.{leb-true, eq-eqb}
use lib.Dec.{leb}
use Rattle.image.specs.Layout.{is_yield, heard_at}
use Rattle.image.specs.Encode.{table_of}
use Rattle.image.specs.Theory.{Passes}
use Rattle.image.proofs.Theory.{theory as images}
use Rattle.rank.specs.declared.Record.{Record}
use Rattle.head.specs.Heard.{occurrences, Every, heard_records}
use Rattle.head.proofs.Theory.{theory as heads}

-- what follows for a record whose stall occurs holds of every record
pub every_occurs : (P Q : Record → Type 0) (l : List Record) → ((x : Record) → 1 ≤ occurrences x.stall (map (λ y. y.stall) l) → P x → Q x) → Every P l → Every Q l
unfolding occurrences Every
every_occurs P Q [] f h = tt
every_occurs P Q (x ∷ l) f h = (f x (rw (eq-eqb x.stall x.stall refl) (omega arith)) h.0, every_occurs P Q l (λ y m. f y (omega arith)) h.1)

-- a stall that is counted is one of 1 to n
counted : (r n : ℕ) (heard : Bool) → 1 ≤ cond (leb 1 r && (leb r n && heard)) 1 0 → (1 ≤ r) × (r ≤ n)
counted r n heard = go (leb 1 r) (leb r n) (leb-true 1 r) (leb-true r n)
  where
    go : (a b : Bool) → (a ≡ true → 1 ≤ r) → (b ≡ true → r ≤ n) → 1 ≤ cond (a && (b && heard)) 1 0 → (1 ≤ r) × (r ≤ n)
    go true true f g l = (f refl, g refl)
    go true false f g l = absurd (omega arith)
    go false b f g l = absurd (omega arith)

pub heard_within : (s : List ℕ) (n own : ℕ) → Passes s n own → Every (λ x. (x.stall ≤ n) × (is_yield x.given ≡ true)) (heard_records s n own)
unfolding table_of
heard_within s n own p =
    let h = heads.heard_list_lem s n own in
    every_occurs _ _ (heard_records s n own) (λ x l e.
    let (a, b) = counted x.stall n (heard_at s n own x.stall) (rw (h.each_once x.stall) at l) in
    (b, ap is_yield e ∙ (images.accepted_made s n own p).yields_in x.stall a b))
    h.with_yields
