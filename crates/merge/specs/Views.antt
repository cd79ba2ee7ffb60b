-- What one own row shows against the other, and the verdicts, as sets of stalls, for the functions that find them. `Known` and `Verdict` say what they mean.
use Rattle.std.specs.Prelude.{ℕ, ◌+◌, ◌-◌, ◌*◌, ◌≡◌, Bool, ◌&&◌, ◌||◌, not, cond, List, leb, eqb, get_or}
use Rattle.image.specs.Stalls.{bits}
use Rattle.image.specs.Layout.{name_from}
use Rattle.image.specs.Encode.{Table}
use Rattle.image.specs.Row.{is_never}
use Rattle.image.specs.declared.Name.{Name}
use Rattle.image.specs.declared.Name.TheVariants.{Never, With}
use Rattle.merge.specs.Known.{common}
use Rattle.merge.specs.Verdict.{same_name, verdict}
use Rattle.merge.specs.declared.View.{View}
use Rattle.merge.specs.declared.Decided.{Decided}

-- partner and label of a name, 0 for none
abbrev pub partner_in : Name → ℕ
partner_in Never = 0
partner_in (With m) = m.partner

abbrev pub label_in : Name → ℕ
label_in Never = 0
label_in (With m) = m.label

-- the name that stands at a place, and in column c of the row that starts at a place
abbrev pub name_in : List ℕ → ℕ → Name
name_in s at = name_from (get_or s at 0) (get_or s (at + 1) 0)

abbrev pub row_name : List ℕ → ℕ → ℕ → Name
row_name s row c = name_in s (row + (c - 1) * 2)

-- how far behind the start of a row of n names that in column d stands; 0 where there is no such column
abbrev pub across : ℕ → ℕ → ℕ
across n d = cond (leb 1 d && leb d n) ((d - 1) * 2) 0

-- x, the name in column c, names a meeting that the other own row names too: y has it in that column, or the partner's column of theirs, of n, has it
unfoldable pub shared : ℕ → ℕ → Name → Name → (ℕ → Name) → Bool
shared n c x y theirs =
    let z = theirs (partner_in x) in
    not (is_never x) && (same_name x y || leb (partner_in x) n && (eqb c (partner_in z) && eqb (label_in x) (label_in z)))

-- the columns of an own row of n names, mine, against another, theirs
pub record Views (n : ℕ) (mine theirs : ℕ → Name) (x : View) : Type 0 where
  pub common_is : x.common ≡ bits n (common n mine theirs)
  pub heard_is : x.heard ≡ bits n (λ c. not (is_never (mine c)))
  pub same_is : x.same ≡ bits n (λ c. same_name (mine c) (theirs c))

-- the head that a stall comes from has heard it, by its verdict and by both heads' names
abbrev pub heard_from : ℕ → Name → Name → Bool
heard_from v x y = cond (eqb v 2) (not (is_never y)) (not (is_never x))

-- the verdicts when the head at stall p with table a meets the head at stall q with table b
pub record Decides (n p : ℕ) (a : Table) (q : ℕ) (b : Table) (d : Decided) : Type 0 where
  pub one_is : d.one ≡ bits n (λ r. eqb (verdict n p a q b r) 1)
  pub two_is : d.two ≡ bits n (λ r. eqb (verdict n p a q b r) 2)
  pub nine_is : d.nine ≡ bits n (λ r. eqb (verdict n p a q b r) 9)
  pub heard_is : d.heard ≡ bits n (λ r. heard_from (verdict n p a q b r) (a.names p r) (b.names q r))
