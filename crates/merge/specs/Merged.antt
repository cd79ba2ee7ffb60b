-- What both heads hold after a meeting.
-- Document 01: "Afterwards both images have the same rows, yields and marks. For another stall r, latest, yield and row r come from the head with the newer news, from
-- the first where the verdict is 0. The two that met get the new name and their current yields; their two rows are the new list of latests. Marks: every heard stall
-- has one to each of the two that met; these have none to other stalls; (r, s) between others is the first's if the first supplied or shared both, else the second's
-- if it did, else not set. Current yields and stalls stay."
use Rattle.std.specs.Prelude.{ℕ, Bool, ◌&&◌, ◌||◌, not, cond, List, [], ◌∷◌, eqb}
use Rattle.image.specs.Stalls.{each}
use Rattle.image.specs.Encode.{Table}
use Rattle.image.specs.Row.{is_never}
use Rattle.image.specs.declared.Name.{Name}
use Rattle.image.specs.declared.Name.TheVariants.{With}
use Rattle.merge.specs.Verdict.{verdict}
use Rattle.merge.specs.Label.{new_label}

-- r is one of the two that met, p and q
abbrev pub is_met : ℕ → ℕ → ℕ → Bool
is_met p q r = eqb r p || eqb r q

module _ (n p : ℕ) (a : Table) (q : ℕ) (b : Table) where
  abbrev pub met : ℕ → Bool
  met r = is_met p q r

  -- the first supplied or shared r; the second did
  abbrev pub first_has : ℕ → Bool
  first_has r = not (eqb (verdict n p a q b r) 2)

  abbrev pub second_has : ℕ → Bool
  second_has r = not (eqb (verdict n p a q b r) 1)

  -- the table that r comes from
  abbrev pub supplier : ℕ → Table
  supplier r = cond (first_has r) a b

  -- the stall of that head
  abbrev pub supplier_stall : ℕ → ℕ
  supplier_stall r = cond (first_has r) p q

  -- the new list of latests
  unfoldable pub latest_name : ℕ → Name
  latest_name r =
      cond (eqb r p) (With (record { partner = q; label = new_label n p a q b }))
      (cond (eqb r q) (With (record { partner = p; label = new_label n p a q b }))
      ((supplier r).names (supplier_stall r) r))

  unfoldable pub merged_names : ℕ → ℕ → Name
  merged_names r c = cond (met r) (latest_name c) ((supplier r).names r c)

  unfoldable pub merged_yields : ℕ → ℕ
  merged_yields r = cond (eqb r p) a.current (cond (eqb r q) b.current ((supplier r).yields r))

  -- order mark (r, s) between two others
  abbrev pub order_between : ℕ → ℕ → Bool
  order_between r s = first_has r && first_has s && a.order r s || not (first_has r && first_has s) && (second_has r && second_has s) && b.order r s

  unfoldable pub merged_order : ℕ → ℕ → Bool
  merged_order r s =
      cond (met s) (not (is_never (latest_name r))) (not (met r) && order_between r s)

  -- what a head with this current yield holds
  unfoldable pub merged : ℕ → Table
  merged current = record { current = current; names = merged_names; yields = merged_yields; order = merged_order }

  -- "N verdict bytes"
  unfoldable pub verdict_bytes : List ℕ
  verdict_bytes = each n (λ r. verdict n p a q b r ∷ [])
