-- The heard list can be checked by hand, and no other list of records passes.
use Prim.Native.Nat.{ℕ, ◌+◌}
use mathlib.Core.Path.{◌≡◌, refl, sym, ap, ap₂, subst, ◌∙◌}
use mathlib.Core.Bool.{cond}
use mathlib.Core.List.{List, [], ◌∷◌, map, map-map, map-id}
use native.Mathlib.Omega.{arith}
use lib.Dec.{eqb}
use Rattle.image.specs.Layout.{yield_at, heard_at}
use Rattle.rank.specs.declared.Record.{Record}
use Rattle.rank.specs.Order.{Same, none, more, exchanged, through}
use Rattle.rank.proofs.Ranking.{ranked_in_order, ranked_same, one_order}
use Rattle.head.specs.Heard.{occurrences, Every, HeardList, chosen, record_of, heard_records}
use Rattle.head.proofs.Occurrences.{occurrences_chosen, same_often}

abbrev stalls_of : List Record → List ℕ
stalls_of l = map (λ x. x.stall) l

same_stalls : {l m : List Record} (a : ℕ) → Same l m → occurrences a (stalls_of l) ≡ occurrences a (stalls_of m)
unfolding occurrences
same_stalls a none = refl
same_stalls a (more {r} p) = ap (λ k. cond (eqb a r.stall) 1 0 + k) (same_stalls a p)
same_stalls a exchanged = omega arith
same_stalls a (through p q) = same_stalls a p ∙ same_stalls a q

same_every : (P : Record → Type 0) {l m : List Record} → Same l m → Every P l → Every P m
unfolding Every
same_every P none h = h
same_every P (more p) h = (h.0, same_every P p h.1)
same_every P exchanged h = (h.1.0, (h.0, h.1.1))
same_every P (through p q) h = same_every P q (same_every P p h)

module _ (s : List ℕ) (n own : ℕ) where
  abbrev stalls : List ℕ
  stalls = chosen n (heard_at s n own)

  abbrev HasYield : Record → Type 0
  HasYield x = x.given ≡ yield_at s n x.stall

  recorded : (l : List ℕ) → Every HasYield (map (record_of s n) l)
  unfolding Every
  recorded [] = tt
  recorded (r ∷ l) = (refl, recorded l)

  pub heard_list_lem : HeardList s n own (heard_records s n own)
  unfolding heard_records
  heard_list_lem =
      let p = ranked_same (map (record_of s n) stalls) in
      record {
        each_once = λ r. sym (same_stalls r p) ∙ ap (occurrences r) (map-map (λ x. x.stall) (record_of s n) stalls ∙ map-id stalls) ∙ occurrences_chosen r n (heard_at s n own);
        with_yields = same_every HasYield p (recorded stalls);
        in_order = ranked_in_order (map (record_of s n) stalls);
      }

  -- with its yield, a record is known by its stall
  by_stalls : (l : List Record) → Every HasYield l → map (record_of s n) (stalls_of l) ≡ l
  unfolding Every
  by_stalls [] h = refl
  by_stalls (x ∷ l) h = ap₂ (λ g m. record { stall = x.stall; given = g } ∷ m) (sym h.0) (by_stalls l h.1)

  pub one_list : (l : List Record) → HeardList s n own l → l ≡ heard_records s n own
  unfolding heard_records
  one_list l w =
      one_order (map (record_of s n) stalls) l
      (subst (Same (map (record_of s n) stalls)) (by_stalls l w.with_yields)
      (same_often (record_of s n) stalls (stalls_of l) (λ r. occurrences_chosen r n (heard_at s n own) ∙ sym (w.each_once r))))
      w.in_order
