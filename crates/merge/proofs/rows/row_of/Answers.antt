-- The bytes of n names from a place on, zeros behind them.
use Rattle.std.proofs.Common.{◌≡◌, ℕ, List, ◌+◌, ◌-◌, ◌*◌, ◌++◌, take, drop, replicate, arith, ap, ap₂, ◌∙◌, rules}
use Rattle.std.proofs.lemmas.List.{drop-replicate}
use Rattle.merge.proofs.rows.row_of.Goals as goal

zeros : (n m : ℕ) → n + n ≡ m * 2 → drop {A = ℕ} (n + n) (replicate {A = ℕ} 32 0) ≡ replicate {A = ℕ} (32 - m * 2) 0
zeros n m e = drop-replicate {X = ℕ} (n + n) 32 0 ∙ ap (λ k. replicate {A = ℕ} (32 - k) 0) e

pub returns : goal.returns
returns c =
    let n = c.from-n.result in
    let x = c.args.x.now in
    let e : n + n ≡ x.n * 2 = omega (arith, c.from-n.ensures) in
    let first : c.copy_from_slice.new.self ≡ take (x.n * 2) (drop c.args.at x.bytes.now) = search (rules, e) in
    ap₂ (λ (a b : List ℕ). a ++ b) first (zeros n x.n e)
