-- The images of all heads with another one for one stall.
use Prim.Native.Nat.{ℕ}
use mathlib.Core.Path.{◌≡◌, refl, sym, ap, subst, ◌∙◌}
use mathlib.Core.Bool.{Bool, true, false, cond}
use mathlib.Core.List.{List}
use borrow.Author.Tests.{eqb-true, eqb-false}
use lib.Dec.{eqb}
use Rattle.parlour.specs.Run.{Images, put}

-- an image put in its own place changes nothing, and any image only its own place
pub put_same : (images : Images) (stall p : ℕ) {image : List ℕ} → image ≡ images stall → put images stall image p ≡ images p
unfolding put
put_same images stall p {image} e = go (eqb p stall) refl
  where
    go : (t : Bool) → eqb p stall ≡ t → cond t image (images p) ≡ images p
    go true f = e ∙ ap images (sym (eqb-true p stall f))
    go false f = refl

pub put_each : (P : ℕ → List ℕ → Type 0) (images : Images) (stall p : ℕ) {image : List ℕ} → P stall image → ((p ≡ stall → ⊥) → P p (images p)) → P p (put images stall image p)
unfolding put
put_each P images stall p {image} x f = go (eqb p stall) refl
  where
    go : (t : Bool) → eqb p stall ≡ t → P p (cond t image (images p))
    go true e = subst (λ r. P r image) (sym (eqb-true p stall e)) x
    go false e = f (eqb-false p stall e)
