-- What lies within an image of the right length.
use Prim.Native.Nat.{ℕ}
use mathlib.Core.Path.{◌≡◌}
use mathlib.Core.List.{List}
use Rattle.image.specs.Frame.{Sized, Framed}

pub framed_sized : {s : List ℕ} {n own m : ℕ} → Framed s n own → m ≡ n → Sized s m
framed_sized f e = rw e (record { n_from = f.n_from; n_to = f.n_to; long = f.long })
