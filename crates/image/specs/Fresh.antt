-- A fresh image: that of the table of a head that was not milked and has heard nobody (Theory.antt: fresh_bytes has its bytes).
use Rattle.std.specs.Prelude.{ℕ, ◌-◌, ◌&&◌, cond, List, ◌++◌, leb, replicate}
use Rattle.image.specs.Layout.{is_count, length_of}
use Rattle.image.specs.Encode.{nothing, encode}

unfoldable pub fresh_image : ℕ → ℕ → List ℕ
fresh_image n stall = encode n stall nothing

-- at the front of a run of so many bytes, then zeros; zeros alone where it has no room, or n is that of no parlour
unfoldable pub fresh_in : ℕ → ℕ → ℕ → List ℕ
fresh_in long n stall = cond (is_count n && leb (length_of n) long) (fresh_image n stall ++ replicate (long - length_of n) 0) (replicate long 0)
