-- The frames.
-- Document 01: "Kinds: `01` N opens a fresh parlour; `02` stall yield is a milking; `03` first second is a meeting; `04` stall shows the image; `05` stall shows
-- the heard list." Request 2026-05: "Line kind `06` with a stall". Bad is number 10: "line not whole pairs of digits 0-9, a-f, or unknown kind, or wrong length".
use Rattle.std.specs.Prelude.{ℕ, ◌+◌, ◌*◌, cond, List, [], ◌∷◌, eqb}
use Rattle.line.specs.Digits.{whole_pairs, bytes_of}
use Rattle.line.specs.declared.frame.Frame.{Frame}
use Rattle.line.specs.declared.frame.Frame.TheVariants.{Open, Milking, Meeting, Show, Heard, Settled, Bad}

-- the kinds of one byte more, of two, and of three: the yield has two, high first
unfoldable pub kind_of_two : ℕ → ℕ → Frame
kind_of_two kind x = cond (eqb kind 1) (Open x) (cond (eqb kind 4) (Show x) (cond (eqb kind 5) (Heard x) (cond (eqb kind 6) (Settled x) Bad)))

unfoldable pub kind_of_three : ℕ → ℕ → ℕ → Frame
kind_of_three kind x y = cond (eqb kind 3) (Meeting x y) Bad

unfoldable pub kind_of_four : ℕ → ℕ → ℕ → ℕ → Frame
kind_of_four kind x high low = cond (eqb kind 2) (Milking x (high * 256 + low)) Bad

-- the frame of some bytes
unfoldable pub frame_of_bytes : List ℕ → Frame
frame_of_bytes [] = Bad
frame_of_bytes (kind ∷ []) = Bad
frame_of_bytes (kind ∷ x ∷ []) = kind_of_two kind x
frame_of_bytes (kind ∷ x ∷ y ∷ []) = kind_of_three kind x y
frame_of_bytes (kind ∷ x ∷ y ∷ z ∷ []) = kind_of_four kind x y z
frame_of_bytes (kind ∷ x ∷ y ∷ z ∷ a ∷ l) = Bad

-- the frame of a line
unfoldable pub frame_of : List ℕ → Frame
frame_of line = cond (whole_pairs line) (frame_of_bytes (bytes_of line)) Bad
