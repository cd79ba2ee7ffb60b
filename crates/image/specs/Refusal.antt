-- The number of a refusal.
use Rattle.std.specs.Prelude.{ℕ}
use Rattle.image.specs.declared.Refusal.{Refusal}
use Rattle.image.specs.declared.Refusal.TheVariants.{Count, Length, Stall, Yield, Name, Mark, Strangers, Buffer, Verdict}

-- 1 to 6 of a check, 7 to 9 of a meeting, 8 also of the other calls with a buffer
abbrev pub number : Refusal → ℕ
number Count = 1
number Length = 2
number Stall = 3
number Yield = 4
number Name = 5
number Mark = 6
number Strangers = 7
number Buffer = 8
number Verdict = 9
