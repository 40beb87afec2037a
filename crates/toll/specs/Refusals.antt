-- The number of each refusal.
use Rattle.std.specs.Prelude.{ℕ}
use Rattle.toll.specs.declared.refusal.Refusal.{Refusal}
use Rattle.toll.specs.declared.refusal.Refusal.TheVariants.{FloorSize, LaneRecord, ShortTable, NoStart, UnknownSpot, BelowLeast, UnknownPlace, NoWay, ShortBuffer, AtTarget, OtherFloor, BrokenWay, BadLine, NotNow}

-- the number that stands for a refusal
abbrev pub number_of : Refusal → ℕ
number_of FloorSize = 1
number_of LaneRecord = 2
number_of ShortTable = 3
number_of NoStart = 4
number_of UnknownSpot = 5
number_of BelowLeast = 6
number_of UnknownPlace = 7
number_of NoWay = 8
number_of ShortBuffer = 9
number_of AtTarget = 10
number_of OtherFloor = 11
number_of BrokenWay = 12
number_of BadLine = 13
number_of NotNow = 14
