-- The sides of a cell, as numbers.
use Rattle.std.specs.Prelude.{ℕ}
use Rattle.floor.specs.declared.hall.direction.Direction.{Direction}
use Rattle.floor.specs.declared.hall.direction.Direction.TheVariants.{Up, Right, Down, Left}

-- the number of a side: lane 4 × cell + d leaves its cell through side d
abbrev pub number : Direction → ℕ
number Up = 0
number Right = 1
number Down = 2
number Left = 3
