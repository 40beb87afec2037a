-- What making a hall answers.
use Rattle.std.specs.Prelude.{◌≡◌, ℕ, ◌*◌, true, false, replicate, Ok, Err, Result}
use Rattle.toll.specs.declared.seconds.Seconds.{Seconds}
use Rattle.toll.specs.declared.refusal.Refusal.{Refusal}
use Rattle.toll.specs.declared.refusal.Refusal.TheVariants.{FloorSize}
use Rattle.floor.specs.declared.hall.Hall.{Hall}
use Rattle.floor.specs.Grid.{hall_size, grid_meaning, hall_meaning}

-- a hall of a size that can be made, with each cell at its least toll; or a refusal of any other size
abbrev pub HallMade : (rows columns : ℕ) → Seconds → Result Hall Refusal → Type 0
HallMade rows columns least (Ok h) = (hall_size rows columns ≡ true) × (hall_meaning h ≡ grid_meaning rows columns least (replicate (rows * columns) least))
HallMade rows columns least (Err why) = (hall_size rows columns ≡ false) × (why ≡ FloorSize)
