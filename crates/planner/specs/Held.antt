-- What no call of a planner alters.
use Rattle.std.specs.Prelude.{◌≡◌, drop}
use Rattle.planner.specs.declared.planner.Planner.{Planner}

-- the number of places stays, the records behind the last place stay, and the table is still the one that was lent
pub record Held {T : Type 0} (before after : Planner T) : Type 0 where
  pub places : after.places ≡ before.places
  pub behind : drop after.places after.table.now ≡ drop before.places before.table.now
  pub lender : after.table.ghost_name ≡ before.table.ghost_name
