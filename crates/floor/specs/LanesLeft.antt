-- The lanes that an iterator over a floor's lanes has still to give.
use Rattle.std.specs.Prelude.{ℕ, List, drop}
use Rattle.floor.specs.Meaning.{Meaning, out_of, into, of_spot}
use Rattle.floor.specs.declared.lanes.Which.{Which}
use Rattle.floor.specs.declared.lanes.Which.TheVariants.{OutOf, Into, OfSpot}
use Rattle.floor.specs.declared.lanes.Lanes.{Lanes}

-- the lanes that are asked for, by rising number
abbrev pub asked : {T : Type 0} → Meaning T → Which → List ℕ
asked m (OutOf p) = out_of m p
asked m (Into p) = into m p
asked m (OfSpot s) = of_spot m s

-- those behind the first k
abbrev pub lanes_left : {F T : Type 0} → (F → Meaning T) → Lanes F → List ℕ
lanes_left meaning it = drop it.k (asked (meaning it.floor.now) it.which)
