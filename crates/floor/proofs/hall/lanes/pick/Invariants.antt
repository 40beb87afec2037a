use Rattle.std.proofs.Common.{◌≡◌, drop}
use Rattle.std.specs.List.{slice_get}
use Rattle.floor.specs.Rising.{present}
use Rattle.floor.proofs.hall.lanes.pick.Given as goal

abbrev pub invariant-loop-one : goal.invariant-loop-one
invariant-loop-one l = slice_get (present (drop l.one-index l.found)) l.left ≡ slice_get (present l.found) l.k
