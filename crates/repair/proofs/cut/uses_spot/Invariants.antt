use Rattle.std.proofs.Common.{◌≡◌, ◌-◌, length}
use Rattle.tree.specs.Tree.{tree_of}
use Rattle.repair.specs.Cut.{uses_spot}
use Rattle.repair.proofs.cut.uses_spot.Given as goal

abbrev pub invariant-loop : goal.invariant-loop
invariant-loop g l =
    let m = g.F.Floor.meaning l.floor in
    let E = tree_of l.table in
    uses_spot m l.spot E l.target (length l.table - l.counter) l.place ≡ uses_spot m l.spot E l.target (length l.table) l.from
