use Rattle.std.proofs.Common.{◌-◌}
use Rattle.tree.specs.Tree.{tree_of}
use Rattle.astar.proofs.Running.{Going}
use Rattle.astar.proofs.search.search.Given as goal

abbrev pub invariant-loop-chosen : goal.invariant-loop-chosen
invariant-loop-chosen g l = Going g.T.Toll.tolls (g.F.Floor.meaning l.floor) l.from (tree_of l.initial.table) (tree_of l.table) l.count

abbrev pub decreases-loop-chosen : goal.decreases-loop-chosen
decreases-loop-chosen g l = (g.F.Floor.meaning l.floor).places - l.count
