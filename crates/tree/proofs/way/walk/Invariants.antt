use Rattle.std.proofs.Common.{◌-◌, length}
use Rattle.tree.specs.Tree.{tree_of}
use Rattle.tree.proofs.Walking.{Walk}
use Rattle.tree.proofs.way.walk.Given as goal

abbrev pub invariant-loop-place : goal.invariant-loop-place
invariant-loop-place g l = Walk g.T.Toll.tolls (g.F.Floor.meaning l.floor) (tree_of l.table) l.target (length l.table - 1) l.from l.place l.toll l.lanes

abbrev pub decreases-loop-place : goal.decreases-loop-place
decreases-loop-place g l = length l.table - l.lanes
