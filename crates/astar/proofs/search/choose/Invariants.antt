use Rattle.std.proofs.Common.{◌≡◌}
use Rattle.tree.specs.Tree.{tree_of}
use Rattle.astar.specs.Search.{best}
use Rattle.astar.proofs.search.choose.Given as goal

abbrev pub invariant-loop-place : goal.invariant-loop-place
invariant-loop-place g l = l.best ≡ best g.T.Toll.tolls (g.F.Floor.meaning l.floor) l.from (tree_of l.table) l.place
