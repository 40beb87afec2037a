use Rattle.std.proofs.Common.{◌≡◌}
use Rattle.floor.specs.Meaning.{into}
use Rattle.floor.specs.LanesLeft.{lanes_left}
use Rattle.tree.specs.Tree.{tree_of}
use Rattle.astar.specs.Search.{relaxed}
use Rattle.astar.proofs.expand.relax_all.Given as goal

abbrev pub invariant-loop-lane : goal.invariant-loop-lane
invariant-loop-lane g l =
    let m = g.F.Floor.meaning l.floor in
    relaxed g.T.Toll.tolls m l.place l.toll (lanes_left g.F.Floor.meaning l.lane-iterator) (tree_of l.table) ≡ relaxed g.T.Toll.tolls m l.place l.toll (into m l.place) (tree_of l.initial.table)
