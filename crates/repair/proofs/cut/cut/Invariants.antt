use Rattle.std.proofs.Common.{◌≡◌}
use Rattle.tree.specs.Tree.{tree_of, marks_of}
use Rattle.repair.specs.Cut.{by_place, cut_at}
use Rattle.repair.proofs.Onward.{onward}
use Rattle.repair.proofs.cut.cut.Given as goal

abbrev pub invariant-loop-place : goal.invariant-loop-place
invariant-loop-place g l =
    let f = cut_at (g.F.Floor.meaning l.floor) (marks_of l.initial.table) in
    (onward f 0 l.place (tree_of l.table) ≡ by_place f (tree_of l.initial.table)) × (marks_of l.table ≡ marks_of l.initial.table)
