use Rattle.std.proofs.Common.{◌≡◌}
use Rattle.tree.specs.Tree.{tree_of, marks_of}
use Rattle.repair.specs.Cut.{drops, marks}
use Rattle.repair.proofs.Onward.{onward}
use Rattle.repair.proofs.cut.mark.Given as goal

abbrev pub invariant-loop-place : goal.invariant-loop-place
invariant-loop-place g l =
    let m = g.F.Floor.meaning l.floor in
    let E = tree_of l.initial.table in
    (tree_of l.table ≡ E) × (onward (λ p _. drops m l.spot l.target E p) 0 l.place (marks_of l.table) ≡ marks m l.spot l.target E)
