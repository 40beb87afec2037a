use Rattle.std.proofs.Common.{◌≡◌}
use Rattle.tree.specs.Tree.{tree_of, opened_if}
use Rattle.repair.specs.Cut.{by_place, entered_by}
use Rattle.repair.proofs.Onward.{onward}
use Rattle.repair.proofs.cut.reopen.Given as goal

abbrev pub invariant-loop-place : goal.invariant-loop-place
invariant-loop-place g l =
    let m = g.F.Floor.meaning l.floor in
    onward (λ p. opened_if (entered_by m l.spot p)) 0 l.place (tree_of l.table) ≡ by_place (λ p. opened_if (entered_by m l.spot p)) (tree_of l.initial.table)
