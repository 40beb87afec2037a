use Rattle.std.proofs.Common.{arith}
use Rattle.tree.specs.Tree.{tree_of, opened_if}
use Rattle.repair.specs.Cut.{entered_by}
use Rattle.tree.proofs.Entries.{tree_length}
use Rattle.repair.proofs.Onward.{onward_more, onward_all}
use Rattle.repair.proofs.cut.reopen.Goals as goal

pub loop-place-preserved : goal.loop-place-preserved
loop-place-preserved g c =
    onward_more (λ p. opened_if (entered_by (g.F.Floor.meaning c.args.floor.now) c.args.spot p)) c.loop-place.place (tree_of c.loop-place.table) _ c.loop-place.invariant _ c.reopen_at.ensures

pub returns : goal.returns
returns g c =
    onward_all (λ p. opened_if (entered_by (g.F.Floor.meaning c.args.floor.now) c.args.spot p)) c.loop-place.place (tree_of c.loop-place.table) _ c.loop-place.invariant (omega (arith, tree_length c.loop-place.table 0))
