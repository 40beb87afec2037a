use Rattle.std.proofs.Common.{length, sym, arith}
use Rattle.tree.specs.Tree.{tree_of}
use Rattle.repair.proofs.Repairing.{uses_none, uses_arrived, uses_no_next, uses_joined, uses_more, uses_end}
use Rattle.repair.proofs.cut.uses_spot.Goals as goal

pub loop-preserved : goal.loop-preserved
loop-preserved g c =
    uses_more (g.F.Floor.meaning c.args.floor.now) c.args.spot (tree_of c.args.table.now) c.args.target (length c.args.table.now) c.loop.counter c.loop.place _ (omega arith) c.loop.invariant c.if-place-target.false c.in-Some.next (sym c.in-Some.ensures) c.joins.result c.joins.ensures c.if-joins.false
