use Rattle.std.proofs.Common.{sym, ◌∙◌, arith}
use Rattle.tree.specs.Tree.{tree_of}
use Rattle.tree.proofs.Walking.{walk_none, walk_no_next, walk_gap, walk_more, walk_end}
use Rattle.tree.proofs.way.walk.Goals as goal

pub returns-in_err-next-clause-value : goal.returns-in_err-next-clause-value
returns-in_err-next-clause-value g c =
    c.from_residual.ensures ∙ walk_no_next g.met.T.Toll.lawful (g.F.Floor.meaning c.args.floor.now) (tree_of c.args.table.now) c.args.target _ c.loop-place.lanes c.loop-place.place c.loop-place.toll _ c.loop-place-test.true (omega arith) c.loop-place.invariant.rest (sym c.next_at.ensures ∙ c.in_err-next.was)

pub returns-in_err-cost-clause-value : goal.returns-in_err-cost-clause-value
returns-in_err-cost-clause-value g c =
    c.from_residual-in_err-cost.ensures ∙ walk_gap g.met.T.Toll.lawful (g.F.Floor.meaning c.args.floor.now) (tree_of c.args.table.now) c.args.target _ c.loop-place.lanes c.loop-place.place c.loop-place.toll _ c.loop-place-test.true (omega arith) c.loop-place.invariant.rest c.in_ok-next.next (sym c.next_at.ensures ∙ c.in_ok-next.was) (sym c.toll_between.ensures ∙ c.in_err-cost.was)

pub loop-place-preserved : goal.loop-place-preserved
loop-place-preserved g c = record {
  few = omega arith;
  rest = walk_more g.met.T.Toll.lawful (g.F.Floor.meaning c.args.floor.now) (tree_of c.args.table.now) c.args.target _ c.loop-place.lanes c.loop-place.place c.loop-place.toll _ c.loop-place-test.true (omega arith) c.loop-place.invariant.rest c.in_ok-next.next c.in_ok-cost.cost c.join-toll.result (sym c.next_at.ensures ∙ c.in_ok-next.was) (sym c.toll_between.ensures ∙ c.in_ok-cost.was) c.join-toll.ensures;
}

pub returns : goal.returns
returns g c = record {
  value = walk_end g.met.T.Toll.lawful (g.F.Floor.meaning c.args.floor.now) (tree_of c.args.table.now) c.args.target _ c.loop-place.lanes c.loop-place.place c.loop-place.toll _ c.loop-place-test.false c.loop-place.invariant.rest;
  few = c.loop-place.invariant.few;
}
