use Rattle.tree.specs.Tree.{tree_of}
use Rattle.planner.proofs.Following.{follow_answer, follow_buffer}
use Rattle.planner.proofs.planner.routing.follow.Goals as goal

pub returns : goal.returns
returns g c =
    let A = g.T.Toll.tolls in
    let m = g.F.Floor.meaning c.args.floor.now in
    let E = tree_of c.args.table.now in
    let e = c.in-Some.ensures.value in
    record {
      answer = follow_answer A m E c.args.target c.args.from c.in-Some.trace e c.args.count;
      buffer = follow_buffer A m E c.args.target c.args.from c.in-Some.trace e _ c.args.way.now c.write_way.ensures;
    }
