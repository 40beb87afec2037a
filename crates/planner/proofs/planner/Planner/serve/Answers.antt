use Rattle.planner.specs.Served.{world_of, turn_of}
use Rattle.planner.proofs.Promising.{keeps_as}
use Rattle.planner.proofs.planner.Planner.serve.Goals as goal

pub returns : goal.returns
returns g c =
    let e = c.serve_by_rules-carrier.ensures in
    record {
      answer = e.answer;
      slip = e.slip;
      world = e.world;
      buffer = e.buffer;
      held = e.held;
      promise = keeps_as g.met.T.Toll.lawful (world_of (g.F.Floor.meaning c.args.floor.now) c.args.self.now) (turn_of c.args.carrier c.args.call c.args.way.now) e.answer e.slip e.world e.buffer c.laws_hold.ensures;
    }
