use Rattle.std.proofs.Common.{sym, ◌∙◌}
use Rattle.planner.specs.Calls.{state_of}
use Rattle.planner.proofs.RouteProof.{route_laws, answers_below_shut}
use Rattle.planner.proofs.Calling.{route_expanded_as, route_keeps}
use Rattle.planner.proofs.planner.Planner.route.Goals as goal

pub returns : goal.returns
returns g c =
    let e = c.route_by_rules.ensures in
    record {
      answer = e.answer;
      state = e.state;
      buffer = e.buffer;
      slip = e.slip;
      carrier = e.carrier;
      held = e.held;
      laws = route_laws g.met.T.Toll.lawful c.laws_hold.ensures (state_of c.args.self.now) c.args.slip.place c.args.way.now;
      below = λ G a q. answers_below_shut g.met.T.Toll.lawful c.laws_hold.ensures (state_of c.args.self.now) c.args.slip.place c.args.way.now G a (sym e.answer ∙ q);
      expanded = λ t. route_expanded_as g.met.T.Toll.lawful (g.F.Floor.meaning c.args.floor.now) c.args.self.now c.args.slip.place c.args.way.now c.route_by_rules.new.self c.laws_hold.ensures t e.answer e.carrier e.state e.buffer;
      promise = route_keeps g.met.T.Toll.lawful (g.F.Floor.meaning c.args.floor.now) c.args.self.now c.args.slip.place c.args.way.now c.route_by_rules.new.self e.answer e.carrier e.state e.buffer;
    }
