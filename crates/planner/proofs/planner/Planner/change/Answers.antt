use Rattle.planner.proofs.Calling.{change_keeps}
use Rattle.planner.proofs.planner.Planner.change.Goals as goal

pub returns : goal.returns
returns g c =
    let e = c.change_by_rules-done.ensures in
    record {
      answer = e.answer;
      state = e.state;
      floor = e.floor;
      held = e.held;
      promise = change_keeps g.met.T.Toll.lawful (g.F.Floor.meaning c.args.floor.now) c.args.self.now c.args.slip.now.place c.args.spot c.args.toll (g.F.Floor.meaning c.change_by_rules-done.new.floor) c.change_by_rules-done.new.self c.laws_hold.ensures e.answer e.floor e.state;
    }
