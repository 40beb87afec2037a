use Rattle.std.proofs.Common.{sym, ap, ◌∙◌}
use Rattle.planner.specs.Served.{slip_by, under_way_at}
use Rattle.planner.proofs.Calling.{step_keeps}
use Rattle.planner.proofs.planner.Planner.step.Goals as goal

pub returns-in-Ok : goal.returns-in-Ok
returns-in-Ok g c =
    let e = sym c.in-Ok.is ∙ c.following.ensures in
    let f = ap (slip_by under_way_at (under_way_at c.args.slip.place)) e in
    record { answer = e; slip = f; promise = step_keeps g.met.T.Toll.lawful (g.F.Floor.meaning c.args.floor.now) c.args.self.now c.args.slip.place e f }

pub returns-in-Err : goal.returns-in-Err
returns-in-Err g c =
    let e = sym c.in-Err.is ∙ c.following.ensures in
    let f = ap (slip_by under_way_at (under_way_at c.args.slip.place)) e in
    record { answer = e; slip = f; promise = step_keeps g.met.T.Toll.lawful (g.F.Floor.meaning c.args.floor.now) c.args.self.now c.args.slip.place e f }
