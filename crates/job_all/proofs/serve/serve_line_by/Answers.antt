use Rattle.floor.specs.Grid.{hall_meaning}
use Rattle.planner.specs.Served.{world_of}
use Rattle.job_all.proofs.Buffers.{line_alike}
use Rattle.job_all.proofs.serve.serve_line_by.Goals as goal

pub returns-in_default : goal.returns-in_default
returns-in_default g c =
    let W = world_of (hall_meaning c.args.hall.now) c.args.planner.now in
    rw (line_alike g.S.Service.allowed W c.args.carrier c.args.text.now c.in-Ok.line c.in-Some.call (cc) (cc) c.in_default.not-Route) c.serve_call-in_default.ensures
