use Rattle.floor.specs.Grid.{hall_meaning}
use Rattle.planner.specs.Served.{world_of, turn_of}
use Rattle.job_all.proofs.Fitting.{served_fits}
use Rattle.job_all.proofs.serve.serve_call.Goals as goal

pub write_answer-requires : goal.write_answer-requires
write_answer-requires c =
    served_fits (world_of (hall_meaning c.args.hall.now) c.args.planner.now) (turn_of c.args.carrier c.args.call c.args.way.now) _ _
    c.serve-carrier.ensures.answer c.serve-carrier.ensures.buffer c.serve-carrier.auto.way
