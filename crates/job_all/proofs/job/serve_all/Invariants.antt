use Rattle.std.proofs.Common.{◌≡◌, ◌++◌, string_bytes}
use Rattle.floor.specs.Grid.{hall_meaning}
use Rattle.planner.specs.Served.{world_of}
use Rattle.jobtext.specs.Lines.{lines_left}
use Rattle.job_all.specs.Jobs.{running, lines_under}
use Rattle.job_all.proofs.job.serve_all.Given as goal

abbrev pub invariant-loop-line : goal.invariant-loop-line
invariant-loop-line g l =
    string_bytes l.out ++ lines_under g.S.Service.allowed (running (world_of (hall_meaning l.hall) l.planner) l.carrier) (lines_left l.line-iterator)
    ≡ string_bytes l.initial.out ++ lines_under g.S.Service.allowed (running (world_of (hall_meaning l.initial.hall) l.initial.planner) l.initial.carrier) (lines_left l.initial.line-iterator)
