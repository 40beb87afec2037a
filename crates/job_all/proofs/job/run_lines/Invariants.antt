use Rattle.std.proofs.Common.{◌≡◌, ◌++◌, length, string_bytes}
use Rattle.jobtext.specs.Lines.{lines_left}
use Rattle.job_all.specs.Jobs.{empty, lines_under}
use Rattle.job_all.proofs.job.run_lines.Given as goal

abbrev pub invariant-loop-line : goal.invariant-loop-line
invariant-loop-line g l =
    string_bytes l.out ++ lines_under g.S.Service.allowed (empty (length l.table)) (lines_left l.lines)
    ≡ string_bytes l.initial.out ++ lines_under g.S.Service.allowed (empty (length l.initial.table)) (lines_left l.initial.lines)
