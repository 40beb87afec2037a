-- Which lines are served: first the form of a line is looked at, then whether its letter is allowed where the job stands.
use Rattle.std.specs.Prelude.{ℕ, Bool, ◌||◌, Option, Result, ◌==◌}
use Rattle.toll.specs.declared.refusal.Refusal.{Refusal}
use Rattle.jobtext.specs.declared.line.Line.{Line}
use Rattle.job_all.specs.declared.standing.Standing.{Standing}
use Rattle.job_all.specs.declared.standing.Standing.TheVariants.{Empty, Parked, UnderWay}
use Rattle.job_all.specs.Decisions.{decided_under}

-- F (70) before there is a floor, then never again; R (82) with a parked carrier; Q (81) and T (84) once there is a floor
abbrev pub allowed_now : ℕ → Standing → Bool
allowed_now c Empty = c == 70
allowed_now c Parked = c == 82 || (c == 81 || c == 84)
allowed_now c UnderWay = c == 81 || c == 84

-- a line of no form is refused, then one that is not allowed
abbrev pub decided : Standing → Option Line → Result Line Refusal
decided = decided_under allowed_now
