-- Which lines are served: first the form of a line is looked at, then whether its letter is allowed where the job stands.
use Rattle.std.specs.Prelude.{ℕ, Bool, cond, ◌||◌, Some, None, Ok, Err, Option, Result, ◌==◌}
use Rattle.toll.specs.declared.refusal.Refusal.{Refusal}
use Rattle.toll.specs.declared.refusal.Refusal.TheVariants.{BadLine, NotNow}
use Rattle.jobtext.specs.LineTexts.{letter}
use Rattle.jobtext.specs.declared.line.Line.{Line}
use Rattle.job_all.specs.declared.standing.Standing.{Standing}
use Rattle.job_all.specs.declared.standing.Standing.TheVariants.{Empty, Parked, UnderWay}

-- F (70) before there is a floor, then never again; C (67), P (80) and R (82) with a parked carrier; S (83) and H (72) with one under way;
-- Q (81) and T (84) once there is a floor
abbrev pub allowed_now : ℕ → Standing → Bool
allowed_now c Empty = c == 70
allowed_now c Parked = c == 67 || (c == 80 || (c == 82 || (c == 81 || c == 84)))
allowed_now c UnderWay = c == 83 || (c == 72 || (c == 81 || c == 84))

-- a line of no form is refused, then one that is not allowed
abbrev pub decided_under : (ℕ → Standing → Bool) → Standing → Option Line → Result Line Refusal
decided_under allowed s None = Err BadLine
decided_under allowed s (Some l) = cond (allowed (letter l) s) (Ok l) (Err NotNow)

abbrev pub decided : Standing → Option Line → Result Line Refusal
decided = decided_under allowed_now
