use Rattle.std.proofs.Common.{◌≡◌, ◌*◌}
use Rattle.trial.proofs.halls.some_hall.Given as goal

abbrev pub invariant-loop-cell : goal.invariant-loop-cell
invariant-loop-cell l = (l.rows ≡ l.fn.rows) × (l.columns ≡ l.fn.columns) × (l.hall.rows * l.hall.columns ≡ l.rows * l.columns)
