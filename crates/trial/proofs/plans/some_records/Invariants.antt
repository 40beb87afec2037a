use Rattle.std.proofs.Common.{◌<◌, ◌≤◌}
use Rattle.lanes.specs.Records.{Fits}
use Rattle.trial.proofs.plans.some_records.Given as goal

abbrev pub invariant-loop : goal.invariant-loop
invariant-loop g l = 0 < l.places → l.places ≤ 1024 → Fits l.places l.records.items
