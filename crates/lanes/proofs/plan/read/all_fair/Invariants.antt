use Rattle.std.proofs.Common.{◌≡◌, length}
use Rattle.lanes.specs.Records.{all_fair}
use Rattle.lanes.proofs.plan.read.all_fair.Given as goal

abbrev pub invariant-loop-left : goal.invariant-loop-left
invariant-loop-left g l = all_fair l.places l.left ≡ all_fair l.places l.lanes

abbrev pub decreases-loop-left : goal.decreases-loop-left
decreases-loop-left g l = length l.left
