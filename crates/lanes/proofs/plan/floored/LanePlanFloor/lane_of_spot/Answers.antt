use Rattle.std.proofs.Common.{arith, ◌∙◌}
use Rattle.std.proofs.lemmas.Bool.Decides.{nat_tests}
use Rattle.lanes.proofs.PlanFacts.{spot_nth}
use Rattle.lanes.proofs.plan.floored.LanePlanFloor.lane_of_spot.Goals as goal
use Rattle.lanes.proofs.plan.floored.LanePlanFloor.lane_of_spot.Goals.{then-from-self, else-from-self}

pub returns : goal.returns
returns g c =
    let p = c.args.self.now in
    c.then_some.ensures ∙ spot_nth g.T.Toll.tolls p.places p.lanes.now c.args.spot c.args.k _
    (elim c.if-from-self.branch [ then-from-self w ↦ grind (arith, nat_tests) | else-from-self w ↦ grind (arith, nat_tests) ])
