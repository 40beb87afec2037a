use Rattle.std.proofs.Common.{◌∙◌}
use Rattle.lanes.proofs.PlanFacts.{lane_toll_is}
use Rattle.lanes.proofs.plan.floored.LanePlanFloor.lane_toll.Goals as goal

pub returns : goal.returns
returns g c = let p = c.args.self.now in c.spot_toll.ensures ∙ lane_toll_is g.T.Toll.tolls p.places p.lanes.now c.args.lane
