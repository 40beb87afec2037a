use Rattle.lanes.proofs.PlanFacts.{plan_laws}
use Rattle.lanes.proofs.plan.floored.LanePlanFloor.laws_hold.Goals as goal

pub returns : goal.returns
returns g c = plan_laws g.T.Toll.tolls c.args.self.now g.met.T.Toll.lawful
