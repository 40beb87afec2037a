use Rattle.lanes.proofs.StoreFacts.{set_retolled}
use Rattle.lanes.proofs.plan.floored.rewrite.Goals as goal

pub returns : goal.returns
returns g c = set_retolled c.args.lanes.now c.args.k _ c.args.toll
