use Rattle.std.proofs.Common.{rules, ◌==◌, ap, ◌∙◌}
use Rattle.std.specs.List.{slice_get}
use Rattle.lanes.proofs.ScanFacts.{entering}
use Rattle.lanes.proofs.plan.floored.LanePlanFloor.lane_into.Goals as goal

pub returns : goal.returns
returns g c =
    let p = c.args.self.now in
    c.nth_lane.ensures (λ r. r.enters == c.args.place) (λ r b q. search rules)
    ∙ ap (λ ls. slice_get ls c.args.k) (entering g.T.Toll.tolls p.places p.lanes.now c.args.place)
