use Rattle.std.proofs.Common.{rules, ap, sym, ◌∙◌}
use Rattle.std.proofs.lemmas.Iterator.{YieldsList-from_slice, YieldsList-from_map}
use Rattle.std.proofs.lemmas.Iterator.Adapters.{option_map_id}
use Rattle.std.proofs.lemmas.Iterator.Consumers.{nth_from_yields_List, YieldsList-at, YieldsList-from_filter, YieldsList-from_enumerate}
use Rattle.lanes.proofs.plan.LanePlan.nth_lane.Goals as goal

pub returns : goal.returns
returns g c p says =
    sym (option_map_id c.nth.result)
    ∙ nth_from_yields_List c.nth.result _ c.args.k (rw c.from.ensures at c.nth.ensures.ran)
    (YieldsList-from_map _ (λ e. e.0) (YieldsList-at c.map.ensures.source (YieldsList-from_filter _ (λ e. p e.1) (YieldsList-at c.filter.ensures.source (YieldsList-from_enumerate (YieldsList-from_slice c.args.self.now.lanes.now (cc)) (cc))) c.filter.ensures.closure (λ x b q k. (search rules, says x.1.now b (record { shown = k.shown.now.1; shows = ap (λ e. e.1.now) k.shows; says = record { met = search rules } })))))
    c.map.ensures.closure (λ x r q k. search rules))
