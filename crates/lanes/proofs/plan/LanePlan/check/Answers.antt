use Rattle.std.proofs.Common.{refl, arith}
use Rattle.std.proofs.lemmas.Bool.{both_ways}
use Rattle.lanes.specs.Records.{all_fair}
use Rattle.lanes.proofs.FairFacts.{is_fair, fair_is}
use Rattle.lanes.proofs.plan.LanePlan.check.Goals as goal

pub returns-then-not-all_fair-clause-fits : goal.returns-then-not-all_fair-clause-fits
returns-then-not-all_fair-clause-fits g c =
    let p = c.args.places in let rs = c.args.lanes.now in
    (λ q. absurd (cc), λ f. absurd (both_ways (all_fair p rs) (cc) (fair_is p rs f.fair)))

pub returns-clause-fits : goal.returns-clause-fits
returns-clause-fits g c =
    let p = c.args.places in let rs = c.args.lanes.now in
    (λ q. record { some_place = omega arith; few_places = omega arith; few_lanes = omega arith; fair = is_fair p rs (cc) }, λ f. refl)
