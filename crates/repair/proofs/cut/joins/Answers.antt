use Rattle.std.proofs.Common.{rules, tests}
use Rattle.std.proofs.lemmas.Iterator.Search.{any_from_yields_List}
use Rattle.floor.specs.Meaning.{of_spot}
use Rattle.repair.specs.Cut.{leads}
use Rattle.floor.proofs.LaneSteps.{lanes_come}
use Rattle.repair.proofs.cut.joins.Goals as goal

pub returns : goal.returns
returns g c =
    let m = g.F.Floor.meaning c.args.floor.now in
    any_from_yields_List (λ l. leads c.args.from c.args.to (m.lane l)) c.any.new.self _ c.any.result c.any.ensures.ran (lanes_come g.F.Floor.meaning c.of_spot.result (of_spot m c.args.spot) c.of_spot.ensures) (λ x b q k. search (rules, tests))
