use Rattle.std.proofs.Common.{rules, tests}
use Rattle.std.proofs.lemmas.Iterator.Search.{any_from_yields_List}
use Rattle.floor.specs.Meaning.{into}
use Rattle.tree.specs.Tree.{marks_of}
use Rattle.repair.specs.Cut.{leaves_marked}
use Rattle.floor.proofs.LaneSteps.{lanes_come}
use Rattle.repair.proofs.cut.beside_marked.Goals as goal

pub returns : goal.returns
returns g c =
    let m = g.F.Floor.meaning c.args.floor.now in
    any_from_yields_List (λ l. leaves_marked (marks_of c.args.table.now) (m.lane l)) c.any.new.self _ c.any.result c.any.ensures.ran (lanes_come g.F.Floor.meaning c.into.result (into m c.args.place) c.into.ensures) (λ x b q k. search (rules, tests))
