use Rattle.std.proofs.Common.{sym, ◌∙◌, rules, tests}
use Rattle.std.proofs.lemmas.Iterator.Adapters.{option_map_id}
use Rattle.std.proofs.lemmas.Iterator.Search.{find_from_yields_List}
use Rattle.floor.specs.Meaning.{has, out_of}
use Rattle.floor.proofs.LaneSteps.{lanes_come}
use Rattle.tree.proofs.way.toll_between.Goals as goal

pub returns : goal.returns
returns g c =
    let m = g.F.Floor.meaning c.args.floor.now in
    let e = sym (option_map_id c.find.result)
    ∙ find_from_yields_List (λ l. has (λ x. x.enters) c.args.to (m.lane l)) c.find.new.self _ c.find.result c.find.ensures.ran (lanes_come g.F.Floor.meaning c.out_of.result (out_of m c.args.from) c.out_of.ensures) (λ x b q k. search (rules, tests)) in
    search (rules, tests)
