use Rattle.std.proofs.Common.{◌∷◌, [], ◌++◌, codes, arith}
use Rattle.std.proofs.lemmas.Grind.{common_steps}
use Rattle.std.specs.Fmt.{WritesOnOk}
use Rattle.std.specs.List.{flat_map}
use Rattle.jobtext.specs.LineTexts.{spaced}
use Rattle.jobtext.proofs.TextFacts.{joined_some}
use Rattle.jobtext.proofs.text.write_route.Goals as goal

pub returns : goal.returns
returns g c =
    let wrote : WritesOnOk g.W.Write.write_str_gives c.args.f.now c.writeln.result (codes "ok" ++ ((spaced c.args.toll ++ (spaced c.args.count ++ flat_map spaced c.args.way.now)) ++ (10 ∷ []))) c.writeln.new.self = grind (arith, common_steps) in
    rw (joined_some c.args.way.now) wrote
