use Rattle.std.proofs.Common.{arith}
use Rattle.std.proofs.lemmas.Bool.Decides.{nat_tests}
use Rattle.floor.proofs.GridFacts.{next_hop}
use Rattle.floor.proofs.hall.Hall.next.Goals as goal

pub returns-in-Down : goal.returns-in-Down
returns-in-Down c =
    let e = next_hop c.args.self.now.rows c.args.self.now.columns c.args.cell 2 c.requires (omega arith) in grind (arith, nat_tests)
