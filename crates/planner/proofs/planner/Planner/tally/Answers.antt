use Rattle.std.proofs.Common.{refl}
use Rattle.planner.proofs.Calling.{tally_keeps}
use Rattle.planner.proofs.planner.Planner.tally.Goals as goal

pub returns : goal.returns
returns g c = record { answer = refl; promise = λ m. tally_keeps g.met.T.Toll.lawful m c.args.self.now }
