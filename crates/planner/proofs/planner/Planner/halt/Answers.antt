use Rattle.std.proofs.Common.{refl}
use Rattle.planner.proofs.Calling.{halt_keeps}
use Rattle.planner.proofs.planner.Planner.halt.Goals as goal

pub returns : goal.returns
returns g c = record { slip = refl; promise = λ m. halt_keeps g.met.T.Toll.lawful m c.args.self.now c.args.slip.place }
