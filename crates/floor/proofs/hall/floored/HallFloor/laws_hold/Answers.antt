use Rattle.floor.proofs.HallFacts.{lawful}
use Rattle.floor.proofs.hall.floored.HallFloor.laws_hold.Goals as goal

pub returns : goal.returns
returns c = lawful c.args.self.now
