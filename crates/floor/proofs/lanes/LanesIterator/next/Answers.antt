use Rattle.std.proofs.Common.{length, sym, ap, ◌∙◌, arith}
use Rattle.floor.specs.LanesLeft.{asked}
use Rattle.floor.proofs.LaneSteps.{drop_at, asked_below}
use Rattle.floor.proofs.lanes.LanesIterator.next.Goals as goal

pub overflow_add-self : goal.overflow_add-self
overflow_add-self g c =
    let it = c.args.self.now in
    omega (arith, asked_below (g.F.Floor.meaning it.floor.now) it.which it.k c.in_ok-lane.lane c.laws_hold.ensures (sym c.ask.ensures ∙ c.in_ok-lane.was))

pub returns-clause-steps : goal.returns-clause-steps
returns-clause-steps g c =
    let it = c.args.self.now in
    drop_at (asked (g.F.Floor.meaning it.floor.now) it.which) it.k c.in_ok-lane.lane (sym c.ask.ensures ∙ c.in_ok-lane.was)

pub returns-clause-goes : goal.returns-clause-goes
returns-clause-goes g c =
    let it = c.args.self.now in
    let e = ap length (drop_at (asked (g.F.Floor.meaning it.floor.now) it.which) it.k c.in_ok-lane.lane (sym c.ask.ensures ∙ c.in_ok-lane.was)) in
    record { on = λ _. (tt, tt, omega arith); keeps = tt; rests = λ _. tt }
