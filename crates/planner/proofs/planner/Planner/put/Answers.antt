use Rattle.std.proofs.Common.{ℕ, Ok, sym, ap, ◌∙◌}
use Rattle.planner.specs.Served.{slip_by, parked_at}
use Rattle.planner.proofs.Calling.{put_keeps}
use Rattle.planner.proofs.planner.Planner.put.Goals as goal

pub returns-in-Ok : goal.returns-in-Ok
returns-in-Ok g c =
    let e = ap (λ (n : ℕ). Ok n) c.from.ensures ∙ sym c.in-Ok.is ∙ c.known.ensures in
    let f = ap (slip_by parked_at (parked_at c.args.slip.place)) e in
    record { answer = e; slip = f; promise = λ m. put_keeps g.met.T.Toll.lawful m c.args.self.now c.args.slip.place c.args.place e f }

pub returns-in-Err : goal.returns-in-Err
returns-in-Err g c =
    let e = sym c.in-Err.is ∙ c.known.ensures in
    let f = ap (slip_by parked_at (parked_at c.args.slip.place)) e in
    record { answer = e; slip = f; promise = λ m. put_keeps g.met.T.Toll.lawful m c.args.self.now c.args.slip.place c.args.place e f }
