use Rattle.std.proofs.Common.{Ok, rules}
use Rattle.planner.proofs.Calling.{read_keeps}
use Rattle.planner.proofs.planner.Planner.read.Goals as goal

pub returns-in_err-place-clause-promise : goal.returns-in_err-place-clause-promise
returns-in_err-place-clause-promise g c = λ m. read_keeps g.met.T.Toll.lawful m c.args.self.now c.args.place (search rules)

pub returns-clause-promise : goal.returns-clause-promise
returns-clause-promise g c = λ m. read_keeps g.met.T.Toll.lawful m c.args.self.now c.args.place {r = Ok (record { toll = c.toll_at.result; next = c.next_at.result })} (search rules)
