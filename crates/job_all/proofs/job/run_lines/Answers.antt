use Rattle.std.proofs.Common.{length, ap, subst, rules}
use Rattle.planner.specs.Calls.{state_of}
use Rattle.planner.specs.Served.{parked_at}
use Rattle.planner.specs.declared.carrier.Carrier.TheVariants.{Parked}
use Rattle.job_all.specs.Jobs.{found_by, opened_under}
use Rattle.job_all.proofs.Running.{still_empty, now_running, one_more}
use Rattle.job_all.proofs.job.run_lines.Goals as goal

pub loop-line-preserved : goal.loop-line-preserved
loop-line-preserved g c =
    let allowed = g.S.Service.allowed in
    let e = c.in_ok-hall.ensures in
    let n = length c.loop-line.table in
    let l = c.in-Some.line.now in
    one_more allowed _ _ _ _ l _ _ _ c.loop-line.invariant c.in-Some.ensures.steps (still_empty allowed n l (subst (found_by n (opened_under allowed n l)) c.in_default-2.is e.opening)) e.text

pub returns-in-Some-2 : goal.returns-in-Some-2
returns-in-Some-2 g c =
    let allowed = g.S.Service.allowed in
    let e = c.in_ok-hall.ensures in
    let n = length c.loop-line.table in
    let l = c.in-Some.line.now in
    let p = c.in-Some-2.field-0 in
    let found = subst (found_by n (opened_under allowed n l)) c.in-Some-2.is e.opening in
    let stage = now_running allowed n l p (state_of c.make-planner.result.0) (Parked c.make-planner.result.1) found c.make-planner.ensures.planner (ap parked_at c.make-planner.ensures.slip) in
    let whole = one_more allowed _ _ _ _ l _ _ _ c.loop-line.invariant c.in-Some.ensures.steps stage e.text in
    search rules
