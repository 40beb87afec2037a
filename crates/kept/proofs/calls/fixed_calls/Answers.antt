use Rattle.std.proofs.Common.{◌≡◌, [], replicate, refl, ap, ◌∙◌, subst}
use Rattle.toll.specs.SecondsKind.{seconds}
use Rattle.toll.specs.declared.seconds.Seconds.{Seconds}
use Rattle.floor.specs.Meaning.{Meaning}
use Rattle.floor.specs.Grid.{grid_meaning, hall_meaning}
use Rattle.planner.specs.declared.call.Call.TheVariants.{Change}
use Rattle.planner.specs.Calls.{set_up_answer}
use Rattle.planner.specs.Reachable.{Start}
use Rattle.kept.specs.Fixed.{KeptFrom}
use Rattle.kept.proofs.calls.fixed_calls.Goals as goal

pub returns : goal.returns
returns c =
    let h = hall_meaning c.in-Ok.hall in
    let hall : h ≡ grid_meaning 2 3 (seconds 1) (replicate 6 (seconds 1)) = c.in-Ok.ensures.1 ∙ ap (λ (t : Seconds). grid_meaning 2 3 t (replicate 6 t)) c.new.ensures in
    let s : Start Seconds = record { floor = h; records = 6; target = 2; place = 0 } in
    let set_up_lem = c.make-planner.ensures.reachable (ap (λ (m : Meaning Seconds). set_up_answer 6 m.places 2 0) hall) in
    let route = c.serve-carrier.ensures.promise s [] set_up_lem in
    let halt = c.serve-carrier-2.ensures.promise s _ route.reachable in
    let change = c.serve-carrier-3.ensures.promise s _ halt.reachable in
    let again = c.serve-answer.ensures.promise s _ change.reachable in
    let all : KeptFrom s c.serve-answer.result.1 = record {
      route = record { world = _; turn = _; asked = refl; done = _; kept = route };
      halt = record { world = _; turn = _; asked = refl; done = _; kept = halt };
      change = record { world = _; turn = _; asked = ap (λ (t : Seconds). Change 1 t) c.new-2.ensures; done = _; kept = change };
      again = record { world = _; turn = _; asked = refl; done = _; kept = again };
      answers = refl;
    } in
    subst (λ (m : Meaning Seconds). KeptFrom (record { floor = m; records = 6; target = 2; place = 0 }) c.serve-answer.result.1) hall all
