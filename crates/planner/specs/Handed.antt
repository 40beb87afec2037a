-- What the code's calls hand back, as the answer and the slip of a call.
-- moved_answer, moved_slip       of a call that moves a slip: its answer, and the slip that it hands over or back
use Rattle.std.specs.Prelude.{ℕ, Ok, Err, Result}
use Rattle.toll.specs.declared.refusal.Refusal.{Refusal}
use Rattle.planner.specs.declared.answers.Answer.{Answer}
use Rattle.planner.specs.declared.answers.Answer.TheVariants.{Done, Place}
use Rattle.planner.specs.declared.answers.Answer.TheVariants as answer
use Rattle.planner.specs.declared.answers.Route.{Route}
use Rattle.planner.specs.declared.answers.Reading.{Reading}
use Rattle.planner.specs.declared.slips.Parked.{Parked}
use Rattle.planner.specs.declared.slips.UnderWay.{UnderWay}
use Rattle.planner.specs.declared.carrier.Carrier.{Carrier}
use Rattle.planner.specs.declared.carrier.Carrier.TheVariants as carrier
use Rattle.planner.specs.Served.{answer_by}

-- a call that moves a slip hands over a new one, or hands back the one that it took
abbrev pub moved_answer : {X Y S : Type 0} → (X → Y) → Result X (S × Refusal) → Result Y Refusal
moved_answer f (Ok x) = Ok (f x)
moved_answer f (Err back) = Err back.1

abbrev pub moved_slip : {X S : Type 0} → (X → Carrier) → (S → Carrier) → Result X (S × Refusal) → Carrier
moved_slip f g (Ok x) = f x
moved_slip f g (Err back) = g back.0

-- a put: the place of the slip that it hands over
abbrev pub put_place : Result Parked (Parked × Refusal) → Result ℕ Refusal
put_place r = moved_answer (λ p. p.place) r

abbrev pub put_slip : Result Parked (Parked × Refusal) → Carrier
put_slip r = moved_slip carrier.Parked carrier.Parked r

-- a step: the place of the slip that it hands over
abbrev pub step_place : Result UnderWay (UnderWay × Refusal) → Result ℕ Refusal
step_place r = moved_answer (λ p. p.place) r

abbrev pub step_slip : Result UnderWay (UnderWay × Refusal) → Carrier
step_slip r = moved_slip carrier.UnderWay carrier.UnderWay r

-- a route
abbrev pub route_carrier : {T : Type 0} → Result (UnderWay × Route T) (Parked × Refusal) → Carrier
route_carrier r = moved_slip (λ x. carrier.UnderWay x.0) carrier.Parked r

-- what each kind of result answers
abbrev pub moved_done : {T : Type 0} → Result ℕ Refusal → Answer T
moved_done r = answer_by (λ q. Done) r

abbrev pub place_done : {T : Type 0} → Result ℕ Refusal → Answer T
place_done r = answer_by Place r

abbrev pub route_done : {T : Type 0} → Result (Route T) Refusal → Answer T
route_done r = answer_by answer.Route r

abbrev pub change_done : {T : Type 0} → Result (Unit {0}) Refusal → Answer T
change_done r = answer_by (λ u. Done) r

abbrev pub read_done : {T : Type 0} → Result (Reading T) Refusal → Answer T
read_done r = answer_by answer.Reading r
