-- The worlds that the lines of a job lead to, and their halls.
use Rattle.std.proofs.Common.{◌≡◌, ℕ, true, false, cond, eqb, ◌⊎◌, List, [], ◌∷◌, length, replicate, Some, None, Ok, Err, Option, Result, sym, refl, ap, ◌∙◌, subst, inl, inr, ⊎_elim}
use Rattle.toll.specs.SecondsKind.{seconds, seconds_kind}
use Rattle.toll.specs.declared.seconds.Seconds.{Seconds}
use Rattle.toll.specs.declared.refusal.Refusal.{Refusal}
use Rattle.toll.specs.declared.refusal.Refusal.TheVariants.{OtherFloor, NotNow}
use Rattle.floor.specs.Meaning.{Meaning}
use Rattle.floor.specs.Setting.{set_answer}
use Rattle.planner.specs.Calls.{route_refused, route_by, change_by}
use Rattle.planner.specs.Served.{World, Turn, turn_of, served_change, served_with, served}
use Rattle.planner.specs.Reachable.{Start, Event, event_of, Reachable, and_then}
use Rattle.planner.specs.declared.call.Call.{Call}
use Rattle.planner.specs.declared.call.Call.TheVariants as call
use Rattle.planner.specs.declared.carrier.Carrier.{Carrier}
use Rattle.planner.specs.declared.carrier.Carrier.TheVariants as carrier
use Rattle.jobtext.specs.LineTexts.{letter}
use Rattle.jobtext.specs.Parsing.{parse_line}
use Rattle.jobtext.specs.declared.line.Line.{Line}
use Rattle.jobtext.specs.declared.line.Line.TheVariants.{Floor, Change, Put, Route, Step, Halt, Query, Tally}
use Rattle.job_all.specs.Decisions.{allowed_now, decided}
use Rattle.job_all.specs.Jobs.{Stage, running, call_of, as_line, standing_of, served_call, served_by, served_text}
use Rattle.job_all.specs.JobLaws.{Exchange, change_of, changes, changed_by, stage_after}
use Rattle.job_all.proofs.HallChanges.{HallOf, Size, hall_lawful, hall_set}
use Rattle.job_all.proofs.Logs.{log_from, changed_append}

-- a change, by what setting the toll answers: it is told to be accepted exactly if the floor takes the toll
module _ (W : World Seconds) (s k b : ℕ) where
  change_told : (r : Result (Unit {0}) Refusal) → (change_by seconds_kind W.floor W.planner k (seconds b) r).floor ≡
      changed_by W.floor (change_of (Some (Change k b)) (as_line (served_change s (replicate 1024 0) (change_by seconds_kind W.floor W.planner k (seconds b) r))).text)
  change_told (Ok u) = refl
  change_told (Err why) = refl

-- the floor after a line has the tolls of the change that it tells, if it is one
module _ (W : World Seconds) where
  allowed_told : (c : Carrier) (l : Line) → (served_call W c (call_of l)).world.floor ≡ changed_by W.floor (change_of (Some l) (served_call W c (call_of l)).text)
  allowed_told c (Floor rows columns least target place) = refl
  allowed_told (carrier.Parked p) (Change k b) = change_told W p.place k b (cond (eqb W.floor.places (length W.planner.tree)) (set_answer seconds_kind W.floor k (seconds b)) (Err OtherFloor))
  allowed_told (carrier.UnderWay p) (Change k b) = refl
  allowed_told (carrier.Parked p) (Put q) = refl
  allowed_told (carrier.UnderWay p) (Put q) = refl
  allowed_told (carrier.Parked p) Route = refl
  allowed_told (carrier.UnderWay p) Route = refl
  allowed_told (carrier.Parked p) Step = refl
  allowed_told (carrier.UnderWay p) Step = refl
  allowed_told (carrier.Parked p) Halt = refl
  allowed_told (carrier.UnderWay p) Halt = refl
  allowed_told (carrier.Parked p) (Query q) = refl
  allowed_told (carrier.UnderWay p) (Query q) = refl
  allowed_told (carrier.Parked p) Tally = refl
  allowed_told (carrier.UnderWay p) Tally = refl

  refused_told : (c : Carrier) (l : Line) → W.floor ≡ changed_by W.floor (change_of (Some l) (served_by W c (Err NotNow)).text)
  refused_told c (Floor rows columns least target place) = refl
  refused_told c (Change k b) = refl
  refused_told c (Put q) = refl
  refused_told c Route = refl
  refused_told c Step = refl
  refused_told c Halt = refl
  refused_told c (Query q) = refl
  refused_told c Tally = refl

  read_told : (c : Carrier) (o : Option Line) → (served_by W c (decided (standing_of c) o)).world.floor ≡ changed_by W.floor (change_of o (served_by W c (decided (standing_of c) o)).text)
  read_told c None = refl
  read_told c (Some l) =
      elim (allowed_now (letter l) (standing_of c)) as (λ b. (served_by W c (cond b (Ok l) (Err NotNow))).world.floor ≡ changed_by W.floor (change_of (Some l) (served_by W c (cond b (Ok l) (Err NotNow))).text))
      [ true ↦ allowed_told c l | false ↦ refused_told c l ]

  line_told : (c : Carrier) (l : List ℕ) → (served_text W c l).world.floor ≡ changed_by W.floor (change_of (parse_line l) (served_text W c l).text)
  line_told c l = read_told c (parse_line l)

-- a line leaves the world as it was, or makes a call
abbrev Made : World Seconds → World Seconds → Type 0
Made W V = (V ≡ W) ⊎ ((turn : Turn Seconds) × (V ≡ (served seconds_kind W turn).world))

call_made : (W : World Seconds) (c : Carrier) (k : Option (Call Seconds)) → Made W (served_call W c k).world
call_made W c None = inl refl
call_made W c (Some k) = inr (turn_of c k (replicate 1024 0), refl)

line_made : (W : World Seconds) (c : Carrier) (r : Result Line Refusal) → Made W (served_by W c r).world
line_made W c (Ok l) = call_made W c (call_of l)
line_made W c (Err why) = inl refl

-- a reachable world on a hall of that size
pub record Reached (start : Start Seconds) (rows columns : ℕ) (least : Seconds) (W : World Seconds) : Type 0 where
  pub calls : List (Event Seconds)
  pub by : Reachable seconds_kind start calls W
  pub hall : HallOf rows columns least W.floor
  pub aim : W.planner.target ≡ start.target

module _ (W : World Seconds) where
  change_aim : (k : ℕ) (b : Seconds) (r : Result (Unit {0}) Refusal) → (change_by seconds_kind W.floor W.planner k b r).state.target ≡ W.planner.target
  change_aim k b (Ok u) = refl
  change_aim k b (Err why) = refl

  route_aim : (s : ℕ) (buffer : List ℕ) (o : Option Refusal) → (route_by seconds_kind W.floor W.planner s buffer o).state.target ≡ W.planner.target
  route_aim s buffer None = refl
  route_aim s buffer (Some why) = refl

  call_aim : (buffer : List ℕ) (c : Carrier) (k : Call Seconds) → (served_with seconds_kind W buffer c k).world.planner.target ≡ W.planner.target
  call_aim buffer (carrier.Parked p) (call.Change k b) = change_aim k b (cond (eqb W.floor.places (length W.planner.tree)) (set_answer seconds_kind W.floor k b) (Err OtherFloor))
  call_aim buffer (carrier.Parked p) (call.Put q) = refl
  call_aim buffer (carrier.Parked p) call.Route = route_aim p.place buffer (route_refused (length W.planner.tree) W.floor.places (length buffer) p.place)
  call_aim buffer (carrier.Parked p) call.Step = refl
  call_aim buffer (carrier.Parked p) call.Halt = refl
  call_aim buffer (carrier.Parked p) (call.Read q) = refl
  call_aim buffer (carrier.Parked p) call.Tally = refl
  call_aim buffer (carrier.UnderWay p) (call.Change k b) = refl
  call_aim buffer (carrier.UnderWay p) (call.Put q) = refl
  call_aim buffer (carrier.UnderWay p) call.Route = refl
  call_aim buffer (carrier.UnderWay p) call.Step = refl
  call_aim buffer (carrier.UnderWay p) call.Halt = refl
  call_aim buffer (carrier.UnderWay p) (call.Read q) = refl
  call_aim buffer (carrier.UnderWay p) call.Tally = refl

module _ (start : Start Seconds) {rows columns : ℕ} (Z : Size rows columns) (least : Seconds) where
  module _ (W : World Seconds) (H : HallOf rows columns least W.floor) where
    change_hall : (k : ℕ) (b : Seconds) (r : Result (Unit {0}) Refusal) → HallOf rows columns least (change_by seconds_kind W.floor W.planner k b r).floor
    change_hall k b (Ok u) = hall_set Z least H k b
    change_hall k b (Err why) = H

    call_hall : (buffer : List ℕ) (c : Carrier) (k : Call Seconds) → HallOf rows columns least (served_with seconds_kind W buffer c k).world.floor
    call_hall buffer (carrier.Parked p) (call.Change k b) = change_hall k b (cond (eqb W.floor.places (length W.planner.tree)) (set_answer seconds_kind W.floor k b) (Err OtherFloor))
    call_hall buffer (carrier.Parked p) (call.Put q) = H
    call_hall buffer (carrier.Parked p) call.Route = H
    call_hall buffer (carrier.Parked p) call.Step = H
    call_hall buffer (carrier.Parked p) call.Halt = H
    call_hall buffer (carrier.Parked p) (call.Read q) = H
    call_hall buffer (carrier.Parked p) call.Tally = H
    call_hall buffer (carrier.UnderWay p) (call.Change k b) = H
    call_hall buffer (carrier.UnderWay p) (call.Put q) = H
    call_hall buffer (carrier.UnderWay p) call.Route = H
    call_hall buffer (carrier.UnderWay p) call.Step = H
    call_hall buffer (carrier.UnderWay p) call.Halt = H
    call_hall buffer (carrier.UnderWay p) (call.Read q) = H
    call_hall buffer (carrier.UnderWay p) call.Tally = H

  call_reached : (W : World Seconds) → Reached start rows columns least W → (turn : Turn Seconds) → Reached start rows columns least (served seconds_kind W turn).world
  call_reached W R turn =
      let H = call_hall W R.hall turn.buffer turn.slip turn.call in
      record {
        calls = event_of turn (served seconds_kind W turn) ∷ R.calls;
        by = and_then R.by turn (hall_lawful Z least H);
        hall = H;
        aim = call_aim W turn.buffer turn.slip turn.call ∙ R.aim;
      }

  line_reached : (W : World Seconds) (c : Carrier) (l : List ℕ) → Reached start rows columns least W → Reached start rows columns least (served_text W c l).world
  line_reached W c l R = ⊎_elim (λ e. subst (Reached start rows columns least) (sym e) R) (λ m. subst (Reached start rows columns least) (sym m.1) (call_reached W R m.0))
      (line_made W c (decided (standing_of c) (parse_line l)))

  -- where some lines lead from a reached world
  pub record Led (W : World Seconds) (stage : Stage) (log : List Exchange) : Type 0 where
    pub world : World Seconds
    pub slip : Carrier
    pub stands : stage ≡ running world slip
    pub reached : Reached start rows columns least world
    pub floor_is : world.floor ≡ changed_by W.floor (changes log)

  pub lines_led : (ls : List (List ℕ)) (W : World Seconds) (c : Carrier) → Reached start rows columns least W → Led W (stage_after (running W c) ls) (log_from (running W c) ls)
  lines_led [] W c R = record { world = W; slip = c; stands = refl; reached = R; floor_is = refl }
  lines_led (l ∷ ls) W c R =
      let d = served_text W c l in
      let k = lines_led ls d.world d.slip (line_reached W c l R) in
      record {
        world = k.world;
        slip = k.slip;
        stands = k.stands;
        reached = k.reached;
        floor_is =
            k.floor_is ∙ ap (λ (m : Meaning Seconds). changed_by m (changes (log_from (running d.world d.slip) ls))) (line_told W c l)
            ∙ sym (changed_append W.floor (change_of (parse_line l) d.text) (changes (log_from (running d.world d.slip) ls)));
      }
