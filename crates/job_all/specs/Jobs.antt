-- A whole job: what each line answers and leaves, and what all lines print.
-- Stage                        where a job stands between two lines: no floor yet, or a world and the carrier's slip
-- call_of, answer_line         the call that a line makes, and the text of its answer
-- opened                       a line while there is no floor
-- served_text                  a line once there is a floor
-- stepped s l                  the line l where the job stands at s: the answer line, and where the job stands then
-- lines_text, job_text         what some lines print, and what a job prints
-- opened_under, served_under, stepped_under, lines_under, job_under       the same of a job that serves the lines that are allowed where it stands
use Rattle.std.specs.Prelude.{◌≡◌, ℕ, ◌*◌, Bool, cond, List, [], ◌∷◌, ◌++◌, length, take, replicate, Some, None, Ok, Err, Option, Result, nat_lt}
use Rattle.std.specs.Option.{option_map}
use Rattle.toll.specs.SecondsKind.{seconds, seconds_kind}
use Rattle.toll.specs.Refusals.{number_of}
use Rattle.toll.specs.declared.seconds.Seconds.{Seconds}
use Rattle.toll.specs.declared.refusal.Refusal.{Refusal}
use Rattle.toll.specs.declared.refusal.Refusal.TheVariants.{FloorSize, BadLine, NotNow}
use Rattle.floor.specs.Grid.{hall_size, grid_meaning, hall_meaning}
use Rattle.planner.specs.Calls.{set_up_answer}
use Rattle.planner.specs.Served.{World, Served, turn_of, parked_at, served}
use Rattle.planner.specs.Reachable.{Start, start_world}
use Rattle.planner.specs.declared.answers.Answer.{Answer}
use Rattle.planner.specs.declared.answers.Answer.TheVariants.{Refused, Done, Place}
use Rattle.planner.specs.declared.answers.Answer.TheVariants as answer
use Rattle.planner.specs.declared.call.Call.{Call}
use Rattle.planner.specs.declared.call.Call.TheVariants as call
use Rattle.planner.specs.declared.carrier.Carrier.{Carrier}
use Rattle.planner.specs.declared.carrier.Carrier.TheVariants as carrier
use Rattle.jobtext.specs.Texts.{ok_line, no_line, route_line}
use Rattle.jobtext.specs.Lines.{lines}
use Rattle.jobtext.specs.Parsing.{parse_line}
use Rattle.jobtext.specs.declared.line.Line.{Line}
use Rattle.jobtext.specs.declared.line.Line.TheVariants.{Floor, Change, Put, Route, Step, Halt, Query, Tally}
use Rattle.job_all.specs.declared.standing.Standing.{Standing}
use Rattle.job_all.specs.declared.standing.Standing.TheVariants.{Empty, Parked, UnderWay}
use Rattle.job_all.specs.declared.opening.Opening.{Opening}
use Rattle.job_all.specs.Decisions.{allowed_now, decided_under}

-- where a job stands between two lines: no floor yet and a table of that many records, or a world and the carrier's slip
pub data Stage : Type 0 where
  empty : (records : ℕ) → Stage
  running : World Seconds → Carrier → Stage

-- what a line leaves and prints
pub record Stepped : Type 0 where
  pub stage : Stage
  pub text : List ℕ

-- the answer line of a refusal
abbrev pub refusal_line : Refusal → List ℕ
refusal_line why = no_line (number_of why)

-- the answer line of a call; the way of a route stands at the front of the buffer
abbrev pub answer_line : Answer Seconds → (buffer : List ℕ) → List ℕ
answer_line (Refused why) buffer = refusal_line why
answer_line Done buffer = ok_line []
answer_line (answer.Route a) buffer = route_line a.toll.value a.count (take a.length buffer)
answer_line (Place p) buffer = ok_line (Some p ∷ [])
answer_line (answer.Reading r) buffer = ok_line (option_map (λ t. t.value) r.toll ∷ r.next ∷ [])
answer_line (answer.Tally n) buffer = ok_line (Some n ∷ [])

-- the call that a line makes; a floor line makes none
abbrev pub call_of : Line → Option (Call Seconds)
call_of (Floor rows columns least target place) = None
call_of (Change spot toll) = Some (call.Change spot (seconds toll))
call_of (Put place) = Some (call.Put place)
call_of Route = Some call.Route
call_of Step = Some call.Step
call_of Halt = Some call.Halt
call_of (Query place) = Some (call.Read place)
call_of Tally = Some call.Tally

-- an accepted floor line, with a table of n records
abbrev pub start_of : ℕ → Opening → Start Seconds
start_of n o = record { floor = hall_meaning o.hall; records = n; target = o.target; place = o.place }

-- accepted, if a planner can be set up
abbrev pub settled : Start Seconds → Result (Unit {0}) Refusal → Result (Start Seconds) Refusal
settled s (Ok _) = Ok s
settled s (Err why) = Err why

-- a floor line, by whether its size can be made
abbrev pub sized : Start Seconds → Bool → Result (Start Seconds) Refusal
sized s fits = cond fits (settled s (set_up_answer s.records s.floor.places s.target s.place)) (Err FloorSize)

-- a hall with every cell at its least toll, a table of n records, the target and the carrier's place
abbrev pub floor_start : (n rows columns least target place : ℕ) → Start Seconds
floor_start n rows columns least target place =
    record { floor = grid_meaning rows columns (seconds least) (replicate (rows * columns) (seconds least)); records = n; target = target; place = place }

-- a line while there is no floor and a table of n records
abbrev pub opened : ℕ → Line → Result (Start Seconds) Refusal
opened n (Floor rows columns least target place) = sized (floor_start n rows columns least target place) (hall_size rows columns)
opened n (Change spot toll) = Err NotNow
opened n (Put place) = Err NotNow
opened n Route = Err NotNow
opened n Step = Err NotNow
opened n Halt = Err NotNow
opened n (Query place) = Err NotNow
opened n Tally = Err NotNow

-- the same, where the line may be refused
abbrev pub opened_by : ℕ → Result Line Refusal → Result (Start Seconds) Refusal
opened_by n (Err why) = Err why
opened_by n (Ok l) = opened n l

-- by its text, in a job that serves the lines that are allowed where it stands
abbrev pub opened_under : (ℕ → Standing → Bool) → ℕ → List ℕ → Result (Start Seconds) Refusal
opened_under allowed n l = opened_by n (decided_under allowed Empty (parse_line l))

abbrev pub opened_text : ℕ → List ℕ → Result (Start Seconds) Refusal
opened_text = opened_under allowed_now

-- an accepted floor line answers the number of places, and the carrier is parked
abbrev pub opened_stage : ℕ → Result (Start Seconds) Refusal → Stepped
opened_stage n (Ok s) = record { stage = running (start_world seconds_kind s) (parked_at s.place); text = ok_line (Some s.floor.places ∷ []) }
opened_stage n (Err why) = record { stage = empty n; text = refusal_line why }

-- the opening, if there is one, is the accepted start
abbrev pub found_by : ℕ → Result (Start Seconds) Refusal → Option Opening → Type 0
found_by n (Ok s) None = ⊥
found_by n (Ok s) (Some o) = start_of n o ≡ s
found_by n (Err why) None = Unit {0}
found_by n (Err why) (Some o) = ⊥

abbrev pub standing_of : Carrier → Standing
standing_of (carrier.Parked p) = Parked
standing_of (carrier.UnderWay p) = UnderWay

-- a line once there is a floor: the world and the slip after it, and its answer line
pub record LineServed : Type 0 where
  pub world : World Seconds
  pub slip : Carrier
  pub text : List ℕ

-- a call that was served, as a line
abbrev pub as_line : Served Seconds → LineServed
as_line d = record { world = d.world; slip = d.slip; text = answer_line d.answer d.buffer }

-- a line that is refused alters nothing
abbrev pub refused : World Seconds → Carrier → Refusal → LineServed
refused W slip why = record { world = W; slip = slip; text = refusal_line why }

-- a call; its buffer has an entry for each place that a hall can have
abbrev pub served_call : World Seconds → Carrier → Option (Call Seconds) → LineServed
served_call W slip None = refused W slip NotNow
served_call W slip (Some c) = as_line (served seconds_kind W (turn_of slip c (replicate 1024 0)))

abbrev pub served_by : World Seconds → Carrier → Result Line Refusal → LineServed
served_by W slip (Err why) = refused W slip why
served_by W slip (Ok l) = served_call W slip (call_of l)

-- a line by its text, in a job that serves the lines that are allowed where it stands
abbrev pub served_under : (ℕ → Standing → Bool) → World Seconds → Carrier → List ℕ → LineServed
served_under allowed W slip l = served_by W slip (decided_under allowed (standing_of slip) (parse_line l))

abbrev pub served_text : World Seconds → Carrier → List ℕ → LineServed
served_text = served_under allowed_now

abbrev pub served_stage : LineServed → Stepped
served_stage d = record { stage = running d.world d.slip; text = d.text }

-- one line of such a job
abbrev pub stepped_under : (ℕ → Standing → Bool) → Stage → List ℕ → Stepped
stepped_under allowed (empty n) l = opened_stage n (opened_under allowed n l)
stepped_under allowed (running W slip) l = served_stage (served_under allowed W slip l)

-- what some of its lines print, one after the other
abbrev pub lines_under : (ℕ → Standing → Bool) → Stage → List (List ℕ) → List ℕ
lines_under allowed s [] = []
lines_under allowed s (l ∷ ls) = (stepped_under allowed s l).text ++ lines_under allowed (stepped_under allowed s l).stage ls

-- what it prints: an over-long job is refused as a whole
abbrev pub job_under : (ℕ → Standing → Bool) → List ℕ → List ℕ
job_under allowed text = cond (nat_lt 65536 (length text)) (refusal_line BadLine) (lines_under allowed (empty 1024) (lines text))

-- the same of a job that serves every line in its turn
abbrev pub stepped : Stage → List ℕ → Stepped
stepped = stepped_under allowed_now

abbrev pub lines_text : Stage → List (List ℕ) → List ℕ
lines_text = lines_under allowed_now

abbrev pub job_text : List ℕ → List ℕ
job_text = job_under allowed_now
