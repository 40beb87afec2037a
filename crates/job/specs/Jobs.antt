-- A whole job: what each line answers, and what all lines print.
-- Start, start_of, opened      a floor line that is accepted
-- Slip, slip_of                where the carrier is, parked or under way
-- Served, served               one line once there is a floor: the planner and the slip after it, and its answer line
-- job_text                     what a job prints
use Rattle.std.specs.Prelude.{◌≡◌, ℕ, ◌*◌, Bool, cond, List, [], ◌∷◌, ◌++◌, length, take, replicate, Some, None, Ok, Err, Option, Result, nat_lt}
use Rattle.std.specs.Option.{option_map}
use Rattle.toll.specs.SecondsKind.{seconds, seconds_kind}
use Rattle.toll.specs.Refusals.{number_of}
use Rattle.toll.specs.declared.seconds.Seconds.{Seconds}
use Rattle.toll.specs.declared.refusal.Refusal.{Refusal}
use Rattle.toll.specs.declared.refusal.Refusal.TheVariants.{FloorSize, BadLine, NotNow}
use Rattle.floor.specs.Meaning.{Meaning}
use Rattle.floor.specs.Grid.{hall_size, grid_meaning, hall_meaning}
use Rattle.planner.specs.Calls.{State, set_up_answer, set_up_state, read_answer, Routed, routed}
use Rattle.planner.specs.declared.answers.Reading.{Reading}
use Rattle.planner.specs.declared.answers.Route.{Route}
use Rattle.jobtext.specs.Texts.{ok_line, no_line, route_line}
use Rattle.jobtext.specs.Lines.{lines}
use Rattle.jobtext.specs.Parsing.{parse_line}
use Rattle.jobtext.specs.declared.line.Line.{Line}
use Rattle.jobtext.specs.declared.line.Line.TheVariants.{Floor, Change, Put, Step, Halt, Query, Tally}
use Rattle.jobtext.specs.declared.line.Line.TheVariants as line
use Rattle.job_all.specs.declared.standing.Standing.{Standing}
use Rattle.job_all.specs.declared.standing.Standing.TheVariants.{Empty, Parked, UnderWay}
use Rattle.planner.specs.declared.carrier.Carrier.{Carrier}
use Rattle.planner.specs.declared.carrier.Carrier.TheVariants as carrier
use Rattle.job_all.specs.declared.opening.Opening.{Opening}
use Rattle.job.specs.Decisions.{decided}

-- the answer line of a refusal
abbrev pub refusal_line : Refusal → List ℕ
refusal_line why = no_line (number_of why)

-- an accepted floor line: the hall, the target and the carrier's place
pub record Start : Type 0 where
  pub hall : Meaning Seconds
  pub target : ℕ
  pub place : ℕ

abbrev pub start_of : Opening → Start
start_of o = record { hall = hall_meaning o.hall; target = o.target; place = o.place }

-- accepted, if a planner with a table of n records can be set up
abbrev pub settled : Start → Result (Unit {0}) Refusal → Result Start Refusal
settled s (Ok _) = Ok s
settled s (Err why) = Err why

-- a floor line, by whether its size can be made
abbrev pub sized : ℕ → Start → Bool → Result Start Refusal
sized n s fits = cond fits (settled s (set_up_answer n s.hall.places s.target s.place)) (Err FloorSize)

-- a line while there is no floor and a table of n records
abbrev pub opened : ℕ → Line → Result Start Refusal
opened n (Floor rows columns least target place) =
    sized n (record { hall = grid_meaning rows columns (seconds least) (replicate (rows * columns) (seconds least)); target = target; place = place }) (hall_size rows columns)
opened n (Change spot toll) = Err NotNow
opened n (Put place) = Err NotNow
opened n line.Route = Err NotNow
opened n Step = Err NotNow
opened n Halt = Err NotNow
opened n (Query place) = Err NotNow
opened n Tally = Err NotNow

-- where the carrier is
pub data Slip : Type 0 where
  parked : ℕ → Slip
  under_way : ℕ → Slip

abbrev pub slip_of : Carrier → Slip
slip_of (carrier.Parked p) = parked p.place
slip_of (carrier.UnderWay p) = under_way p.place

abbrev pub standing_of : Slip → Standing
standing_of (parked p) = Parked
standing_of (under_way p) = UnderWay

-- the answer line of a reading: the toll and the next place
abbrev pub reading_line : Result (Reading Seconds) Refusal → List ℕ
reading_line (Ok r) = ok_line (option_map (λ t. t.value) r.toll ∷ r.next ∷ [])
reading_line (Err why) = refusal_line why

-- the answer line of a route: toll, count and the way at the front of the buffer
abbrev pub route_answer_line : Result (Route Seconds) Refusal → List ℕ → List ℕ
route_answer_line (Ok a) buffer = route_line a.toll.value a.count (take a.length buffer)
route_answer_line (Err why) buffer = refusal_line why

-- an answered route leaves the carrier under way, a refused one leaves it parked
abbrev pub route_slip : ℕ → Result (Route Seconds) Refusal → Slip
route_slip s (Ok a) = under_way s
route_slip s (Err why) = parked s

-- what a line leaves and prints
pub record Served : Type 0 where
  pub state : State Seconds
  pub slip : Slip
  pub text : List ℕ

abbrev pub route_served : ℕ → Routed Seconds → Served
route_served s r = record { state = r.state; slip = route_slip s r.answer; text = route_answer_line r.answer r.buffer }

-- a line that alters nothing
abbrev pub told : State Seconds → Slip → List ℕ → Served
told S c text = record { state = S; slip = c; text = text }

-- a route line; its buffer has an entry for each place that a hall can have
abbrev pub route_on : Meaning Seconds → State Seconds → Slip → Served
route_on m S (parked s) = route_served s (routed seconds_kind m S s (replicate 1024 0))
route_on m S (under_way s) = told S (under_way s) (refusal_line NotNow)

-- one line on a hall m, with the planner's state and the carrier's slip before it
abbrev pub served : Meaning Seconds → State Seconds → Slip → Result Line Refusal → Served
served m S c (Err why) = told S c (refusal_line why)
served m S c (Ok line.Route) = route_on m S c
served m S c (Ok (Query p)) = told S c (reading_line (read_answer S.tree p))
served m S c (Ok Tally) = told S c (ok_line (Some S.tally ∷ []))
served m S c (Ok (Floor rows columns least target place)) = told S c (refusal_line NotNow)
served m S c (Ok (Change spot toll)) = told S c (refusal_line NotNow)
served m S c (Ok (Put place)) = told S c (refusal_line NotNow)
served m S c (Ok Step) = told S c (refusal_line NotNow)
served m S c (Ok Halt) = told S c (refusal_line NotNow)

-- one line by its text
abbrev pub served_text : Meaning Seconds → State Seconds → Slip → List ℕ → Served
served_text m S c l = served m S c (decided (standing_of c) (parse_line l))

-- what the lines print once there is a floor
abbrev pub running_text : Meaning Seconds → State Seconds → Slip → List (List ℕ) → List ℕ
running_text m S c [] = []
running_text m S c (l ∷ ls) = (served_text m S c l).text ++ running_text m (served_text m S c l).state (served_text m S c l).slip ls

-- a line while there is no floor, by its text
abbrev pub opened_by : ℕ → Result Line Refusal → Result Start Refusal
opened_by n (Err why) = Err why
opened_by n (Ok l) = opened n l

abbrev pub opened_text : ℕ → List ℕ → Result Start Refusal
opened_text n l = opened_by n (decided Empty (parse_line l))

-- the answer line while there is no floor: the number of places of an accepted one
abbrev pub opening_line : Result Start Refusal → List ℕ
opening_line (Ok s) = ok_line (Some s.hall.places ∷ [])
opening_line (Err why) = refusal_line why

-- the opening, if there is one, is the accepted start
abbrev pub found_by : Result Start Refusal → Option Opening → Type 0
found_by (Ok s) None = ⊥
found_by (Ok s) (Some o) = start_of o ≡ s
found_by (Err why) None = Unit {0}
found_by (Err why) (Some o) = ⊥

-- what the lines behind an opening line print: once a floor is accepted they are served on it
abbrev pub continued : ℕ → Result Start Refusal → List (List ℕ) → List ℕ → List ℕ
continued n (Ok s) ls rest =
    running_text s.hall (set_up_state seconds_kind (set_up_answer n s.hall.places s.target s.place) s.hall.places s.target) (parked s.place) ls
continued n (Err why) ls rest = rest

-- what the lines print, from the first on, with a table of n records
abbrev pub lines_text : ℕ → List (List ℕ) → List ℕ
lines_text n [] = []
lines_text n (l ∷ ls) = opening_line (opened_text n l) ++ continued n (opened_text n l) ls (lines_text n ls)

-- what a job prints: an over-long one is refused as a whole
abbrev pub job_text : List ℕ → List ℕ
job_text text = cond (nat_lt 65536 (length text)) (refusal_line BadLine) (lines_text 1024 (lines text))
