-- Worked cases as rows of a table: what each row says, by the definitions that the contracts cite.
use Rattle.std.specs.Prelude.{◌≡◌, ℕ, Bool, false, List, [], ◌∷◌, map, take, replicate, Option}
use Rattle.std.specs.Option.{option_map}
use Rattle.toll.specs.SecondsKind.{seconds, seconds_kind}
use Rattle.toll.specs.GatesKind.{gates_of, gates_kind}
use Rattle.toll.specs.Refusals.{number_of}
use Rattle.toll.specs.declared.gates.Gates.{Gates}
use Rattle.floor.specs.Meaning.{Meaning}
use Rattle.floor.specs.Grid.{hall_size}
use Rattle.lanes.specs.declared.record.LaneRecord.{LaneRecord}
use Rattle.lanes.specs.Plans.{made_meaning}
use Rattle.planner.specs.declared.answers.Answer.{Answer}
use Rattle.planner.specs.declared.answers.Answer.TheVariants.{Refused, Done, Route, Place, Reading, Tally}
use Rattle.planner.specs.declared.call.Call.{Call}
use Rattle.planner.specs.declared.carrier.Carrier.{Carrier}
use Rattle.planner.specs.Served.{World, turn_of, parked_at, served}
use Rattle.planner.specs.Reachable.{start_world}
use Rattle.job_all.specs.Jobs.{job_text}

-- a lane from u to v with toll (gates; seconds)
pub record GateLane : Type 0 where
  pub u : ℕ
  pub v : ℕ
  pub gates : ℕ
  pub seconds : ℕ

abbrev pub lane_record : GateLane → LaneRecord Gates
lane_record l = record { leaves = l.u; enters = l.v; toll = gates_of l.gates l.seconds }

-- a plan of that many places with those lanes
abbrev pub plan : ℕ → List GateLane → Meaning Gates
plan places lanes = made_meaning gates_kind places (map lane_record lanes)

-- what is done: a call is made, or the floor is exchanged for another plan of as many places
pub data Move : Type 0 where
  call : Call Gates → Move
  exchange : List GateLane → Move

-- what a call is told: a refusal's number, nothing, a route's toll (gates; seconds) with its count and its way, a place, a reading, a tally
pub data Told : Type 0 where
  refused : ℕ → Told
  done : Told
  route : (gates seconds count : ℕ) → (way : List ℕ) → Told
  place : ℕ → Told
  reading : (toll : Option (ℕ × ℕ)) → (next : Option ℕ) → Told
  tally : ℕ → Told

-- an answer, with the buffer that the call left
abbrev pub told : Answer Gates → List ℕ → Told
told (Refused why) buffer = refused (number_of why)
told Done buffer = done
told (Route r) buffer = route r.toll.gates r.toll.seconds r.count (take r.length buffer)
told (Place p) buffer = place p
told (Reading r) buffer = reading (option_map (λ t. (t.gates, t.seconds)) r.toll) r.next
told (Tally n) buffer = tally n

-- what the calls are told one after the other, with a buffer entry for each place
abbrev pub tellings : ℕ → World Gates → Carrier → List Move → List Told
tellings places W slip [] = []
tellings places W slip (exchange lanes ∷ moves) = tellings places (record { floor = plan places lanes; planner = W.planner }) slip moves
tellings places W slip (call c ∷ moves) =
    told (served gates_kind W (turn_of slip c (replicate places 0))).answer (served gates_kind W (turn_of slip c (replicate places 0))).buffer
    ∷ tellings places (served gates_kind W (turn_of slip c (replicate places 0))).world (served gates_kind W (turn_of slip c (replicate places 0))).slip moves

pub data Row : Type 0 where
  -- a seconds joined with b seconds are c seconds
  join_seconds : (a b c : ℕ) → Row
  -- gates (a; b) joined with (c; d) are (e; f)
  join_gates : (a b c d e f : ℕ) → Row
  -- gates (a; b) are less than (c; d)
  less_gates : (a b c d : ℕ) → Row
  -- a hall of that size can be made, or not
  make_hall : (rows columns : ℕ) → Bool → Row
  -- on a plan of that many places with those lanes, set up with that target and place, those moves are told that
  on_plan : (places : ℕ) → List GateLane → (target from : ℕ) → List Move → List Told → Row
  -- a job prints that
  run_job : (text printed : List ℕ) → Row

-- what a row says
abbrev pub Holds : Row → Type 0
Holds (join_seconds a b c) = (seconds_kind.join (seconds a) (seconds b)).value ≡ c
Holds (join_gates a b c d e f) = ((gates_kind.join (gates_of a b) (gates_of c d)).gates ≡ e) × ((gates_kind.join (gates_of a b) (gates_of c d)).seconds ≡ f)
Holds (less_gates a b c d) = gates_kind.le (gates_of c d) (gates_of a b) ≡ false
Holds (make_hall rows columns made) = hall_size rows columns ≡ made
Holds (on_plan places lanes target from moves ts) =
    tellings places (start_world gates_kind (record { floor = plan places lanes; records = places; target = target; place = from })) (parked_at from) moves ≡ ts
Holds (run_job text printed) = job_text text ≡ printed
