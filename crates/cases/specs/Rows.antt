-- Worked cases as rows of a table: what each row says, by the definitions that the contracts cite.
use Rattle.std.specs.Prelude.{◌≡◌, ℕ, Bool, false, List, map, length, take, replicate, Ok}
use Rattle.toll.specs.SecondsKind.{seconds, seconds_kind}
use Rattle.toll.specs.GatesKind.{gates_of, gates_kind}
use Rattle.toll.specs.declared.gates.Gates.{Gates}
use Rattle.floor.specs.Meaning.{Meaning}
use Rattle.floor.specs.Grid.{hall_size}
use Rattle.lanes.specs.declared.record.LaneRecord.{LaneRecord}
use Rattle.lanes.specs.Plans.{made_meaning}
use Rattle.planner.specs.Calls.{set_up_answer, set_up_state, Routed, routed}
use Rattle.job.specs.Jobs.{job_text}

-- a lane from u to v with toll (gates; seconds)
pub record GateLane : Type 0 where
  pub u : ℕ
  pub v : ℕ
  pub gates : ℕ
  pub seconds : ℕ

abbrev pub lane_record : GateLane → LaneRecord Gates
lane_record l = record { leaves = l.u; enters = l.v; toll = gates_of l.gates l.seconds }

-- the first route on a floor, with a record and a buffer entry for each place
abbrev pub first_route : Meaning Gates → (target place : ℕ) → Routed Gates
first_route m target place =
    routed gates_kind m (set_up_state gates_kind (set_up_answer m.places m.places target place) m.places target) place (replicate m.places 0)

pub data Row : Type 0 where
  -- a seconds joined with b seconds are c seconds
  join_seconds : (a b c : ℕ) → Row
  -- gates (a; b) joined with (c; d) are (e; f)
  join_gates : (a b c d e f : ℕ) → Row
  -- gates (a; b) are less than (c; d)
  less_gates : (a b c d : ℕ) → Row
  -- a hall of that size can be made, or not
  make_hall : (rows columns : ℕ) → Bool → Row
  -- the first route on a plan of that many places with those lanes has toll (gates; seconds), that count and that way
  route_plan : (places : ℕ) → List GateLane → (target place gates seconds count : ℕ) → (way : List ℕ) → Row
  -- a job prints that
  run_job : (text printed : List ℕ) → Row

-- what a row says
abbrev pub Holds : Row → Type 0
Holds (join_seconds a b c) = (seconds_kind.join (seconds a) (seconds b)).value ≡ c
Holds (join_gates a b c d e f) = ((gates_kind.join (gates_of a b) (gates_of c d)).gates ≡ e) × ((gates_kind.join (gates_of a b) (gates_of c d)).seconds ≡ f)
Holds (less_gates a b c d) = gates_kind.le (gates_of c d) (gates_of a b) ≡ false
Holds (make_hall rows columns made) = hall_size rows columns ≡ made
Holds (route_plan places lanes target place gates seconds count way) =
    ((first_route (made_meaning gates_kind places (map lane_record lanes)) target place).answer ≡ Ok (record { toll = gates_of gates seconds; count = count; length = length way }))
    × (take (length way) (first_route (made_meaning gates_kind places (map lane_record lanes)) target place).buffer ≡ way)
Holds (run_job text printed) = job_text text ≡ printed
