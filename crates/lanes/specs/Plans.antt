-- What a lane plan means: record i is lane i, and spot i has its toll.
-- lane_as, lane_of, spot_of      a record as a lane and as a spot
-- list_meaning, plan_meaning     a list of records, and the code's plan, as a floor
-- lanes_where test rs            the numbers of the records that pass a test
-- TestsAs g f test               that a closure is that test
-- retolled rs k t                the list with toll t at record k
-- made_meaning, made_lanes       a plan that is made from a list
use Rattle.std.specs.Prelude.{◌≡◌, ℕ, zero, suc, Bool, cond, ◌&&◌, List, [], ◌∷◌, map, filter, length, is_ok, Some, None, Option, nat_lt}
use Rattle.std.specs.Fn.{Shared, FnReturnsAt}
use Rattle.std.specs.Option.{option_map}
use Rattle.std.specs.List.{slice_get, enumerate_from}
use denote.Ref.{Bor}
use Rattle.toll.specs.Tolls.{Tolls}
use Rattle.floor.specs.Meaning.{Lane, Spot, Meaning}
use Rattle.lanes.specs.declared.record.LaneRecord.{LaneRecord}
use Rattle.lanes.specs.declared.plan.LanePlan.{LanePlan}
use Rattle.lanes.specs.Records.{plan_answer}

-- a record as lane l; its spot is l
abbrev pub lane_as : {T : Type 0} → ℕ → LaneRecord T → Lane
lane_as l r = record { leaves = r.leaves; enters = r.enters; spot = l }

-- lane l is record l
abbrev pub lane_of : {T : Type 0} → List (LaneRecord T) → ℕ → Option Lane
lane_of rs l = option_map (lane_as l) (slice_get rs l)

-- a record's spot has its toll, and zero as its least toll
abbrev pub spot_of : {T : Type 0} → Tolls T → LaneRecord T → Spot T
spot_of A r = record { toll = r.toll; least = A.zero }

-- the estimate is zero between places
abbrev pub zero_between : {T : Type 0} → Tolls T → (places a b : ℕ) → Option T
zero_between A places a b = cond (nat_lt a places && nat_lt b places) (Some A.zero) None

-- that many places, with the records as lanes
abbrev pub list_meaning : {T : Type 0} → Tolls T → ℕ → List (LaneRecord T) → Meaning T
list_meaning A places rs = record {
  places = places;
  lanes = length rs;
  lane = lane_of rs;
  spots = map (spot_of A) rs;
  estimate = zero_between A places;
}

-- what the code's plan means
abbrev pub plan_meaning : {T : Type 0} → Tolls T → LanePlan T → Meaning T
plan_meaning A p = list_meaning A p.places p.lanes.now

-- the numbers of the records that pass a test, in rising order
abbrev pub lanes_where : {T : Type 0} → (LaneRecord T → Bool) → List (LaneRecord T) → List ℕ
lanes_where test rs = map (λ e. e.0) (filter (λ e. test e.1) (enumerate_from 0 rs))

-- each call of a closure at a record answers what the test says
abbrev pub TestsAs : {T F : Type 0} → Shared F (Bor (LaneRecord T) × Unit {0}) Bool → F → (LaneRecord T → Bool) → Type 0
TestsAs g f test = (r : _) (b : Bool) → FnReturnsAt g f r b → b ≡ test r

-- the list with toll t at record k
abbrev pub retolled : {T : Type 0} → List (LaneRecord T) → ℕ → T → List (LaneRecord T)
retolled [] k t = []
retolled (r ∷ rs) zero t = record { leaves = r.leaves; enters = r.enters; toll = t } ∷ rs
retolled (r ∷ rs) (suc k) t = r ∷ retolled rs k t

-- what a plan means that is made from a list: that list, or one place and no lane where the check refuses it
abbrev pub made_meaning : {T : Type 0} → Tolls T → ℕ → List (LaneRecord T) → Meaning T
made_meaning A places rs = cond (is_ok (plan_answer places rs)) (list_meaning A places rs) (list_meaning A 1 [])

-- the records that such a plan holds
abbrev pub made_lanes : {T : Type 0} → ℕ → List (LaneRecord T) → List (LaneRecord T)
made_lanes places rs = cond (is_ok (plan_answer places rs)) rs []
