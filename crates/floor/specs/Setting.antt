-- Setting a spot's toll: when it is refused, what it alters, and the law that it alters nothing else.
use Rattle.std.specs.Prelude.{◌≡◌, ℕ, Bool, true, false, cond, is_ok, Some, None, Ok, Err, Option, Result, ◌≢◌, slice_set}
use Rattle.std.specs.List.{slice_get}
use Rattle.toll.specs.Tolls.{Tolls}
use Rattle.toll.specs.declared.refusal.Refusal.{Refusal}
use Rattle.toll.specs.declared.refusal.Refusal.TheVariants.{UnknownSpot, BelowLeast}
use Rattle.floor.specs.Meaning.{Spot, Meaning}

-- a toll that is high enough is taken
abbrev pub if_enough : Bool → Result (Unit {0}) Refusal
if_enough true = Ok tt
if_enough false = Err BelowLeast

-- refused for an absent spot, else for a toll below its least toll
abbrev pub answer_at : {T : Type 0} → Tolls T → Option (Spot T) → T → Result (Unit {0}) Refusal
answer_at A None t = Err UnknownSpot
answer_at A (Some s) t = if_enough (A.le s.least t)

-- the answer to setting spot k to toll t
abbrev pub set_answer : {T : Type 0} → Tolls T → Meaning T → ℕ → T → Result (Unit {0}) Refusal
set_answer A m k t = answer_at A (slice_get m.spots k) t

-- the floor with toll t at spot k, which may be absent
abbrev pub with_toll : {T : Type 0} → Meaning T → ℕ → Option (Spot T) → T → Meaning T
with_toll m k None t = m
with_toll m k (Some s) t = record {
  places = m.places;
  lanes = m.lanes;
  lane = m.lane;
  spots = slice_set m.spots k (record { toll = t; least = s.least });
  estimate = m.estimate;
}

-- the floor after setting spot k to toll t
abbrev pub set_meaning : {T : Type 0} → Tolls T → Meaning T → ℕ → T → Meaning T
set_meaning A m k t = cond (is_ok (set_answer A m k t)) (with_toll m k (slice_get m.spots k) t) m

-- setting alters the toll of that one spot and nothing else, or nothing if it is refused
pub record OnlyToll {T : Type 0} (before : Meaning T) (k : ℕ) (t : T) (answer : Result (Unit {0}) Refusal) (after : Meaning T) : Type 0 where
  pub places_same : after.places ≡ before.places
  pub lanes_same : after.lanes ≡ before.lanes
  pub lane_same : after.lane ≡ before.lane
  pub estimate_same : after.estimate ≡ before.estimate
  pub others_same : (j : ℕ) → (j ≢ k) → slice_get after.spots j ≡ slice_get before.spots j
  pub there : (s : Spot T) → answer ≡ Ok tt → slice_get before.spots k ≡ Some s → slice_get after.spots k ≡ Some (record { toll = t; least = s.least })
  pub refused : (why : Refusal) → answer ≡ Err why → after ≡ before
