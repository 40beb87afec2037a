-- The worlds that lists of calls lead to.
-- Start                        what set-up was given
-- Event                        a call with what it was handed, its answer and the slip that it handed over
-- Reachable A start calls W    an accepted set-up and then those calls, the latest first, lead to the world W
-- InOrder start calls          each call was handed the slip that the call before it handed over, the first one that of set-up
use Rattle.std.specs.Prelude.{◌≡◌, ℕ, List, [], ◌∷◌, Ok}
use Rattle.toll.specs.Tolls.{Tolls}
use Rattle.floor.specs.Meaning.{Meaning}
use Rattle.floor.specs.FloorLaws.{FloorLaws}
use Rattle.planner.specs.declared.answers.Answer.{Answer}
use Rattle.planner.specs.declared.carrier.Carrier.{Carrier}
use Rattle.planner.specs.Calls.{set_up_answer, set_up_state}
use Rattle.planner.specs.Served.{World, Turn, Served, parked_at, served}

-- what set-up was given: the floor as it stood, the number of the table's records, the target and the carrier's place
pub record Start (T : Type 0) : Type 0 where
  pub floor : Meaning T
  pub records : ℕ
  pub target : ℕ
  pub place : ℕ

-- the world that an accepted set-up leaves
abbrev pub start_world : {T : Type 0} → Tolls T → Start T → World T
start_world A s = record { floor = s.floor; planner = set_up_state A (Ok tt) s.floor.places s.target }

-- a call that was made: what it was handed, its answer, and the slip that it handed over
pub record Event (T : Type 0) : Type 0 where
  pub turn : Turn T
  pub answer : Answer T
  pub handed : Carrier

abbrev pub event_of : {T : Type 0} → Turn T → Served T → Event T
event_of turn done = record { turn = turn; answer = done.answer; handed = done.slip }

-- an accepted set-up on a lawful floor, then calls, served or refused, with whatever slip; the floor stays lawful
pub data Reachable {T : Type 0} (A : Tolls T) (start : Start T) : List (Event T) → World T → Type 0 where
  set_up : FloorLaws A start.floor → set_up_answer start.records start.floor.places start.target start.place ≡ Ok tt → Reachable A start [] (start_world A start)
  and_then : {calls : List (Event T)} {W : World T} → Reachable A start calls W → (turn : Turn T) → FloorLaws A (served A W turn).world.floor →
      Reachable A start (event_of turn (served A W turn) ∷ calls) (served A W turn).world

-- the slip that the last call handed over; before the first call, that of set-up
abbrev pub last_slip : {T : Type 0} → Start T → List (Event T) → Carrier
last_slip start [] = parked_at start.place
last_slip start (e ∷ calls) = e.handed

abbrev pub InOrder : {T : Type 0} → Start T → List (Event T) → Type 0
InOrder start [] = Unit {0}
InOrder start (e ∷ calls) = (e.turn.slip ≡ last_slip start calls) × InOrder start calls
