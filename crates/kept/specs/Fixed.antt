-- A fixed list of calls on a hall of two rows and three columns: route, halt, cell 1 at nine seconds, route.
-- KeptAll r                    each of them keeps the promise, and the last answers r
use Rattle.std.specs.Prelude.{◌≡◌, List, [], ◌∷◌, replicate}
use Rattle.toll.specs.SecondsKind.{seconds, seconds_kind}
use Rattle.toll.specs.declared.seconds.Seconds.{Seconds}
use Rattle.floor.specs.Grid.{grid_meaning}
use Rattle.planner.specs.declared.answers.Answer.{Answer}
use Rattle.planner.specs.declared.call.Call.{Call}
use Rattle.planner.specs.declared.call.Call.TheVariants.{Change, Route, Halt}
use Rattle.planner.specs.Served.{World, Turn, Served}
use Rattle.planner.specs.Reachable.{Start, Event, event_of}
use Rattle.planner.specs.Promise.{Kept}

-- the hall with each cell at one second, a table of six records, the target at cell 2, the carrier at cell 0
abbrev pub start : Start Seconds
start = record { floor = grid_meaning 2 3 (seconds 1) (replicate 6 (seconds 1)); records = 6; target = 2; place = 0 }

-- a call that was made after the others, the latest first, and kept the promise
pub record Made (s : Start Seconds) (calls : List (Event Seconds)) (c : Call Seconds) : Type 0 where
  pub world : World Seconds
  pub turn : Turn Seconds
  pub asked : turn.call ≡ c
  pub done : Served Seconds
  pub kept : Kept seconds_kind s calls world turn done

-- the four calls in their order, each after those before it
pub record KeptFrom (s : Start Seconds) (r : Answer Seconds) : Type 0 where
  pub route : Made s [] Route
  pub halt : Made s (event_of route.turn route.done ∷ []) Halt
  pub change : Made s (event_of halt.turn halt.done ∷ event_of route.turn route.done ∷ []) (Change 1 (seconds 9))
  pub again : Made s (event_of change.turn change.done ∷ event_of halt.turn halt.done ∷ event_of route.turn route.done ∷ []) Route
  pub answers : again.done.answer ≡ r

abbrev pub KeptAll : Answer Seconds → Type 0
KeptAll r = KeptFrom start r
