-- The promise: what every call keeps, in every world that a list of calls leads to.
-- PassableWay                  a way from s to the target t with a toll below shut
-- Answered                     a route with a full-length buffer: answered exactly if there is such a way, by a cheapest one
-- Expanded                     a route: which places it expanded, read off the trees before and after
-- Promise                      the four parts
-- Kept                         a call keeps the promise in every reachable world, and leads to a reachable one
use Rattle.std.specs.Prelude.{◌≡◌, ℕ, suc, ◌+◌, ◌≤◌, min, true, ◌⊎◌, List, [], ◌∷◌, ◌++◌, length, drop, Some, None}
use Rattle.toll.specs.Tolls.{Tolls, Lt}
use Rattle.floor.specs.Rising.{In}
use Rattle.floor.specs.Meaning.{Meaning}
use Rattle.planner.specs.declared.call.Call.{Call}
use Rattle.planner.specs.declared.call.Call.TheVariants.{Change, Put, Route, Step, Halt, Read, Tally}
use Rattle.tree.specs.Tree.{Entry, toll_at, next_at, open_toll}
use Rattle.tree.specs.Ways.{ends, way_toll, Least}
use Rattle.astar.specs.Search.{solved}
use Rattle.astar.specs.Runs.{Once, Expands}
use Rattle.astar.specs.Expanded.{ExpandedAt}
use Rattle.repair.specs.Dropped.{Dropped}
use Rattle.planner.specs.Served.{World, Turn, Served, parked_at, said}
use Rattle.planner.specs.Reachable.{Start, Event, event_of, Reachable, last_slip, InOrder}

-- a way from s to t with a toll below shut
pub record PassableWay {T : Type 0} (A : Tolls T) (m : Meaning T) (t s : ℕ) : Type 0 where
  pub way : List ℕ
  pub toll : T
  pub leads : ends s way ≡ t
  pub is : way_toll A m s way ≡ Some toll
  pub below : Lt A toll A.shut

-- the route is answered with a passable way from s, with its toll and its length; it stands at the front of the buffer, and no way is cheaper
pub record CheapestAnswer {T : Type 0} (A : Tolls T) (W : World T) (s : ℕ) (turn : Turn T) (done : Served T) : Type 0 where
  pub found : PassableWay A W.floor W.planner.target s
  pub toll : (said done.answer).toll ≡ Some found.toll
  pub long : (said done.answer).length ≡ Some (suc (length found.way))
  pub written : done.buffer ≡ (s ∷ found.way) ++ drop (suc (length found.way)) turn.buffer
  pub least : Least A W.floor W.planner.target s found.toll

-- a route from s is answered exactly if there is a passable way, and refused, with whatever number, exactly if there is none
pub record Answered {T : Type 0} (A : Tolls T) (W : World T) (s : ℕ) (turn : Turn T) (done : Served T) : Type 0 where
  pub if_passable : PassableWay A W.floor W.planner.target s → (said done.answer).refusal ≡ None
  pub cheapest : (said done.answer).refusal ≡ None → CheapestAnswer A W s turn done

-- the run from s leads from the tree E to the tree E' by expanding the places xs, and ends solved or with no open place
pub record Searches {T : Type 0} (A : Tolls T) (m : Meaning T) (s : ℕ) (E : List (Entry T)) (xs : List ℕ) (E' : List (Entry T)) : Type 0 where
  pub run : Expands A m s E xs E'
  pub ended : (solved A m s E' ≡ true) ⊎ ((p : ℕ) → open_toll E' p ≡ None)

-- a route expanded the places that its trees show as expanded, once each; the tally rises by their number, and so the count says
pub record Expanded {T : Type 0} (A : Tolls T) (W : World T) (turn : Turn T) (done : Served T) : Type 0 where
  pub places : List ℕ
  pub once : Once places
  pub all : (p : ℕ) → ExpandedAt W.planner.tree done.world.planner.tree p → In p places
  pub only : (p : ℕ) → In p places → ExpandedAt W.planner.tree done.world.planner.tree p
  pub tally : done.world.planner.tally ≡ min (W.planner.tally + length places) 4294967295
  pub count : (n : ℕ) → (said done.answer).count ≡ Some n → n ≡ length places
  -- a route that is answered, or refused with 8 or 12, has run A*
  pub ran : ((said done.answer).refusal ≡ None) ⊎ (((said done.answer).refusal ≡ Some 8) ⊎ ((said done.answer).refusal ≡ Some 12)) →
      (s : ℕ) × (turn.slip ≡ parked_at s) × Searches A W.floor s W.planner.tree places done.world.planner.tree
  -- any other has not
  pub idle : (n : ℕ) → (said done.answer).refusal ≡ Some n → ¬ (n ≡ 8) → ¬ (n ≡ 12) → places ≡ []

-- where a recorded toll was least, toll and next place stay
abbrev pub LeastStays : {T : Type 0} → Tolls T → World T → World T → Type 0
LeastStays {T} A W W' = (p : ℕ) (g : T) → toll_at W.planner.tree p ≡ Some g → Least A W.floor W.planner.target p g →
    (toll_at W'.planner.tree p ≡ Some g) × (next_at W'.planner.tree p ≡ next_at W.planner.tree p)

-- a route or a step
abbrev pub Moving : {T : Type 0} → Call T → Type 0
Moving (Change k b) = ⊥
Moving (Put p) = ⊥
Moving Route = Unit {0}
Moving Step = Unit {0}
Moving Halt = ⊥
Moving (Read p) = ⊥
Moving Tally = ⊥

pub record Promise {T : Type 0} (A : Tolls T) (start : Start T) (calls : List (Event T)) (W : World T) (turn : Turn T) (done : Served T) : Type 0 where
  -- a route with a parked slip at s and a full-length buffer
  pub answered : (s : ℕ) → turn.call ≡ Route → turn.slip ≡ parked_at s → W.floor.places ≤ length turn.buffer → Answered A W s turn done
  -- an accepted change
  pub dropped : (k : ℕ) (b : T) → turn.call ≡ Change k b → (said done.answer).refusal ≡ None →
      Dropped A W.planner.target W.floor W.planner.tree done.world.floor done.world.planner.tree
  -- a route
  pub expanded : turn.call ≡ Route → Expanded A W turn done × LeastStays A W done.world
  -- with slips in order neither route nor step is refused with 7, 11 or 12
  pub ordered : InOrder start calls → turn.slip ≡ last_slip start calls → Moving turn.call →
      (n : ℕ) → (said done.answer).refusal ≡ Some n → (¬ (n ≡ 7)) × (¬ (n ≡ 11)) × (¬ (n ≡ 12))

-- a call keeps the promise in every reachable world, and the world that it leaves is reachable
pub record Kept {T : Type 0} (A : Tolls T) (start : Start T) (calls : List (Event T)) (W : World T) (turn : Turn T) (done : Served T) : Type 0 where
  pub promise : Promise A start calls W turn done
  pub reachable : Reachable A start (event_of turn done ∷ calls) done.world

abbrev pub Keeps : {T : Type 0} → Tolls T → World T → Turn T → Served T → Type 0
Keeps {T} A W turn done = (start : Start T) (calls : List (Event T)) → Reachable A start calls W → Kept A start calls W turn done
