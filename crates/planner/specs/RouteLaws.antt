-- What a route is good for: laws above the rules of the search, on every lawful floor.
use Rattle.std.specs.Prelude.{◌≡◌, ℕ, suc, List, [], ◌∷◌, ◌++◌, length, drop, Some, None, Ok, Err, Option, Result, ◌≢◌}
use Rattle.toll.specs.Tolls.{Tolls, Lt}
use Rattle.toll.specs.declared.refusal.Refusal.{Refusal}
use Rattle.toll.specs.declared.refusal.Refusal.TheVariants.{NoWay, BrokenWay}
use Rattle.floor.specs.Meaning.{Meaning}
use Rattle.planner.specs.declared.answers.Route.{Route}
use Rattle.tree.specs.Tree.{Entry, toll_at, next_at}
use Rattle.tree.specs.Ways.{ends, way_toll, Least}
use Rattle.astar.specs.Search.{expand, seek}
use Rattle.astar.specs.Runs.{Once, Chosen, Expands}
use Rattle.astar.specs.Sound.{Sound}
use Rattle.planner.specs.Calls.{State, route_refused, routed}

-- the places that a route expands: those of its search, if it gets there
abbrev pub expanded_by : {T : Type 0} → Tolls T → Meaning T → State T → ℕ → Option Refusal → List ℕ
expanded_by A m S s (Some why) = []
expanded_by A m S s None = (seek A m s (length S.tree) S.tree).expanded

-- an answered route has a way from s to the target, with the toll answered, and no way from there is cheaper;
-- the way stands at the front of the buffer
pub record CheapestWay {T : Type 0} (A : Tolls T) (m : Meaning T) (t s : ℕ) (before after : List ℕ) (a : Route T) : Type 0 where
  pub way : List ℕ
  pub leads : ends s way ≡ t
  pub toll : way_toll A m s way ≡ Some a.toll
  pub least : Least A m t s a.toll
  pub long : a.length ≡ suc (length way)
  pub written : after ≡ (s ∷ way) ++ drop (suc (length way)) before

-- on a sound tree the toll answered is below shut
abbrev pub AnswersBelowShut : {T : Type 0} → Tolls T → Meaning T → State T → Result (Route T) Refusal → Type 0
AnswersBelowShut {T} A m S answer = Sound A m S.target S.tree → (a : Route T) → answer ≡ Ok a → Lt A a.toll A.shut

pub record RouteLaws {T : Type 0} (A : Tolls T) (m : Meaning T) (S : State T) (s : ℕ) (buffer : List ℕ) : Type 0 where
  -- no place is expanded twice, on any tree
  pub once : Once (expanded_by A m S s (route_refused (length S.tree) m.places (length buffer) s))
  -- the tree that a route leaves comes about by expanding those places, each chosen in its turn, on any tree
  pub run : Expands A m s S.tree (expanded_by A m S s (route_refused (length S.tree) m.places (length buffer) s)) (routed A m S s buffer).state.tree
  -- expanding the search's choice keeps any sound tree sound
  pub each : (E : List (Entry T)) (x : ℕ) → Sound A m S.target E → Chosen A m s E x → Sound A m S.target (expand A m x E)
  -- so a sound tree stays sound
  pub sound : Sound A m S.target S.tree → Sound A m S.target (routed A m S s buffer).state.tree
  -- on a sound tree an answer is a cheapest way
  pub cheapest : Sound A m S.target S.tree → (a : Route T) → (routed A m S s buffer).answer ≡ Ok a → CheapestWay A m S.target s buffer (routed A m S s buffer).buffer a
  -- on a sound tree "no way" means that every way is shut
  pub shut : Sound A m S.target S.tree → (routed A m S s buffer).answer ≡ Err NoWay → (w : List ℕ) (c : T) → ends s w ≡ S.target → way_toll A m s w ≡ Some c → c ≡ A.shut
  -- on a sound tree the recorded way is always borne out
  pub whole : Sound A m S.target S.tree → (routed A m S s buffer).answer ≢ Err BrokenWay
  -- a place whose recorded toll is least keeps its toll and its next place
  pub stays : Sound A m S.target S.tree → (p : ℕ) (g : T) → toll_at S.tree p ≡ Some g → Least A m S.target p g →
      (toll_at (routed A m S s buffer).state.tree p ≡ Some g) × (next_at (routed A m S s buffer).state.tree p ≡ next_at S.tree p)
