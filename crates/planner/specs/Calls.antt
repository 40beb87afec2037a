-- The calls: what each answers, when it refuses, and what it leaves.
-- State, state_of                a planner's target, tree and tally
-- set_up_answer, set_up_state    set-up: what the check answers, and the planner that is made
-- read_answer                    reading a place
-- routed                         a route: its answer, and the state and the buffer that it leaves
-- changed                        a change: its answer, and the floor and the state that it leaves
-- put_answer, step_answer        putting the carrier at another place, and a step: the place where it then is
use Rattle.std.specs.Prelude.{ℕ, suc, ◌+◌, min, cond, not, ◌&&◌, List, [], ◌∷◌, ◌++◌, length, take, drop, Some, None, Ok, Err, Option, Result, ◌==◌, nat_lt}
use Rattle.std.specs.List.{slice_get}
use Rattle.toll.specs.Tolls.{Tolls}
use Rattle.toll.specs.declared.refusal.Refusal.{Refusal}
use Rattle.toll.specs.declared.refusal.Refusal.TheVariants.{ShortTable, NoStart, UnknownPlace, NoWay, ShortBuffer, AtTarget, OtherFloor, BrokenWay}
use Rattle.floor.specs.Meaning.{Meaning, Spot}
use Rattle.floor.specs.Setting.{set_answer, set_meaning}
use Rattle.tree.specs.Tree.{Entry, tree_of, toll_at, next_at, start_tree}
use Rattle.tree.specs.Ways.{next_step, borne_out}
use Rattle.repair.specs.Cut.{shift_of, repaired}
use Rattle.astar.specs.Search.{Searched, seek}
use Rattle.repair.specs.declared.shift.Shift.{Shift}
use Rattle.repair.specs.declared.shift.Shift.TheVariants.{Same}
use Rattle.astar.specs.declared.outcome.Outcome.{Outcome}
use Rattle.astar.specs.declared.outcome.Outcome.TheVariants.{Solved}
use Rattle.astar.specs.declared.outcome.Outcome.TheVariants as outcome
use Rattle.planner.specs.declared.planner.Planner.{Planner}
use Rattle.planner.specs.declared.answers.Route.{Route}
use Rattle.planner.specs.declared.answers.Reading.{Reading}
use Rattle.planner.specs.declared.slips.Parked.{Parked}
use Rattle.planner.specs.declared.slips.UnderWay.{UnderWay}

-- what a planner knows: its target, the tree with an entry for each place, and its tally
pub record State (T : Type 0) : Type 0 where
  pub target : ℕ
  pub tree : List (Entry T)
  pub tally : ℕ

-- the state of the code's planner
abbrev pub state_of : {T : Type 0} → Planner T → State T
state_of p = record { target = p.target; tree = tree_of (take p.places p.table.now); tally = p.tally }

-- set-up is refused for a table with fewer records than places, else for a target or carrier's place that is no place
abbrev pub set_up_answer : (records places target place : ℕ) → Result (Unit {0}) Refusal
set_up_answer records places target place =
    cond (nat_lt records places) (Err ShortTable) (cond (nat_lt target places && nat_lt place places) (Ok tt) (Err NoStart))

-- the planner that is made: the target alone in the tree; a planner of no place where the check refuses
abbrev pub set_up_state : {T : Type 0} → Tolls T → Result (Unit {0}) Refusal → (places target : ℕ) → State T
set_up_state A (Ok _) places target = record { target = target; tree = start_tree A places target; tally = 0 }
set_up_state A (Err _) places target = record { target = 0; tree = []; tally = 0 }

-- reading is refused for a place that is no place
abbrev pub read_answer : {T : Type 0} → List (Entry T) → ℕ → Result (Reading T) Refusal
read_answer E p = cond (nat_lt p (length E)) (Ok (record { toll = toll_at E p; next = next_at E p })) (Err UnknownPlace)

-- why a route is refused before its search: another floor, a buffer that is too short, or a slip's place that is no place
abbrev pub route_refused : (places floor buffer place : ℕ) → Option Refusal
route_refused places floor buffer place =
    cond (not (floor == places)) (Some OtherFloor) (cond (nat_lt buffer places) (Some ShortBuffer) (cond (nat_lt place places) None (Some UnknownPlace)))

-- what a route leaves: its answer, the state and the buffer
pub record Routed (T : Type 0) : Type 0 where
  pub answer : Result (Route T) Refusal
  pub state : State T
  pub buffer : List ℕ

-- the tally stops at 4,294,967,295
abbrev pub tallied : ℕ → ℕ → ℕ
tallied tally count = min (tally + count) 4294967295

-- the state after a search: the target stays, the tree is the search's, and the tally rises by its count
abbrev pub searched_state : {T : Type 0} → State T → Searched T → State T
searched_state S r = record { target = S.target; tree = r.tree; tally = tallied S.tally (length r.expanded) }

-- the answer after a solved search with that count, by the recorded way that the floor bears out
abbrev pub way_answer : {T : Type 0} → ℕ → Option (List ℕ × T) → Result (Route T) Refusal
way_answer count None = Err BrokenWay
way_answer count (Some p) = Ok (record { toll = p.1; count = count; length = suc (length p.0) })

-- the buffer with the way from s at its front
abbrev pub way_buffer : {T : Type 0} → ℕ → List ℕ → Option (List ℕ × T) → List ℕ
way_buffer s buffer None = buffer
way_buffer s buffer (Some p) = (s ∷ p.0) ++ drop (suc (length p.0)) buffer

-- the answer after a search, by how it ended
abbrev pub search_answer : {T : Type 0} → Tolls T → Meaning T → (t s : ℕ) → Searched T → Outcome → Result (Route T) Refusal
search_answer A m t s r Solved = way_answer (length r.expanded) (borne_out A m r.tree t s)
search_answer A m t s r outcome.NoWay = Err NoWay

-- the buffer after a search, by how it ended
abbrev pub search_buffer : {T : Type 0} → Tolls T → Meaning T → (t s : ℕ) → List ℕ → Searched T → Outcome → List ℕ
search_buffer A m t s buffer r Solved = way_buffer s buffer (borne_out A m r.tree t s)
search_buffer A m t s buffer r outcome.NoWay = buffer

-- a route that gets as far as its search
abbrev pub route_searched : {T : Type 0} → Tolls T → Meaning T → State T → ℕ → List ℕ → Searched T → Routed T
route_searched A m S s buffer r = record {
  answer = search_answer A m S.target s r r.outcome;
  state = searched_state S r;
  buffer = search_buffer A m S.target s buffer r r.outcome;
}

-- a route, by why it may be refused before its search
abbrev pub route_by : {T : Type 0} → Tolls T → Meaning T → State T → ℕ → List ℕ → Option Refusal → Routed T
route_by A m S s buffer (Some why) = record { answer = Err why; state = S; buffer = buffer }
route_by A m S s buffer None = route_searched A m S s buffer (seek A m s (length S.tree) S.tree)

-- a route from place s with a buffer
abbrev pub routed : {T : Type 0} → Tolls T → Meaning T → State T → ℕ → List ℕ → Routed T
routed A m S s buffer = route_by A m S s buffer (route_refused (length S.tree) m.places (length buffer) s)

-- the answer of the code's route, and the place of the slip that it hands back
abbrev pub route_answer : {T : Type 0} → Result (UnderWay × Route T) (Parked × Refusal) → Result (Route T) Refusal
route_answer (Ok r) = Ok r.1
route_answer (Err r) = Err r.1

abbrev pub route_slip : {T : Type 0} → Result (UnderWay × Route T) (Parked × Refusal) → ℕ
route_slip (Ok r) = r.0.place
route_slip (Err r) = r.0.place

-- what a change leaves: its answer, the floor and the state
pub record Changed (T : Type 0) : Type 0 where
  pub answer : Result (Unit {0}) Refusal
  pub floor : Meaning T
  pub state : State T

-- what became of the toll of a spot, which may be absent
abbrev pub shift_at : {T : Type 0} → Tolls T → Option (Spot T) → T → Shift
shift_at A None b = Same
shift_at A (Some s) b = shift_of A s.toll b

-- the tree is repaired on the floor m, after spot k had the toll of s and got the toll b
abbrev pub repaired_state : {T : Type 0} → Tolls T → Meaning T → State T → (k : ℕ) → Option (Spot T) → T → State T
repaired_state A m S k s b = record { target = S.target; tree = repaired m k S.target (shift_at A s b) S.tree; tally = S.tally }

-- a change, by what setting the toll answers; the floor takes the toll, and the tree is repaired
abbrev pub change_by : {T : Type 0} → Tolls T → Meaning T → State T → ℕ → T → Result (Unit {0}) Refusal → Changed T
change_by A m S k b (Ok u) = record { answer = Ok u; floor = set_meaning A m k b; state = repaired_state A (set_meaning A m k b) S k (slice_get m.spots k) b }
change_by A m S k b (Err why) = record { answer = Err why; floor = m; state = S }

-- a change of spot k to toll b is refused for another floor, else as setting the toll is
abbrev pub changed : {T : Type 0} → Tolls T → Meaning T → State T → ℕ → T → Changed T
changed A m S k b = change_by A m S k b (cond (m.places == length S.tree) (set_answer A m k b) (Err OtherFloor))

-- putting the carrier at a place is refused for a place that is no place
abbrev pub put_answer : (places place : ℕ) → Result ℕ Refusal
put_answer places place = cond (nat_lt place places) (Ok place) (Err UnknownPlace)

-- a step, by the next place that there may be
abbrev pub step_to : Option ℕ → Result ℕ Refusal
step_to None = Err BrokenWay
step_to (Some q) = Ok q

-- a step is refused for another floor, a slip's place that is no place, at the target, or where the floor does not bear it out
abbrev pub step_answer : {T : Type 0} → Meaning T → State T → ℕ → Result ℕ Refusal
step_answer m S p =
    cond (m.places == length S.tree)
    (cond (nat_lt p (length S.tree)) (cond (p == S.target) (Err AtTarget) (step_to (next_step m S.tree p))) (Err UnknownPlace)) (Err OtherFloor)
