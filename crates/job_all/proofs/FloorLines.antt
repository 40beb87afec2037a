-- A floor line that is accepted.
use Rattle.std.proofs.Common.{◌≡◌, ℕ, Bool, true, false, List, Ok, Err, Result, refl, subst}
use Rattle.toll.specs.declared.seconds.Seconds.{Seconds}
use Rattle.toll.specs.declared.refusal.Refusal.{Refusal}
use Rattle.floor.specs.Grid.{hall_size}
use Rattle.planner.specs.Calls.{set_up_answer}
use Rattle.planner.specs.Reachable.{Start}
use Rattle.jobtext.specs.Parsing.{parse_line}
use Rattle.jobtext.specs.declared.line.Line.{Line}
use Rattle.jobtext.specs.declared.line.Line.TheVariants.{Floor, Change, Put, Route, Step, Halt, Query, Tally}
use Rattle.job_all.specs.declared.standing.Standing.TheVariants.{Empty}
use Rattle.job_all.specs.Decisions.{decided}
use Rattle.job_all.specs.Jobs.{settled, sized, floor_start, opened, opened_by, opened_text}

-- a planner can be set up
abbrev pub SetUp : Start Seconds → Type 0
SetUp s = set_up_answer s.records s.floor.places s.target s.place ≡ Ok tt

-- the line is a floor line of a size that can be made, and a planner can be set up
pub record FloorLine (n : ℕ) (l : Line) (s : Start Seconds) : Type 0 where
  pub rows : ℕ
  pub columns : ℕ
  pub least : ℕ
  pub target : ℕ
  pub place : ℕ
  pub line_is : l ≡ Floor rows columns least target place
  pub start_is : floor_start n rows columns least target place ≡ s
  pub size : hall_size rows columns ≡ true
  pub set_up_lem : SetUp s

settled_ok : (a s : Start Seconds) (r : Result (Unit {0}) Refusal) → settled a r ≡ Ok s → (a ≡ s) × (r ≡ Ok tt)
settled_ok a s (Ok u) e = (cc, refl)
settled_ok a s (Err why) e = cc

sized_ok : (a s : Start Seconds) (fits : Bool) → sized a fits ≡ Ok s → (a ≡ s) × (fits ≡ true) × SetUp a
sized_ok a s true e = let k = settled_ok a s (set_up_answer a.records a.floor.places a.target a.place) e in (k.0, refl, k.1)
sized_ok a s false e = cc

opened_floor : (n : ℕ) (l : Line) (s : Start Seconds) → opened n l ≡ Ok s → FloorLine n l s
opened_floor n (Floor rows columns least target place) s e =
    let k = sized_ok (floor_start n rows columns least target place) s (hall_size rows columns) e in
    record { rows = rows; columns = columns; least = least; target = target; place = place; line_is = refl; start_is = k.0; size = k.1; set_up_lem = subst SetUp k.0 k.2 }
opened_floor n (Change spot toll) s e = cc
opened_floor n (Put place) s e = cc
opened_floor n Route s e = cc
opened_floor n Step s e = cc
opened_floor n Halt s e = cc
opened_floor n (Query place) s e = cc
opened_floor n Tally s e = cc

by_floor : (n : ℕ) (r : Result Line Refusal) (s : Start Seconds) → opened_by n r ≡ Ok s → (l : Line) × (r ≡ Ok l) × FloorLine n l s
by_floor n (Err why) s e = cc
by_floor n (Ok l) s e = (l, refl, opened_floor n l s e)

-- a line that is accepted where there is no floor
pub accepted_floor : (n : ℕ) (l : List ℕ) (s : Start Seconds) → opened_text n l ≡ Ok s → (k : Line) × (decided Empty (parse_line l) ≡ Ok k) × FloorLine n k s
accepted_floor n l s e = by_floor n (decided Empty (parse_line l)) s e

pub sets_up : (n : ℕ) (r : Result Line Refusal) (s : Start Seconds) → opened_by n r ≡ Ok s → SetUp s
sets_up n r s e = (by_floor n r s e).2.set_up_lem
