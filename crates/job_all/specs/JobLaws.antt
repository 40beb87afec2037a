-- What holds of what every job prints, in the words of its lines and their answers.
-- Exchange                     a line of a job with its answer
-- OneLine                      an answer is one line of text
-- changes log                  the changes among some exchanges that were accepted, in order
-- hall_after                   the hall of a floor line after some changes
-- LeastRoute                   an answered route line
-- JobLaws text                 the laws of the job text
use Rattle.std.specs.Prelude.{◌≡◌, ℕ, ◌*◌, Bool, true, cond, List, [], ◌∷◌, ◌++◌, map, replicate, Some, None, codes, Option, ◌==◌, slice_index}
use Rattle.std.specs.List.{AllByRecursion, flat_map}
use Rattle.toll.specs.SecondsKind.{seconds, seconds_kind}
use Rattle.toll.specs.declared.seconds.Seconds.{Seconds}
use Rattle.floor.specs.Meaning.{Meaning}
use Rattle.floor.specs.Setting.{set_meaning}
use Rattle.floor.specs.Grid.{grid_meaning}
use Rattle.planner.specs.Served.{World, parked_at}
use Rattle.tree.specs.Ways.{Least}
use Rattle.planner.specs.Promise.{PassableWay}
use Rattle.jobtext.specs.LineTexts.{text_of, Spells}
use Rattle.jobtext.specs.Texts.{ok_line, no_line, route_line}
use Rattle.jobtext.specs.Lines.{Whole, lines}
use Rattle.jobtext.specs.Parsing.{parse_line}
use Rattle.jobtext.specs.declared.line.Line.{Line}
use Rattle.jobtext.specs.declared.line.Line.TheVariants.{Floor, Change, Put, Route, Step, Halt, Query, Tally}
use Rattle.job_all.specs.Jobs.{Stage, empty, running, stepped, job_text}

-- a line of a job with its answer
pub record Exchange : Type 0 where
  pub line : List ℕ
  pub answer : List ℕ

-- text with no newline in it, and then a newline
pub record OneLine (answer : List ℕ) : Type 0 where
  pub body : List ℕ
  pub whole : Whole body
  pub is : answer ≡ body ++ (10 ∷ [])

-- a line is written in a known form
abbrev pub Formed : List ℕ → Type 0
Formed l = (k : Line) × Spells l k

-- an answer that begins with the letter o is no refusal
abbrev pub accepted : List ℕ → Bool
accepted answer = slice_index answer 0 == 111

-- spot and toll of a change that was accepted
abbrev pub change_of : Option Line → (answer : List ℕ) → List (ℕ × ℕ)
change_of None answer = []
change_of (Some (Floor rows columns least target place)) answer = []
change_of (Some (Change spot toll)) answer = cond (accepted answer) ((spot, toll) ∷ []) []
change_of (Some (Put place)) answer = []
change_of (Some Route) answer = []
change_of (Some Step) answer = []
change_of (Some Halt) answer = []
change_of (Some (Query place)) answer = []
change_of (Some Tally) answer = []

-- the changes among some exchanges that were accepted, in order
abbrev pub changes : List Exchange → List (ℕ × ℕ)
changes [] = []
changes (e ∷ log) = change_of (parse_line e.line) e.answer ++ changes log

-- a floor with those tolls set, one after the other
abbrev pub changed_by : Meaning Seconds → List (ℕ × ℕ) → Meaning Seconds
changed_by m [] = m
changed_by m (c ∷ cs) = changed_by (set_meaning seconds_kind m c.0 (seconds c.1)) cs

-- a hall with every cell at its least toll, after some changes
abbrev pub hall_after : (rows columns least : ℕ) → List (ℕ × ℕ) → Meaning Seconds
hall_after rows columns least cs = changed_by (grid_meaning rows columns (seconds least) (replicate (rows * columns) (seconds least))) cs

-- where a job stands after some lines
abbrev pub stage_after : Stage → List (List ℕ) → Stage
stage_after s [] = s
stage_after s (l ∷ ls) = stage_after (stepped s l).stage ls

-- a route line that is answered, and the exchanges before it
pub record LeastRoute (before : List Exchange) (answer : List ℕ) : Type 0 where
  -- one of them is a floor line that was accepted; the others are earlier ones and those since
  pub earlier : List Exchange
  pub since : List Exchange
  pub rows : ℕ
  pub columns : ℕ
  pub least : ℕ
  pub target : ℕ
  pub place : ℕ
  pub opening : before ≡ earlier ++ (record { line = text_of (Floor rows columns least target place); answer = ok_line (Some (rows * columns) ∷ []) } ∷ since)
  -- the carrier is parked at a place
  pub start : ℕ
  pub world : World Seconds
  pub parked : stage_after (empty 1024) (map (λ e. e.line) before) ≡ running world (parked_at start)
  -- a way leads from there to the target with a toll below shut, on that hall as the changes accepted since left it
  pub found : PassableWay seconds_kind (hall_after rows columns least (changes since)) target start
  -- no way from there to the target has a smaller toll
  pub cheapest : Least seconds_kind (hall_after rows columns least (changes since)) target start found.toll
  -- the answer tells that toll, a count and the places of that way
  pub count : ℕ
  pub told : answer ≡ route_line found.toll.value count (start ∷ found.way)

pub record JobLaws (text : List ℕ) : Type 0 where
  -- each line of the job has one answer
  pub log : List Exchange
  pub each : map (λ e. e.line) log ≡ lines text
  -- the job prints these answers one after the other, and nothing else
  pub prints : job_text text ≡ flat_map (λ e. e.answer) log
  -- each answer is one line of text
  pub single : AllByRecursion (λ e. OneLine e.answer) log
  -- a line of no known form is answered with 13
  pub formless : AllByRecursion (λ e. ¬ (Formed e.line) → e.answer ≡ no_line 13) log
  -- and no other is
  pub formed : AllByRecursion (λ e. Formed e.line → ¬ (e.answer ≡ no_line 13)) log
  -- an answered route is a cheapest way on the hall as the accepted changes left it
  pub routes : (before after : List Exchange) (e : Exchange) → log ≡ before ++ (e ∷ after) → e.line ≡ codes "R" → accepted e.answer ≡ true → LeastRoute before e.answer
