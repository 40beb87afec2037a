-- The table of worked cases, and the statement that every row holds.
use Rattle.std.specs.Prelude.{true, false, List, [], ◌∷◌, Some, None, codes}
use Rattle.std.specs.List.{AllByRecursion}
use Rattle.toll.specs.GatesKind.{gates_of}
use Rattle.planner.specs.declared.call.Call.TheVariants.{Change, Route, Halt, Read}
use Rattle.cases_all.specs.Rows.{GateLane, call, exchange, done, route, place, reading, Row, join_seconds, join_gates, less_gates, make_hall, on_plan, run_job, Holds}

-- three lanes: 0 to 1 and 1 to 2 at (0; 30) each, 0 to 2 at (1; 5)
abbrev pub three_lanes : List GateLane
three_lanes =
    record { u = 0; v = 1; gates = 0; seconds = 30 }
    ∷ record { u = 1; v = 2; gates = 0; seconds = 30 }
    ∷ record { u = 0; v = 2; gates = 1; seconds = 5 }
    ∷ []

-- 0 to 1 and 1 to 2 at (0; 1) each, 0 to 2 at (0; 9); and the same without the first lane
abbrev pub three_more : List GateLane
three_more =
    record { u = 0; v = 1; gates = 0; seconds = 1 }
    ∷ record { u = 1; v = 2; gates = 0; seconds = 1 }
    ∷ record { u = 0; v = 2; gates = 0; seconds = 9 }
    ∷ []

abbrev pub two_lanes : List GateLane
two_lanes = record { u = 0; v = 2; gates = 0; seconds = 9 } ∷ record { u = 1; v = 2; gates = 0; seconds = 1 } ∷ []

abbrev pub table : List Row
table =
    join_seconds 4294967293 1 4294967294
    ∷ join_seconds 4294967294 1 4294967295
    ∷ join_gates 0 4294967295 0 1 0 4294967295
    ∷ less_gates 0 4294967295 1 0
    ∷ join_gates 65534 7 1 0 65535 0
    ∷ make_hall 32 32 true
    ∷ make_hall 1 1024 true
    ∷ make_hall 25 41 false
    -- lane 1 is shut behind the route: places 0 and 1 are dropped, and the other lane is taken
    ∷ on_plan 3 three_lanes 2 0
    (call Route ∷ call Halt ∷ call (Change 1 (gates_of 65535 0)) ∷ call (Read 0) ∷ call (Read 1) ∷ call (Read 2) ∷ call Route ∷ [])
    (route 0 60 2 (0 ∷ 1 ∷ 2 ∷ []) ∷ place 0 ∷ done ∷ reading None None ∷ reading None None ∷ reading (Some (0, 0)) None ∷ route 1 5 1 (0 ∷ 2 ∷ []) ∷ [])
    -- the floor is exchanged: place 0 is dropped too, since its recorded way leads over place 1, though no lane does
    ∷ on_plan 3 three_more 2 0
    (call Route ∷ call Halt ∷ exchange two_lanes ∷ call (Change 1 (gates_of 0 5)) ∷ call (Read 0) ∷ call (Read 1) ∷ call Route ∷ [])
    (route 0 2 2 (0 ∷ 1 ∷ 2 ∷ []) ∷ place 0 ∷ done ∷ reading None None ∷ reading None None ∷ route 0 9 2 (0 ∷ 2 ∷ []) ∷ [])
    -- a hall of two rows and three columns: three routes are answered, and the fourth finds every way shut
    ∷ run_job (codes "F 2 3 1 2 0\nR\nC 1 9\nH\nC 1 9\nQ 4\nR\nS\nH\nC 1 1\nQ 0\nR\nH\nC 2 4294967295\nR\nT\n")
    (codes "ok 6\nok 2 2 0 1 2\nno 14\nok 0\nok\nok - -\nok 4 4 0 3 4 5 2\nok 3\nok 3\nok\nok 4 3\nok 3 2 3 4 5 2\nok 3\nok\nno 8\nok 9\n")
    -- a hall of one cell
    ∷ run_job (codes "F 1 1 0 0 0\nR\nS\n") (codes "ok 1\nok 0 0 0\nno 10\n")
    ∷ []

abbrev pub WorkedCases : Type 0
WorkedCases = AllByRecursion Holds table
