-- The table of worked cases, and the statement that every row holds.
use Rattle.std.specs.Prelude.{true, false, List, [], ◌∷◌, codes}
use Rattle.std.specs.List.{AllByRecursion}
use Rattle.cases.specs.Rows.{GateLane, Row, join_seconds, join_gates, less_gates, make_hall, route_plan, run_job, Holds}

-- three lanes: 0 to 1 and 1 to 2 at (0; 30) each, 0 to 2 at (1; 5)
abbrev pub three_lanes : List GateLane
three_lanes =
    record { u = 0; v = 1; gates = 0; seconds = 30 }
    ∷ record { u = 1; v = 2; gates = 0; seconds = 30 }
    ∷ record { u = 0; v = 2; gates = 1; seconds = 5 }
    ∷ []

abbrev pub table : List Row
table =
    join_seconds 4294967293 1 4294967294
    ∷ join_seconds 4294967294 1 4294967295
    ∷ join_gates 0 4294967295 0 1 0 4294967295
    ∷ less_gates 0 4294967295 1 0
    ∷ join_gates 65534 7 1 0 65535 0
    ∷ make_hall 32 32 true
    ∷ make_hall 1 1024 true
    ∷ make_hall 25 41 false
    ∷ route_plan 3 three_lanes 2 0 0 60 2 (0 ∷ 1 ∷ 2 ∷ [])
    ∷ run_job (codes "F 2 3 1 2 0\nR\n") (codes "ok 6\nok 2 2 0 1 2\n")
    ∷ []

abbrev pub WorkedCases : Type 0
WorkedCases = AllByRecursion Holds table
