-- Halls: cells in rows and columns. Lane 4 × cell + d leaves its cell upwards, to the right, downwards or to the left for d = 0, 1, 2, 3.
-- cell columns r k               the number of the cell in row r and column k
-- beside, next                   the cell beside another, by row and column and by number
-- grid_lane, grid_estimate       the lanes and the estimate of a hall
-- grid_meaning                   a hall as a floor; hall_meaning is that of the code's hall
-- hall_size                      whether a hall of that size can be made
use Rattle.std.specs.Prelude.{ℕ, zero, suc, ◌+◌, ◌-◌, ◌*◌, ◌/◌, ◌%◌, Bool, cond, ◌&&◌, List, map, take, Some, None, Option, ◌==◌, nat_le, nat_lt}
use Rattle.std.specs.Option.{option_map}
use Rattle.toll.specs.Tolls.{Tolls}
use Rattle.toll.specs.SecondsKind.{seconds, seconds_kind}
use Rattle.toll.specs.declared.seconds.Seconds.{Seconds}
use Rattle.floor.specs.Meaning.{Lane, Meaning}
use Rattle.floor.specs.declared.hall.Hall.{Hall}

-- the number of the cell in row r and column k
abbrev pub cell : (columns r k : ℕ) → ℕ
cell columns r k = r * columns + k

-- x, where the test holds
abbrev pub given : {A : Type 0} → Bool → A → Option A
given b x = cond b (Some x) None

-- the cell above (d = 0), right of (1), below (2) or left of (3) row r and column k, unless it is outside the hall
abbrev pub beside : (rows columns r k d : ℕ) → Option ℕ
beside rows columns r k d =
    cond (d == 0) (given (nat_lt 0 r) (cell columns (r - 1) k))
    (cond (d == 1) (given (nat_lt (k + 1) columns) (cell columns r (k + 1)))
    (cond (d == 2) (given (nat_lt (r + 1) rows) (cell columns (r + 1) k))
    (given (nat_lt 0 k) (cell columns r (k - 1)))))

-- the cell beside cell c in direction d
abbrev pub next : (rows columns c d : ℕ) → Option ℕ
next rows columns c d = beside rows columns (c / columns) (c % columns) d

-- lane l leaves cell l / 4 in direction l % 4; its spot is the cell that it enters
abbrev pub grid_lane : (rows columns l : ℕ) → Option Lane
grid_lane rows columns l =
    cond (nat_lt (l / 4) (rows * columns)) (option_map (λ e. record { leaves = l / 4; enters = e; spot = e }) (next rows columns (l / 4) (l % 4))) None

-- how far two numbers are apart
abbrev pub gap : ℕ → ℕ → ℕ
gap a b = (a - b) + (b - a)

-- the row difference and the column difference of two cells, added
abbrev pub away : (columns a b : ℕ) → ℕ
away columns a b = gap (a / columns) (b / columns) + gap (a % columns) (b % columns)

-- a toll joined n times
abbrev pub repeated : {T : Type 0} → Tolls T → T → ℕ → T
repeated A t zero = A.zero
repeated A t (suc n) = A.join (repeated A t n) t

-- the least toll, as often as rows and columns lie between
abbrev pub grid_estimate : (rows columns : ℕ) → Seconds → ℕ → ℕ → Option Seconds
grid_estimate rows columns least a b =
    given (nat_lt a (rows * columns) && nat_lt b (rows * columns)) (repeated seconds_kind least (away columns a b))

-- a hall with one least toll, and the tolls of its cells in their order
abbrev pub grid_meaning : (rows columns : ℕ) → Seconds → List Seconds → Meaning Seconds
grid_meaning rows columns least tolls = record {
  places = rows * columns;
  lanes = 4 * (rows * columns);
  lane = grid_lane rows columns;
  spots = map (λ t. record { toll = t; least = least }) tolls;
  estimate = grid_estimate rows columns least;
}

-- what the code's hall means
abbrev pub hall_meaning : Hall → Meaning Seconds
hall_meaning h = grid_meaning h.rows h.columns h.least (map seconds (take (h.rows * h.columns) h.cells.tolls))

-- a hall has at least a row and a column, and at most 1,024 cells
abbrev pub hall_size : (rows columns : ℕ) → Bool
hall_size rows columns = nat_lt 0 rows && nat_lt 0 columns && nat_le (rows * columns) 1024
