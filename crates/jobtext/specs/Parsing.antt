-- Reading a line of a job, step by step. What is left of a line is None at its end, and else what is behind a blank.
--     next_number r      the next number, and what is left behind it
--     ended r x         x, if nothing is left
--     by_letter c r      the line that begins with the letter c
--     parse_line bs      the line that bs writes, if it writes one
use Rattle.std.specs.Prelude.{ℕ, cond, List, [], ◌∷◌, Some, None, Option, ◌==◌}
use Rattle.jobtext.specs.Bytes.{front, rest}
use Rattle.jobtext.specs.Numbers.{number_in}
use Rattle.jobtext.specs.declared.line.Line.{Line}
use Rattle.jobtext.specs.declared.line.Line.TheVariants.{Floor, Change, Put, Route, Step, Halt, Query, Tally}

-- What f makes of the value, if there is one.
abbrev pub then : {A B : Type 0} → Option A → (A → Option B) → Option B
then None f = None
then (Some x) f = f x

-- The next number, and what is left behind it.
abbrev pub next_number : Option (List ℕ) → Option (ℕ × Option (List ℕ))
next_number None = None
next_number (Some bs) = then (number_in (front 32 bs)) (λ n. Some (n, rest 32 bs))

-- x, if nothing is left.
abbrev pub ended : {A : Type 0} → Option (List ℕ) → A → Option A
ended None x = Some x
ended (Some bs) x = None

-- Five numbers and the end: a floor.
abbrev pub floor_line : Option (List ℕ) → Option Line
floor_line r =
    then (next_number r) (λ a.
    then (next_number a.1) (λ b.
    then (next_number b.1) (λ c.
    then (next_number c.1) (λ d.
    then (next_number d.1) (λ e.
    ended e.1 (Floor a.0 b.0 c.0 d.0 e.0))))))

-- Two numbers and the end: a change.
abbrev pub change_line : Option (List ℕ) → Option Line
change_line r = then (next_number r) (λ a. then (next_number a.1) (λ b. ended b.1 (Change a.0 b.0)))

-- One number and the end: the line f.
abbrev pub one_number : (ℕ → Line) → Option (List ℕ) → Option Line
one_number f r = then (next_number r) (λ a. ended a.1 (f a.0))

-- One number and the end.
abbrev pub only_number : Option (List ℕ) → Option ℕ
only_number r = then (next_number r) (λ a. ended a.1 a.0)

-- The line that begins with the letter c (in turn F, C, P, R, S, H, Q, T), read from what is left behind it.
abbrev pub by_letter : ℕ → Option (List ℕ) → Option Line
by_letter c r =
    cond (c == 70) (floor_line r)
    (cond (c == 67) (change_line r)
    (cond (c == 80) (one_number Put r)
    (cond (c == 82) (ended r Route)
    (cond (c == 83) (ended r Step)
    (cond (c == 72) (ended r Halt)
    (cond (c == 81) (one_number Query r)
    (cond (c == 84) (ended r Tally)
    None)))))))

-- The byte of a word of one byte.
abbrev pub single : List ℕ → Option ℕ
single [] = None
single (b ∷ []) = Some b
single (b ∷ c ∷ bs) = None

-- The line that the bytes write, if they write one.
abbrev pub parse_line : List ℕ → Option Line
parse_line bs = then (single (front 32 bs)) (λ c. by_letter c (rest 32 bs))
