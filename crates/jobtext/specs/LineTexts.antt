-- The one text of each line of a job: a letter, then its numbers, each after one blank.
--     letter l          the letter that it begins with
--     numbers l         its numbers, in their order
--     spaced n          a number after a blank
--     text_of l          its text
--     Spells bs l       bs is its text, and its numbers fit 32 bits
use Rattle.std.specs.Prelude.{◌≡◌, ℕ, ◌<◌, List, [], ◌∷◌, decimal}
use Rattle.std.specs.List.{AllByRecursion, flat_map}
use Rattle.jobtext.specs.declared.line.Line.{Line}
use Rattle.jobtext.specs.declared.line.Line.TheVariants.{Floor, Change, Put, Route, Step, Halt, Query, Tally}

-- The letter that a line begins with, by its code.
abbrev pub letter : Line → ℕ
letter (Floor rows columns least target place) = 70  -- F
letter (Change spot toll) = 67  -- C
letter (Put place) = 80  -- P
letter Route = 82  -- R
letter Step = 83  -- S
letter Halt = 72  -- H
letter (Query place) = 81  -- Q
letter Tally = 84  -- T

-- The numbers of a line, in the order in which they are written.
abbrev pub numbers : Line → List ℕ
numbers (Floor rows columns least target place) = rows ∷ columns ∷ least ∷ target ∷ place ∷ []
numbers (Change spot toll) = spot ∷ toll ∷ []
numbers (Put place) = place ∷ []
numbers Route = []
numbers Step = []
numbers Halt = []
numbers (Query place) = place ∷ []
numbers Tally = []

-- A number after a blank.
abbrev pub spaced : ℕ → List ℕ
spaced n = 32 ∷ decimal n

-- The text of a line.
abbrev pub text_of : Line → List ℕ
text_of l = letter l ∷ flat_map spaced (numbers l)

-- The bytes are the text of the line, and its numbers fit 32 bits.
pub record Spells (bs : List ℕ) (l : Line) : Type 0 where
  pub same : bs ≡ text_of l
  pub fit : AllByRecursion (λ n. n < 4294967296) (numbers l)
