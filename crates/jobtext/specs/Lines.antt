-- The lines of a text, each of which ends at a newline; the last may lack it.
--     behind bs         what is behind the first line
--     lines bs          the lines, without their newlines
--     lines_left s      the lines that an iterator has left
--     closed ls         the text of the lines ls, each with its newline
--     LineLaws          the lines of a text that is put together from lines are those lines
use Rattle.std.specs.Prelude.{◌≡◌, ℕ, ◌<◌, cond, List, [], ◌∷◌, ◌++◌, length, ◌==◌, ◌≢◌}
use Rattle.std.specs.Option.{unwrap_or}
use Rattle.std.specs.List.{AllByRecursion}
use Rattle.jobtext.specs.Bytes.{rest}
use Rattle.jobtext.specs.declared.lines.Lines.{Lines}

-- What is behind the first newline; nothing if there is none.
abbrev pub behind : List ℕ → List ℕ
behind bs = unwrap_or (rest 10 bs) []

-- The lines with one more byte in front of the first.
abbrev pub onto : ℕ → List (List ℕ) → List (List ℕ)
onto b [] = (b ∷ []) ∷ []
onto b (l ∷ ls) = (b ∷ l) ∷ ls

-- The lines of a text; an empty text has none.
abbrev pub lines : List ℕ → List (List ℕ)
lines [] = []
lines (b ∷ bs) = cond (b == 10) ([] ∷ lines bs) (onto b (lines bs))

-- The lines that an iterator has left.
abbrev pub lines_left : Lines → List (List ℕ)
lines_left s = lines s.left.now

-- A line has no newline in it.
abbrev pub Whole : List ℕ → Type 0
Whole l = AllByRecursion (λ b. b ≢ 10) l

-- The text of the lines, each with its newline.
abbrev pub closed : List (List ℕ) → List ℕ
closed [] = []
closed (l ∷ ls) = l ++ (10 ∷ closed ls)

-- The lines of a text are those that it is put together from, be the last one closed or not.
pub record LineLaws : Type 0 where
  pub all_closed : (ls : List (List ℕ)) → AllByRecursion Whole ls → lines (closed ls) ≡ ls
  pub last_open : (ls : List (List ℕ)) (l : List ℕ) → AllByRecursion Whole ls → Whole l → 0 < length l → lines (closed ls ++ l) ≡ ls ++ (l ∷ [])
