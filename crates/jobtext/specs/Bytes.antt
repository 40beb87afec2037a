-- Cutting bytes at a mark.
--     front mark bs     what stands before the first mark
--     rest mark bs      what stands behind it, if there is one
use Rattle.std.specs.Prelude.{ℕ, cond, List, [], ◌∷◌, Some, None, Option, ◌==◌}

-- What stands before the first mark; all of it if there is none.
abbrev pub front : ℕ → List ℕ → List ℕ
front mark [] = []
front mark (b ∷ bs) = cond (b == mark) [] (b ∷ front mark bs)

-- What stands behind the first mark, if there is one.
abbrev pub rest : ℕ → List ℕ → Option (List ℕ)
rest mark [] = None
rest mark (b ∷ bs) = cond (b == mark) (Some bs) (rest mark bs)
