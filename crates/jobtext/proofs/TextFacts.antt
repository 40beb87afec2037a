-- The places of a way are fields.
use Rattle.std.proofs.Common.{◌≡◌, ℕ, List, [], ◌∷◌, ◌++◌, map, Some, refl, ap}
use Rattle.std.specs.List.{flat_map}
use Rattle.jobtext.specs.LineTexts.{spaced}
use Rattle.jobtext.specs.Texts.{field_text}

pub joined_some : (ns : List ℕ) → flat_map field_text (map Some ns) ≡ flat_map spaced ns
joined_some [] = refl
joined_some (n ∷ ns) = ap (λ t. spaced n ++ t) (joined_some ns)
