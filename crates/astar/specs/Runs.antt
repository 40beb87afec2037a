-- Runs of the search, as a relation: each place in its turn is the open place with the smallest key.
-- Once xs                      no place stands twice in xs
-- Chosen A m s E x             x is the open place with the smallest key seen from s; ties go to the smaller number
-- Expands A m s E xs E'        expanding the places xs, each chosen in its turn while the search is not solved, leads from E to E'
use Rattle.std.specs.Prelude.{◌≡◌, ℕ, ◌<◌, true, false, List, [], ◌∷◌, Some}
use Rattle.toll.specs.Tolls.{Tolls}
use Rattle.floor.specs.Rising.{In}
use Rattle.floor.specs.Meaning.{Meaning}
use Rattle.tree.specs.Tree.{Entry, open_toll}
use Rattle.astar.specs.Search.{key, key_le, solved, expand}

-- no place stands twice in the list
abbrev pub Once : List ℕ → Type 0
Once [] = Unit {0}
Once (x ∷ xs) = (¬ (In x xs)) × Once xs

-- x is open, its key is at most that of every open place, and below that of every open place with a smaller number
pub record Chosen {T : Type 0} (A : Tolls T) (m : Meaning T) (s : ℕ) (E : List (Entry T)) (x : ℕ) : Type 0 where
  pub toll : T
  pub is_open : open_toll E x ≡ Some toll
  pub smallest : (y : ℕ) (g : T) → open_toll E y ≡ Some g → key_le A (key A m s x toll) (key A m s y g) ≡ true
  pub first : (y : ℕ) (g : T) → open_toll E y ≡ Some g → y < x → key_le A (key A m s y g) (key A m s x toll) ≡ false

-- the places xs are expanded in their order, each chosen in its turn
pub data Expands {T : Type 0} (A : Tolls T) (m : Meaning T) (s : ℕ) : List (Entry T) → List ℕ → List (Entry T) → Type 0 where
  none : {E : List (Entry T)} → Expands A m s E [] E
  more : {E E' : List (Entry T)} {xs : List ℕ} (x : ℕ) → solved A m s E ≡ false → Chosen A m s E x → Expands A m s (expand A m x E) xs E' → Expands A m s E (x ∷ xs) E'
