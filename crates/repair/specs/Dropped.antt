-- Which places leave the tree when tolls change, told without steps.
-- RecordedWay E t p w          w are the places after p on its recorded way
-- BecameDearer, UsesDearer     a lane became dearer; a way uses such a lane
-- Left E E' p                  p has left the tree
-- Dropped                      exactly the places whose recorded way uses a lane that became dearer leave; all others keep toll and next place
use Rattle.std.specs.Prelude.{◌≡◌, ℕ, true, false, ◌⊎◌, List, [], ◌∷◌, is_some, Some}
use Rattle.toll.specs.Tolls.{Tolls, Lt}
use Rattle.floor.specs.Meaning.{Meaning, lane_toll, lane_ends}
use Rattle.tree.specs.Tree.{Entry, toll_at, next_at}

-- the recorded way from p follows next places to the target t; w are its places after p
abbrev pub RecordedWay : {T : Type 0} → List (Entry T) → (t p : ℕ) → List ℕ → Type 0
RecordedWay E t p [] = p ≡ t
RecordedWay E t p (q ∷ w) = (¬ (p ≡ t)) × (next_at E p ≡ Some q) × RecordedWay E t q w

-- the lane from p to q became dearer
pub record BecameDearer {T : Type 0} (A : Tolls T) (before after : Meaning T) (p q : ℕ) : Type 0 where
  pub lane : ℕ
  pub leads : lane_ends before lane ≡ Some (p, q)
  pub old : T
  pub new : T
  pub was : lane_toll before lane ≡ Some old
  pub is : lane_toll after lane ≡ Some new
  pub more : Lt A old new

-- the way from p over the places w uses a lane that became dearer
abbrev pub UsesDearer : {T : Type 0} → Tolls T → (before after : Meaning T) → ℕ → List ℕ → Type 0
UsesDearer A before after p [] = ⊥
UsesDearer A before after p (q ∷ w) = BecameDearer A before after p q ⊎ UsesDearer A before after q w

-- place p was in the tree E and is not in the tree E'
abbrev pub Left : {T : Type 0} → (E E' : List (Entry T)) → ℕ → Type 0
Left E E' p = (is_some (toll_at E p) ≡ true) × (is_some (toll_at E' p) ≡ false)

pub record Dropped {T : Type 0} (A : Tolls T) (t : ℕ) (before : Meaning T) (E : List (Entry T)) (after : Meaning T) (E' : List (Entry T)) : Type 0 where
  -- a place that left has a recorded way, and it uses a lane that became dearer
  pub only : (p : ℕ) → Left E E' p → (w : List ℕ) × RecordedWay E t p w × UsesDearer A before after p w
  -- every such place of the tree left
  pub every : (p : ℕ) (w : List ℕ) → is_some (toll_at E p) ≡ true → RecordedWay E t p w → UsesDearer A before after p w → Left E E' p
  -- any other place has the toll and the next place that it had
  pub others : (p : ℕ) → ¬ (Left E E' p) → (toll_at E' p ≡ toll_at E p) × (next_at E' p ≡ next_at E p)
