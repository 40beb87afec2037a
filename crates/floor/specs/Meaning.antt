-- What a floor is: places, lanes between them, spots with their tolls, estimates.
-- Lane, Spot, Meaning            the nouns
-- lane_toll m l                  the toll of lane l
-- out_of, into, of_spot m p      the numbers of the lanes out of a place, into a place, of a spot
use Rattle.std.specs.Prelude.{ℕ, Bool, false, List, Some, None, Option, ◌==◌}
use Rattle.std.specs.Option.{option_map}
use Rattle.std.specs.List.{slice_get}
use Rattle.floor.specs.Rising.{passing}

-- a lane leads from the place that it leaves to the place that it enters, at the toll of its spot
pub record Lane : Type 0 where
  pub leaves : ℕ
  pub enters : ℕ
  pub spot : ℕ

-- a spot has the toll that stands now, and a least toll below which it never falls
pub record Spot (T : Type 0) : Type 0 where
  pub toll : T
  pub least : T

-- a floor
pub record Meaning (T : Type 0) : Type 0 where
  -- the number of places; they are numbered from 0
  pub places : ℕ
  -- lane numbers are below this
  pub lanes : ℕ
  -- the lane of a number, if there is one
  pub lane : ℕ → Option Lane
  -- the spots, numbered from 0
  pub spots : List (Spot T)
  -- what a carrier pays at the least from one place to another
  pub estimate : ℕ → ℕ → Option T

-- what follows from a value that may be absent
abbrev pub then : {A B : Type 0} → Option A → (A → Option B) → Option B
then None f = None
then (Some x) f = f x

-- the toll of a lane is that of its spot
abbrev pub lane_toll : {T : Type 0} → Meaning T → ℕ → Option T
lane_toll m l = then (m.lane l) (λ x. option_map (λ s. s.toll) (slice_get m.spots x.spot))

-- the two ends of a lane: the place that it leaves and the place that it enters
abbrev pub lane_ends : {T : Type 0} → Meaning T → ℕ → Option (ℕ × ℕ)
lane_ends m l = option_map (λ x. (x.leaves, x.enters)) (m.lane l)

-- whether there is a lane, and a part of it is p
abbrev pub has : (Lane → ℕ) → ℕ → Option Lane → Bool
has part p None = false
has part p (Some x) = part x == p

-- the numbers of the lanes of which a part is p, in rising order
unfoldable pub lanes_by : {T : Type 0} → Meaning T → (Lane → ℕ) → ℕ → List ℕ
lanes_by m part p = passing (λ l. has part p (m.lane l)) 0 m.lanes

-- the lanes out of a place
abbrev pub out_of : {T : Type 0} → Meaning T → ℕ → List ℕ
out_of m p = lanes_by m (λ x. x.leaves) p

-- the lanes into a place
abbrev pub into : {T : Type 0} → Meaning T → ℕ → List ℕ
into m p = lanes_by m (λ x. x.enters) p

-- the lanes of a spot
abbrev pub of_spot : {T : Type 0} → Meaning T → ℕ → List ℕ
of_spot m s = lanes_by m (λ x. x.spot) s
