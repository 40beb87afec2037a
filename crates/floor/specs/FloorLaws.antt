-- What every floor owes: the laws of its meaning.
use Rattle.std.specs.Prelude.{◌≡◌, ℕ, ◌<◌, ◌≤◌, true, List, [], length, is_some, Some, ◌≢◌}
use Rattle.std.specs.List.{slice_get}
use Rattle.toll.specs.Tolls.{Tolls, Le}
use Rattle.floor.specs.Rising.{Rises, In}
use Rattle.floor.specs.Meaning.{Lane, Spot, Meaning, lane_toll, out_of, into, of_spot}

-- xs are the numbers of exactly those lanes of which the part is p, strictly rising
pub record Listed {T : Type 0} (m : Meaning T) (part : Lane → ℕ) (p : ℕ) (xs : List ℕ) : Type 0 where
  pub rising : Rises 0 xs
  pub every : (l : ℕ) (x : Lane) → m.lane l ≡ Some x → part x ≡ p → In l xs
  pub only : (l : ℕ) → In l xs → (x : Lane) × (m.lane l ≡ Some x) × (part x ≡ p)

pub record FloorLaws {T : Type 0} (A : Tolls T) (m : Meaning T) : Type 0 where
  -- there are 1 to 1,024 places
  pub some_place : 0 < m.places
  pub few_places : m.places ≤ 1024
  -- lane numbers are below 8,192
  pub few_lanes : m.lanes ≤ 8192
  pub numbered : (l : ℕ) (x : Lane) → m.lane l ≡ Some x → l < m.lanes
  -- a lane's ends are places and differ, and its spot is a spot
  pub leaves_place : (l : ℕ) (x : Lane) → m.lane l ≡ Some x → x.leaves < m.places
  pub enters_place : (l : ℕ) (x : Lane) → m.lane l ≡ Some x → x.enters < m.places
  pub ends_differ : (l : ℕ) (x : Lane) → m.lane l ≡ Some x → x.leaves ≢ x.enters
  pub known_spot : (l : ℕ) (x : Lane) → m.lane l ≡ Some x → x.spot < length m.spots
  -- no two lanes share both ends in the same order
  pub single : (l k : ℕ) (x y : Lane) → m.lane l ≡ Some x → m.lane k ≡ Some y → x.leaves ≡ y.leaves → x.enters ≡ y.enters → l ≡ k
  -- no spot's toll is below its least toll
  pub above_least : (k : ℕ) (s : Spot T) → slice_get m.spots k ≡ Some s → Le A s.least s.toll
  -- the k-th lanes out of a place, into a place and of a spot rise and are exactly those lanes; elsewhere there are none
  pub out_listed : (p : ℕ) → Listed m (λ x. x.leaves) p (out_of m p)
  pub into_listed : (p : ℕ) → Listed m (λ x. x.enters) p (into m p)
  pub spot_listed : (s : ℕ) → Listed m (λ x. x.spot) s (of_spot m s)
  pub out_nowhere : (p : ℕ) → m.places ≤ p → out_of m p ≡ []
  pub into_nowhere : (p : ℕ) → m.places ≤ p → into m p ≡ []
  pub spot_nowhere : (s : ℕ) → length m.spots ≤ s → of_spot m s ≡ []
  -- the estimate is a toll for each pair of places, none elsewhere, and zero from a place to itself
  pub estimate_known : (a b : ℕ) → a < m.places → b < m.places → is_some (m.estimate a b) ≡ true
  pub estimate_nowhere : (a b : ℕ) → is_some (m.estimate a b) ≡ true → (a < m.places) × (b < m.places)
  pub estimate_here : (a : ℕ) → a < m.places → m.estimate a a ≡ Some A.zero
  -- from a to c it is at most the estimate from a to b joined with the toll of a lane from b to c
  pub estimate_step : (a l : ℕ) (x : Lane) (t d e : T) → m.lane l ≡ Some x → lane_toll m l ≡ Some t → m.estimate a x.leaves ≡ Some d → m.estimate a x.enters ≡ Some e → Le A e (A.join d t)
