-- Ways, keys and expansions over charts, where shut stands for absence.
use Rattle.std.proofs.Common.{◌≡◌, ℕ, true, false, List, [], ◌∷◌}
use Rattle.toll.specs.Tolls.{Tolls, Le, Lt}
use Rattle.floor.specs.Rising.{In}
use Rattle.astar.specs.Sound.{Chart, InTree}
use Rattle.astar.specs.declared.key.Key.{Key}

-- the toll of the way from p over the places w
abbrev pub toll : {T : Type 0} → Tolls T → (ℕ → ℕ → T) → ℕ → List ℕ → T
toll A c p [] = A.zero
toll A c p (q ∷ w) = A.join (c p q) (toll A c q w)

-- an estimate over the lanes c (a lane that is not there has the toll shut)
pub record Estimate {T : Type 0} (A : Tolls T) (c : ℕ → ℕ → T) (h : ℕ → ℕ → T) : Type 0 where
  pub self : (a : ℕ) → h a a ≡ A.zero
  pub step : (a u v : ℕ) → Le A (h a v) (A.join (h a u) (c u v))

abbrev pub key : {T : Type 0} → Tolls T → (ℕ → T) → Chart T → ℕ → Key T
key A h S x = record { far = A.join (h x) (S.g x); near = S.g x }

-- k is at most m
pub record KeyLe {T : Type 0} (A : Tolls T) (k m : Key T) : Type 0 where
  pub far : Le A k.far m.far
  pub near : Le A m.far k.far → Le A k.near m.near

pub record Solved {T : Type 0} (A : Tolls T) (h : ℕ → ℕ → T) (s : ℕ) (S : Chart T) : Type 0 where
  pub inside : InTree A S s
  pub bound : (x : ℕ) → S.is_open x ≡ true → KeyLe A (record { far = S.g s; near = S.g s }) (key A (h s) S x)

-- x is opened out: S is before, S' after
pub record Step {T : Type 0} (A : Tolls T) (c : ℕ → ℕ → T) (x : ℕ) (S S' : Chart T) : Type 0 where
  pub kept : (u : ℕ) → Le A (S.g u) (A.join (c u x) (S.g x)) → (S'.g u ≡ S.g u) × (S'.next u ≡ S.next u)
  pub made : (u : ℕ) → Lt A (A.join (c u x) (S.g x)) (S.g u) → (S'.g u ≡ A.join (c u x) (S.g x)) × (S'.next u ≡ x) × (S'.is_open u ≡ true)
  pub closes : S'.is_open x ≡ false
  pub rest : (u : ℕ) → Le A (S.g u) (A.join (c u x) (S.g x)) → ¬ (u ≡ x) → S'.is_open u ≡ S.is_open u

-- x is an open place with the least key
pub record Least {T : Type 0} (A : Tolls T) (h : ℕ → T) (S : Chart T) (x : ℕ) : Type 0 where
  pub itself : S.is_open x ≡ true
  pub among : (y : ℕ) → S.is_open y ≡ true → KeyLe A (key A h S x) (key A h S y)

-- where a run stands: K is the last key that it chose, done are the places that it has expanded
pub record Front {T : Type 0} (A : Tolls T) (h : ℕ → T) (S : Chart T) (K : Key T) (done : List ℕ) : Type 0 where
  pub ahead : (y : ℕ) → S.is_open y ≡ true → KeyLe A K (key A h S y)
  pub behind : (z : ℕ) → In z done → (S.is_open z ≡ false) × KeyLe A (key A h S z) K
