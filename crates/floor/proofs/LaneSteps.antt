-- Going through the lanes of a floor, one after the other.
use Rattle.std.proofs.Common.{◌≡◌, ℕ, zero, suc, ◌+◌, ◌<◌, ◌≤◌, List, [], ◌∷◌, length, drop, Some, ap, add-one, arith}
use Rattle.std.specs.List.{slice_get}
use Rattle.std.proofs.lemmas.Option.{slice_get_within}
use Rattle.toll.specs.Tolls.{Tolls}
use Rattle.floor.specs.Meaning.{Meaning}
use Rattle.floor.specs.FloorLaws.{FloorLaws}
use Rattle.floor.specs.LanesLeft.{asked, lanes_left}
use Rattle.floor.specs.declared.lanes.Lanes.{Lanes}
use Rattle.std.specs.Iterator.{YieldsFirst}
use Rattle.std.proofs.lemmas.Iterator.{YieldsList}
use Rattle.std.proofs.lemmas.Iterator.Consumers.{YieldsList-from_first}
use Rattle.floor.specs.declared.lanes.Which.{Which}
use Rattle.floor.specs.declared.lanes.Which.TheVariants.{OutOf, Into, OfSpot}
use Rattle.floor.proofs.FloorFacts.{listed_few}

module _ {A : Type 0} where
  -- an element that is there, and what is behind it
  pub drop_at : (xs : List A) (k : ℕ) (x : A) → slice_get xs k ≡ Some x → drop k xs ≡ x ∷ drop (k + 1) xs
  drop_at [] k x e = absurd (let z : ◌≡◌ {A = ℕ} 0 1 = cc in omega arith)
  drop_at (y ∷ ys) zero x e = ap (λ (z : A). z ∷ ys) (let r : y ≡ x = cc in r)
  drop_at (y ∷ ys) (suc k) x e = rw add-one (rw add-one at (drop_at ys k x e))

-- there are at most as many as lane numbers
pub asked_few : {T : Type 0} (m : Meaning T) (w : Which) → length (asked m w) ≤ m.lanes
asked_few m (OutOf p) = listed_few m (λ x. x.leaves) p
asked_few m (Into p) = listed_few m (λ x. x.enters) p
asked_few m (OfSpot s) = listed_few m (λ x. x.spot) s

-- a lane that is there has a number that can be counted on
pub asked_below : {T : Type 0} {A : Tolls T} (m : Meaning T) (w : Which) (k l : ℕ) → FloorLaws A m → slice_get (asked m w) k ≡ Some l → k < 8192
asked_below m w k l laws e = omega (arith, slice_get_within (asked m w) k l e, asked_few m w, laws.few_lanes)

-- a chain over the lanes gives those that are left
pub lanes_come : {F T : Type 0} (meaning : F → Meaning T) (it : Lanes F) (xs : List ℕ) → lanes_left meaning it ≡ xs → YieldsList (YieldsFirst (lanes_left meaning)) (λ x. x) it xs
lanes_come meaning it xs e = YieldsList-from_first (λ x. x) (lanes_left meaning) xs e
