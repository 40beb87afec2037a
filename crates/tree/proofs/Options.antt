-- A value that may be there.
use Rattle.std.proofs.Common.{◌≡◌, ℕ, Bool, true, false, cond, ◌⊎◌, is_some, Some, None, Option, refl, inl, inr, arith}
use Rattle.std.specs.Option.{option_map}
use Rattle.floor.specs.Meaning.{then}

-- an option is there or not
pub there? : {A : Type 0} (o : Option A) → (o ≡ None) ⊎ ((x : A) × (o ≡ Some x))
there? None = inl refl
there? (Some x) = inr (x, refl)

pub is_some_is : {A : Type 0} (o : Option A) → is_some o ≡ true → (x : A) × (o ≡ Some x)
is_some_is None e = absurd (let z : ◌≡◌ {A = ℕ} 0 1 = cc in omega arith)
is_some_is (Some x) e = (x, refl)

-- a value that follows from another
pub then_some : {A B : Type 0} (o : Option A) (f : A → Option B) (y : B) → then o f ≡ Some y → (x : A) × (o ≡ Some x) × (f x ≡ Some y)
then_some None f y e = absurd (let z : ◌≡◌ {A = ℕ} 0 1 = cc in omega arith)
then_some (Some x) f y e = (x, refl, e)

pub mapped_some : {A B : Type 0} (o : Option A) (f : A → B) (y : B) → option_map f o ≡ Some y → (x : A) × (o ≡ Some x) × (f x ≡ y)
mapped_some None f y e = absurd (let z : ◌≡◌ {A = ℕ} 0 1 = cc in omega arith)
mapped_some (Some x) f y e = (x, refl, cc)

pub cond_some : {A : Type 0} (b : Bool) (x y : A) → cond b (Some x) None ≡ Some y → (b ≡ true) × (x ≡ y)
cond_some true x y e = (refl, cc)
cond_some false x y e = absurd (let z : ◌≡◌ {A = ℕ} 0 1 = cc in omega arith)
