-- The items of a list, asked for one after the other.
use Rattle.std.proofs.Common.{◌≡◌, ℕ, zero, suc, ◌<◌, List, [], ◌∷◌, length, drop, Some, None, refl, arith}
use Rattle.std.specs.List.{slice_get}

module _ {A : Type 0} where
  -- where nothing is there, nothing is behind
  pub drop_end : (xs : List A) (k : ℕ) → slice_get xs k ≡ None → drop k xs ≡ []
  drop_end [] zero e = refl
  drop_end [] (suc k) e = refl
  drop_end (y ∷ ys) zero e = absurd (cc)
  drop_end (y ∷ ys) (suc k) e = drop_end ys k e

  -- an element that is within the list
  pub nth_there : (xs : List A) (k : ℕ) → k < length xs → (x : A) × (slice_get xs k ≡ Some x)
  nth_there [] k h = absurd (omega arith)
  nth_there (x ∷ xs) zero h = (x, refl)
  nth_there (x ∷ xs) (suc k) h = nth_there xs k (omega arith)
