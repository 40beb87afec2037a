-- Lists of numbers in rising order, the numbers that pass a test, and those of a row that are there.
use Rattle.std.specs.Prelude.{◌≡◌, ℕ, zero, suc, ◌+◌, ◌≤◌, Bool, cond, ◌⊎◌, List, [], ◌∷◌, Some, None, Option}

-- each number is at least b, and above the one before it
abbrev pub Rises : ℕ → List ℕ → Type 0
Rises b [] = Unit {0}
Rises b (x ∷ xs) = (b ≤ x) × Rises (x + 1) xs

-- x is one of the list
abbrev pub In : ℕ → List ℕ → Type 0
In x [] = ⊥
In x (y ∷ ys) = (x ≡ y) ⊎ In x ys

-- of the n numbers from a on, those that pass the test, in rising order
abbrev pub passing : (ℕ → Bool) → ℕ → ℕ → List ℕ
passing f a zero = []
passing f a (suc n) = cond (f a) (a ∷ passing f (a + 1) n) (passing f (a + 1) n)

-- of numbers that may be absent, those that are there
abbrev pub present : List (Option ℕ) → List ℕ
present [] = []
present (None ∷ os) = present os
present (Some x ∷ os) = x ∷ present os
