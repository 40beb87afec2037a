-- A list whose items are changed one after the other, each by its place number.
use Rattle.std.proofs.Common.{◌≡◌, ℕ, zero, suc, ◌+◌, ◌≤◌, List, [], ◌∷◌, length, sym, refl, ap, ◌∙◌, add-one, arith}
use Rattle.tree.specs.Tree.{alter}
use Rattle.repair.specs.Cut.{by_place_from}

-- the items from the i-th on changed; the first of all has the number n
abbrev pub onward : {X : Type 0} → (ℕ → X → X) → (n i : ℕ) → List X → List X
onward f n zero xs = by_place_from f n xs
onward f n (suc i) [] = []
onward f n (suc i) (x ∷ xs) = x ∷ onward f (suc n) i xs

module _ {X : Type 0} (f : ℕ → X → X) where
  one_on : (n i : ℕ) (xs : List X) (j : ℕ) → j ≡ n + i → onward f n (suc i) (alter (f j) xs i) ≡ onward f n i xs
  one_on n zero [] j e = refl
  one_on n zero (x ∷ xs) j e = let d : j ≡ n = omega arith in ap (λ (k : ℕ). f k x ∷ by_place_from f (suc n) xs) d
  one_on n (suc i) [] j e = refl
  one_on n (suc i) (x ∷ xs) j e = ap (λ zs. x ∷ zs) (one_on (suc n) i xs j (omega arith))

  all_done : (n i : ℕ) (xs : List X) → length xs ≤ i → onward f n i xs ≡ xs
  all_done n zero [] h = refl
  all_done n zero (x ∷ xs) h = absurd (omega arith)
  all_done n (suc i) [] h = refl
  all_done n (suc i) (x ∷ xs) h = ap (λ zs. x ∷ zs) (all_done (suc n) i xs (omega arith))

  -- one item more, and the end
  module _ (i : ℕ) (xs R : List X) (inv : onward f 0 i xs ≡ R) where
    pub onward_more : (ys : List X) → ys ≡ alter (f i) xs i → onward f 0 (i + 1) ys ≡ R
    onward_more ys e = ap (onward f 0 (i + 1)) e ∙ ap (λ (k : ℕ). onward f 0 k (alter (f i) xs i)) (add-one i) ∙ one_on 0 i xs i (omega arith) ∙ inv

    pub onward_all : length xs ≤ i → xs ≡ R
    onward_all h = sym (all_done 0 i xs h) ∙ inv

-- where each item is made from its number alone, only the length matters
pub by_number : {X Y Z : Type 0} (g : ℕ → Z) (n : ℕ) (xs : List X) (ys : List Y) → length xs ≡ length ys → by_place_from (λ p _. g p) n xs ≡ by_place_from (λ p _. g p) n ys
by_number g n [] [] e = refl
by_number g n [] (y ∷ ys) e = absurd (omega arith)
by_number g n (x ∷ xs) [] e = absurd (omega arith)
by_number g n (x ∷ xs) (y ∷ ys) e = ap (λ zs. g n ∷ zs) (by_number g (suc n) xs ys (omega arith))
