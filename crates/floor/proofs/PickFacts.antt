use Rattle.std.proofs.Common.{◌≡◌, ℕ, zero, suc, ◌+◌, ◌-◌, ◌<◌, List, ◌∷◌, length, get_or, drop, Some, None, Option, sym, refl, ap, ◌∙◌, arith}
use Rattle.std.proofs.lemmas.List.{at_drop_more}
use Rattle.std.specs.List.{slice_get}
use Rattle.floor.specs.Rising.{present}

module _ (xs : List (Option ℕ)) (i n : ℕ) (h : i < length xs) where
  pub at_some : (x : ℕ) → get_or xs i None ≡ Some x → slice_get (present (drop i xs)) n ≡ slice_get (x ∷ present (drop (i + 1) xs)) n
  at_some x e = at_drop_more (λ ys. slice_get (present ys) n) xs i None h ∙ ap (λ o. slice_get (present (o ∷ drop (i + 1) xs)) n) e

  pub at_none : get_or xs i None ≡ None → slice_get (present (drop i xs)) n ≡ slice_get (present (drop (i + 1) xs)) n
  at_none e = at_drop_more (λ ys. slice_get (present ys) n) xs i None h ∙ ap (λ o. slice_get (present (o ∷ drop (i + 1) xs)) n) e

pub nth_later : (x n : ℕ) (xs : List ℕ) → (n ≡ 0 → ⊥) → slice_get (x ∷ xs) n ≡ slice_get xs (n - 1)
nth_later x zero xs h = absurd (h refl)
nth_later x (suc n) xs h = ap (slice_get xs) (omega arith)

pub nth_now : (x n : ℕ) (xs : List ℕ) → n ≡ 0 → Some x ≡ slice_get (x ∷ xs) n
nth_now x n xs h = ap (slice_get (x ∷ xs)) (sym h)
