use Rattle.std.proofs.Common.{◌≡◌, ℕ, zero, suc, ◌+◌, ◌<◌, ◌≤◌, Bool, true, false, cond, List, [], ◌∷◌, length, sym, refl, ap, ◌∙◌, subst, inl, inr, ⊎_elim, arith}
use Rattle.std.proofs.lemmas.Bool.{cases_Bool, cases_eq}
use Rattle.floor.specs.Rising.{Rises, In, passing}

pub in_above : (b x : ℕ) (xs : List ℕ) → Rises b xs → In x xs → b ≤ x
in_above b x [] r h = absurd h
in_above b x (y ∷ ys) r (inl e) = omega arith
in_above b x (y ∷ ys) r (inr h) = omega (arith, in_above (y + 1) x ys r.1 h)

pub weaker : (b c : ℕ) (xs : List ℕ) → c ≤ b → Rises b xs → Rises c xs
weaker b c [] h r = tt
weaker b c (x ∷ xs) h r = (omega arith, r.1)

-- a rising list is known by its members
pub same_rising : (b : ℕ) (xs ys : List ℕ) → Rises b xs → Rises b ys → ((x : ℕ) → In x xs → In x ys) → ((x : ℕ) → In x ys → In x xs) → xs ≡ ys
same_rising b [] [] r s f g = refl
same_rising b [] (y ∷ ys) r s f g = absurd (g y (inl refl))
same_rising b (x ∷ xs) [] r s f g = absurd (f x (inl refl))
same_rising b (x ∷ xs) (y ∷ ys) r s f g =
    let low : x ≤ y = ⊎_elim (λ e. omega arith) (λ h. omega (arith, in_above (x + 1) y xs r.1 h)) (g y (inl refl)) in
    let high : y ≤ x = ⊎_elim (λ e. omega arith) (λ h. omega (arith, in_above (y + 1) x ys s.1 h)) (f x (inl refl)) in
    let e : x ≡ y = omega arith in
    let t : xs ≡ ys = same_rising (x + 1) xs ys r.1 (weaker (y + 1) (x + 1) ys (omega arith) s.1)
    (λ z h. ⊎_elim (λ q. absurd (let l : x + 1 ≤ z = in_above (x + 1) z xs r.1 h in omega arith)) (λ k. k) (f z (inr h)))
    (λ z h. ⊎_elim (λ q. absurd (let l : y + 1 ≤ z = in_above (y + 1) z ys s.1 h in omega arith)) (λ k. k) (g z (inr h)))
    in cc

pub passing_rises : (f : ℕ → Bool) (a n : ℕ) → Rises a (passing f a n)
passing_rises f a zero = tt
passing_rises f a (suc n) =
    elim (f a) as (λ v. Rises a (cond v (a ∷ passing f (a + 1) n) (passing f (a + 1) n))) [
      | true ↦ (omega arith, passing_rises f (a + 1) n)
      | false ↦ weaker (a + 1) a (passing f (a + 1) n) (omega arith) (passing_rises f (a + 1) n)
    ]

pub in_passing : (f : ℕ → Bool) (a n x : ℕ) → a ≤ x → x < a + n → f x ≡ true → In x (passing f a n)
in_passing f a zero x l h t = absurd (omega arith)
in_passing f a (suc n) x l h t =
    ⊎_elim
    (λ (e : x ≡ a). let q : f a ≡ true = ap f (sym e) ∙ t in subst (λ v. In x (cond v (a ∷ passing f (a + 1) n) (passing f (a + 1) n))) (sym q) (inl e))
    (λ (ne : x ≡ a → ⊥). let rest : In x (passing f (a + 1) n) = in_passing f (a + 1) n x (omega arith) (omega arith) t in
    elim (f a) as (λ v. In x (cond v (a ∷ passing f (a + 1) n) (passing f (a + 1) n))) [ true ↦ inr rest | false ↦ rest ])
    (cases_eq x a)

pub record Passed (f : ℕ → Bool) (a n x : ℕ) : Type 0 where
  pub low : a ≤ x
  pub high : x < a + n
  pub test : f x ≡ true

pub passing_in : (f : ℕ → Bool) (a n x : ℕ) → In x (passing f a n) → Passed f a n x
passing_in f a zero x h = absurd h
passing_in f a (suc n) x h =
    let more : In x (passing f (a + 1) n) → Passed f a (suc n) x = λ k. let p = passing_in f (a + 1) n x k in record { low = omega arith; high = omega arith; test = p.test } in
    ⊎_elim
    (λ (t : f a ≡ true). ⊎_elim (λ (e : x ≡ a). record { low = omega arith; high = omega arith; test = ap f e ∙ t }) more (subst (λ v. In x (cond v (a ∷ passing f (a + 1) n) (passing f (a + 1) n))) t h))
    (λ (t : f a ≡ false). more (subst (λ v. In x (cond v (a ∷ passing f (a + 1) n) (passing f (a + 1) n))) t h))
    (cases_Bool (f a))

pub passing_few : (f : ℕ → Bool) (a n : ℕ) → length (passing f a n) ≤ n
passing_few f a zero = omega arith
passing_few f a (suc n) =
    let h = passing_few f (a + 1) n in
    elim (f a) as (λ v. length (cond v (a ∷ passing f (a + 1) n) (passing f (a + 1) n)) ≤ suc n) [ true ↦ omega arith | false ↦ omega arith ]
