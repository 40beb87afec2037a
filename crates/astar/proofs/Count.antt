-- A run opens each place once at most, so n places at most; a recorded way has fewer than n steps.
use Rattle.std.proofs.Common.{◌≡◌, ℕ, zero, suc, ◌+◌, ◌<◌, ◌≤◌, ◌⊎◌, List, [], ◌∷◌, length, sym, refl, ap, ◌∙◌, inl, inr, arith}
use Rattle.floor.specs.Rising.{In}
use Rattle.astar.specs.Sound.{Follows}
use Rattle.astar.specs.Runs.{Once}
use Rattle.astar.proofs.Opens.{same}

record Strip (n : ℕ) (xs : List ℕ) : Type 0 where
  ys : List ℕ
  once : Once ys
  under : (z : ℕ) → In z ys → (z < n) × In z xs
  long : length xs ≤ length ys + 1

strip : (n : ℕ) (xs : List ℕ) → Once xs → ((z : ℕ) → In z xs → z < n + 1) → Strip n xs
strip n [] o u = record { ys = []; once = tt; under = λ z h. absurd h; long = omega arith }
strip n (x ∷ xs) o u = same x n
    (λ e. record {
      ys = xs;
      once = o.1;
      under = λ z h. (let ne : ¬ (z ≡ n) = λ k. o.0 (rw (k ∙ sym e) at h) in let b = u z (inr h) in omega arith, inr h);
      long = omega arith;
    })
    (λ ne. let r = strip n xs o.1 (λ z h. u z (inr h)) in record {
      ys = x ∷ r.ys;
      once = (λ h. o.0 (r.under x h).1, r.once);
      under = λ z. elim [ inl e ↦ (let b = u x (inl refl) in omega arith, inl e) | inr h ↦ ((r.under z h).0, inr (r.under z h).1) ];
      long = let l = r.long in omega arith;
    })

pub few : (n : ℕ) (xs : List ℕ) → Once xs → ((z : ℕ) → In z xs → z < n) → length xs ≤ n
few zero [] o u = omega arith
few zero (x ∷ xs) o u = let b = u x (inl refl) in omega arith
few (suc n) xs o u =
    let r = strip n xs o (λ z h. let b = u z h in omega arith) in
    let k = few n r.ys r.once (λ z h. (r.under z h).0) in
    let l = r.long in
    omega arith

module _ (next : ℕ → ℕ) (t : ℕ) where
  same_length : (w v : List ℕ) (p : ℕ) → Follows next t p w → Follows next t p v → length w ≡ length v
  same_length [] [] p f k = refl
  same_length [] (q ∷ v) p f k = absurd (k.0 f)
  same_length (q ∷ w) [] p f k = absurd (f.0 k)
  same_length (q ∷ w) (r ∷ v) p f k = ap suc (same_length w v q f.2 (rw (k.1 ∙ sym f.1) at k.2))

  rest : (w : List ℕ) (p z : ℕ) → In z w → Follows next t p w → (v : List ℕ) × Follows next t z v × (length v < length w)
  rest [] p z h f = absurd h
  rest (q ∷ w) p z (inl e) f = (w, rw e f.2, omega arith)
  rest (q ∷ w) p z (inr h) f = let r = rest w q z h f.2 in (r.0, r.1, let l = r.2 in omega arith)

  pub once_way : (w : List ℕ) (p : ℕ) → Follows next t p w → Once (p ∷ w)
  once_way [] p f = (λ h. h, tt)
  once_way (q ∷ w) p f = (λ h. let r = rest (q ∷ w) p p h f in let e = same_length (q ∷ w) r.0 p f r.1 in let l = r.2 in omega arith, once_way w q f.2)

  -- the recorded way has fewer than n steps
  pub short : (n : ℕ) (w : List ℕ) (p : ℕ) → Follows next t p w → ((z : ℕ) → In z (p ∷ w) → z < n) → length w < n
  short n w p f u = let k = few n (p ∷ w) (once_way w p f) u in omega arith

has? : (z : ℕ) (xs : List ℕ) → Dec (In z xs)
has? z [] = no (λ h. h)
has? z (x ∷ xs) = same z x (λ e. yes (inl e)) (λ ne. go ne (has? z xs))
  where
    go : ¬ (z ≡ x) → Dec (In z xs) → Dec ((z ≡ x) ⊎ In z xs)
    go ne (yes h) = yes (inr h)
    go ne (no h) = no (elim [ inl e ↦ ne e | inr k ↦ h k ])

-- n places below n are all of them
pub full : (n : ℕ) (xs : List ℕ) → Once xs → ((z : ℕ) → In z xs → z < n) → n ≤ length xs → (p : ℕ) → p < n → In p xs
full n xs o u l p k = go (has? p xs)
  where
    go : Dec (In p xs) → In p xs
    go (yes h) = h
    go (no h) = let b = few n (p ∷ xs) (h, o) (λ z. elim [ inl e ↦ rw e k | inr q ↦ u z q ]) in absurd (omega arith)
