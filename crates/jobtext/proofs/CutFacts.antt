-- A cut at the first mark, by where it stands.
use Rattle.std.proofs.Common.{◌≡◌, ℕ, suc, ◌+◌, ◌<◌, ◌≤◌, true, false, cond, not, eqb, ◌==◌, List, [], ◌∷◌, length, take, drop, Some, None, refl, ap, arith}
use Rattle.std.proofs.lemmas.Bool.Decides.{nat_tests}
use Rattle.std.specs.List.{position_or_len, position}
use Rattle.jobtext.specs.Bytes.{front, rest}

-- Where the first mark stands; the length if there is none.
abbrev place : ℕ → List ℕ → ℕ
place mark bs = position_or_len (λ b. b == mark) bs

cut_there : (mark : ℕ) (bs : List ℕ) → place mark bs < length bs → (take (place mark bs) bs ≡ front mark bs) × (Some (drop (suc (place mark bs)) bs) ≡ rest mark bs)
cut_there mark [] h = absurd (omega arith)
cut_there mark (b ∷ bs) h =
    elim (eqb b mark) as (λ t. cond (not t) (1 + place mark bs) 0 < length (b ∷ bs) → (take (cond (not t) (1 + place mark bs) 0) (b ∷ bs) ≡ cond t [] (b ∷ front mark bs)) × (Some (drop (suc (cond (not t) (1 + place mark bs) 0)) (b ∷ bs)) ≡ cond t (Some bs) (rest mark bs)))
    [ true ↦ λ k. (refl, refl) | false ↦ λ k. let q = cut_there mark bs (omega arith) in let one : 1 + place mark bs ≡ suc (place mark bs) = omega arith in (rw one (ap (λ t. b ∷ t) q.0), rw one q.1) ] h

cut_nowhere : (mark : ℕ) (bs : List ℕ) → length bs ≤ place mark bs → (bs ≡ front mark bs) × (None ≡ rest mark bs)
cut_nowhere mark [] h = (refl, refl)
cut_nowhere mark (b ∷ bs) h =
    elim (eqb b mark) as (λ t. length (b ∷ bs) ≤ cond (not t) (1 + place mark bs) 0 → (b ∷ bs ≡ cond t [] (b ∷ front mark bs)) × (None ≡ cond t (Some bs) (rest mark bs)))
    [ true ↦ λ k. absurd (omega arith) | false ↦ λ k. let q = cut_nowhere mark bs (omega arith) in (ap (λ t. b ∷ t) q.0, q.1) ] h

pub cut_found : (mark : ℕ) (bs : List ℕ) (i : ℕ) → Some i ≡ position (λ b. b == mark) bs → (take i bs ≡ front mark bs) × (Some (drop (i + 1) bs) ≡ rest mark bs)
cut_found mark bs i e =
    let within : place mark bs < length bs = grind (arith, nat_tests) in
    let same : i ≡ place mark bs = grind (arith, nat_tests) in
    let q = cut_there mark bs within in
    let next : i + 1 ≡ suc (place mark bs) = omega arith in
    (rw same q.0, rw next q.1)

pub cut_none : (mark : ℕ) (bs : List ℕ) → None ≡ position (λ b. b == mark) bs → (bs ≡ front mark bs) × (None ≡ rest mark bs)
cut_none mark bs e = cut_nowhere mark bs (grind (arith, nat_tests))
