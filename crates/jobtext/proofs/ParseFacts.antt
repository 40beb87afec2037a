-- Reading one number of a line, and writing it.
use Rattle.std.proofs.Common.{◌≡◌, ℕ, ◌<◌, true, false, eqb, List, [], ◌∷◌, ◌++◌, Some, None, decimal, Option, refl, ap, ◌∙◌, subst, ⊎_elim, arith}
use Rattle.std.proofs.lemmas.Bool.{cases_eq}
use Rattle.std.proofs.lemmas.Bool.Decides.{nat_tests}
use Rattle.jobtext.specs.declared.line.Line.{Line}
use Rattle.jobtext.specs.Bytes.{front, rest}
use Rattle.jobtext.specs.LineTexts.{spaced}
use Rattle.jobtext.specs.Numbers.{digits, number_in}
use Rattle.jobtext.specs.Parsing.{then, next_number, ended, single}
use Rattle.jobtext.proofs.DecimalFacts.{decimal_digits, reads_back, reads_only}

-- The bytes that are left of a line, with the blank before them.
abbrev pub bytes : Option (List ℕ) → List ℕ
bytes None = []
bytes (Some bs) = 32 ∷ bs

pub front_rest : (bs : List ℕ) → bs ≡ front 32 bs ++ bytes (rest 32 bs)
front_rest [] = refl
front_rest (b ∷ bs) =
    ⊎_elim (λ (e : b ≡ 32). grind (arith, nat_tests)) (λ (n : b ≡ 32 → ⊥). let k = front_rest bs in grind (arith, nat_tests)) (cases_eq b 32)

pub then_inv : {A B : Type 0} (o : Option A) (f : A → Option B) (y : B) → then o f ≡ Some y → (x : A) × (o ≡ Some x) × (f x ≡ Some y)
then_inv None f y e = cc
then_inv (Some x) f y e = (x, refl, e)

pub ended_inv : {A : Type 0} (r : Option (List ℕ)) (x y : A) → ended r x ≡ Some y → (r ≡ None) × (x ≡ y)
ended_inv None x y e = (refl, cc)
ended_inv (Some bs) x y e = cc

pub single_inv : (bs : List ℕ) (c : ℕ) → single bs ≡ Some c → bs ≡ c ∷ []
single_inv [] c e = cc
single_inv (b ∷ []) c e = let q : b ≡ c = cc in ap (λ (n : ℕ). n ∷ []) q
single_inv (b ∷ d ∷ bs) c e = cc

number_only : (r : Option (List ℕ)) (n : ℕ) (q : Option (List ℕ)) → next_number r ≡ Some (n, q) → (bytes r ≡ spaced n ++ bytes q) × (n < 4294967296)
number_only None n q e = cc
number_only (Some bs) n q e =
    let t = then_inv (number_in (front 32 bs)) (λ m. Some (m, rest 32 bs)) (n, q) e in
    let p = reads_only (front 32 bs) t.0 t.1 in
    let u : (t.0, rest 32 bs) ≡ (n, q) = cc t.2 in
    let a : t.0 ≡ n = ap (λ (v : ℕ × Option (List ℕ)). v.0) u in
    let b : rest 32 bs ≡ q = ap (λ (v : ℕ × Option (List ℕ)). v.1) u in
    let word : front 32 bs ≡ decimal n = p.0 ∙ ap decimal a in (
      ap (λ (w : List ℕ). 32 ∷ w) (front_rest bs ∙ ap (λ (w : List ℕ). w ++ bytes (rest 32 bs)) word ∙ ap (λ (o : Option (List ℕ)). decimal n ++ bytes o) b),
      subst (λ (m : ℕ). m < 4294967296) a p.1,
    )

-- Where a line is read from a number n, with q left, and so on, whatever follows from that.
pub next_only : {P : Type 0} (r : Option (List ℕ)) (g : ℕ × Option (List ℕ) → Option Line) (l : Line) → then (next_number r) g ≡ Some l → ((n : ℕ) (q : Option (List ℕ)) → bytes r ≡ spaced n ++ bytes q → n < 4294967296 → g (n, q) ≡ Some l → P) → P
next_only r g l e k =
    let t = then_inv (next_number r) g l e in
    let p = number_only r t.0.0 t.0.1 t.1 in
    k t.0.0 t.0.1 p.0 p.1 t.2

module _ (r : Option (List ℕ)) where
  front_digits : (w : List ℕ) → digits w ≡ true → front 32 (w ++ bytes r) ≡ w
  front_digits [] h = elim r as (λ q. front 32 (bytes q) ≡ []) [ None ↦ refl | Some bs ↦ refl ]
  front_digits (b ∷ w) h =
      let ds : digits w ≡ true = grind (arith, nat_tests) in
      let k = front_digits w ds in
      let q : eqb b 32 ≡ false = grind (arith, nat_tests) in
      rw q (ap (λ (t : List ℕ). b ∷ t) k)

  rest_digits : (w : List ℕ) → digits w ≡ true → rest 32 (w ++ bytes r) ≡ r
  rest_digits [] h = elim r as (λ q. rest 32 (bytes q) ≡ q) [ None ↦ refl | Some bs ↦ refl ]
  rest_digits (b ∷ w) h =
      let ds : digits w ≡ true = grind (arith, nat_tests) in
      let q : eqb b 32 ≡ false = grind (arith, nat_tests) in
      rw q (rest_digits w ds)

  number_back : (n : ℕ) → n < 4294967296 → next_number (Some (decimal n ++ bytes r)) ≡ Some (n, r)
  number_back n h =
      let ds = decimal_digits n h in
      rw (front_digits (decimal n) ds, rest_digits (decimal n) ds, reads_back n h)

  -- A number that is written before r is read, and r is left.
  pub next_back : (n : ℕ) (g : ℕ × Option (List ℕ) → Option Line) → n < 4294967296 → then (next_number (Some (decimal n ++ bytes r))) g ≡ g (n, r)
  next_back n g h = ap (λ o. then o g) (number_back n h)
