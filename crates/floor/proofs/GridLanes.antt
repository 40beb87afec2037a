-- The lanes out of a cell and into a cell of a hall: the four that the code tries, in its order.
use Rattle.std.proofs.Common.{◌≡◌, ℕ, ◌+◌, ◌-◌, ◌*◌, ◌/◌, ◌%◌, ◌<◌, ◌≤◌, Bool, true, false, cond, ltb, ◌⊎◌, List, [], ◌∷◌, is_some, Some, None, Option, sym, refl, ap, ◌∙◌, subst, inl, inr, ⊎_elim, mod-lt, arith}
use native.Mathlib.Nat.{mod-le}
use Rattle.std.specs.Option.{option_map}
use Rattle.std.proofs.lemmas.Bool.{cases_eq}
use Rattle.std.proofs.lemmas.Bool.Decides.{nat_tests}
use Rattle.floor.specs.Rising.{Rises, In, passing, present}
use Rattle.floor.specs.Meaning.{Lane, has}
use Rattle.floor.specs.Grid.{grid_lane}
use Rattle.floor.proofs.RisingFacts.{same_rising, passing_rises, in_passing, passing_in}
use Rattle.floor.proofs.GridFacts.{Goes, goes, goes_below, some_columns, right_mod, right_below, left_mod, hop, hops, lane_to, lane_hops}

-- options in a row, and the numbers that are there
abbrev Above : ℕ → List (Option ℕ) → Type 0
Above b [] = Unit {0}
Above b (o ∷ os) = ((x : ℕ) → o ≡ Some x → b ≤ x) × Above b os

abbrev Apart : List (Option ℕ) → Type 0
Apart [] = Unit {0}
Apart (o ∷ os) = ((x : ℕ) → o ≡ Some x → Above (x + 1) os) × Apart os

abbrev Among : ℕ → List (Option ℕ) → Type 0
Among x [] = ⊥
Among x (o ∷ os) = (o ≡ Some x) ⊎ Among x os

rises_present : (b : ℕ) (os : List (Option ℕ)) → Above b os → Apart os → Rises b (present os)
rises_present b [] a p = tt
rises_present b (None ∷ os) a p = rises_present b os a.1 p.1
rises_present b (Some x ∷ os) a p = (a.0 x refl, rises_present (x + 1) os (p.0 x refl) p.1)

in_present : (x : ℕ) (os : List (Option ℕ)) → Among x os → In x (present os)
in_present x [] h = h
in_present x (None ∷ os) (inl e) = grind arith
in_present x (None ∷ os) (inr h) = in_present x os h
in_present x (Some y ∷ os) (inl e) = inl (grind arith)
in_present x (Some y ∷ os) (inr h) = inr (in_present x os h)

present_in : (x : ℕ) (os : List (Option ℕ)) → In x (present os) → Among x os
present_in x [] h = h
present_in x (None ∷ os) h = inr (present_in x os h)
present_in x (Some y ∷ os) (inl e) = inl (ap (λ n. Some n) (sym e))
present_in x (Some y ∷ os) (inr h) = inr (present_in x os h)

-- the lane into p from direction d
abbrev pub back : (h w p d : ℕ) → Option ℕ
back h w p d = option_map (λ q. 4 * q + (d + 2) % 4) (hop h w p d)

-- the lane out of p in direction d
abbrev pub forth : (h w p d : ℕ) → Option ℕ
forth h w p d = option_map (λ q. 4 * p + d) (hop h w p d)

-- the four lanes into a place, and what each tells
module _ (h w p x : ℕ) where
  pub above : back h w p 0 ≡ Some x → (w ≤ p) × (x + 4 * w ≡ 4 * p + 2)
  above e = (grind (arith, nat_tests), grind (arith, nat_tests))

  pub left : back h w p 3 ≡ Some x → (0 < p % w) × (x + 4 ≡ 4 * p + 1)
  left e = (grind (arith, nat_tests), let m = mod-le p w in grind (arith, nat_tests))

  pub right : back h w p 1 ≡ Some x → (p % w + 1 < w) × (x ≡ 4 * p + 7)
  right e = (grind (arith, nat_tests), grind (arith, nat_tests))

  pub below : back h w p 2 ≡ Some x → (p + w < h * w) × (x ≡ 4 * p + 4 * w)
  below e = (grind (arith, nat_tests), grind (arith, nat_tests))

  pub above_back : w ≤ p → x + 4 * w ≡ 4 * p + 2 → back h w p 0 ≡ Some x
  above_back a e = grind (arith, nat_tests)

  pub left_back : 0 < p % w → x + 4 ≡ 4 * p + 1 → back h w p 3 ≡ Some x
  left_back a e = grind (arith, nat_tests)

  pub right_back : p % w + 1 < w → x ≡ 4 * p + 7 → back h w p 1 ≡ Some x
  right_back a e = grind (arith, nat_tests)

  pub below_back : p + w < h * w → x ≡ 4 * p + 4 * w → back h w p 2 ≡ Some x
  below_back a e = grind (arith, nat_tests)

abbrev pub backs : (h w p : ℕ) → List (Option ℕ)
backs h w p = back h w p 0 ∷ back h w p 3 ∷ back h w p 1 ∷ back h w p 2 ∷ []

backs_apart : (h w p : ℕ) → 0 < w → Apart (backs h w p)
backs_apart h w p n =
    let m = mod-lt p {m = w} n in (
      (λ x e. let a = above h w p x e in ((λ y f. omega (arith, left h w p y f)), ((λ y f. omega (arith, right h w p y f)), ((λ y f. omega (arith, below h w p y f)), tt)))),
      (
        (λ x e. let a = left h w p x e in ((λ y f. omega (arith, right h w p y f)), ((λ y f. omega (arith, below h w p y f)), tt))),
        (
          (λ x e. let a = right h w p x e in ((λ y f. omega (arith, below h w p y f)), tt)),
          ((λ x e. tt), tt),
        ),
      ),
    )

backs_enter : (h w p x : ℕ) → p < h * w → Among x (backs h w p) → hops h w x ≡ Some p
backs_enter h w p x l (inl e) =
    let a = above h w p x e in let q : x / 4 + w ≡ p = omega arith in let d : x % 4 ≡ 2 = omega arith in grind (arith, nat_tests)
backs_enter h w p x l (inr (inl e)) =
    let a = left h w p x e in let q : x / 4 ≡ p - 1 = omega arith in let d : x % 4 ≡ 1 = omega arith in
    let n = some_columns h w p l in let m = left_mod w p n a.0 in let k = mod-lt p {m = w} n in
    let t : x / 4 % w + 1 < w = rw q (omega arith) in grind (arith, nat_tests)
backs_enter h w p x l (inr (inr (inl e))) =
    let a = right h w p x e in let q : x / 4 ≡ p + 1 = omega arith in let d : x % 4 ≡ 3 = omega arith in
    let n = some_columns h w p l in let m = right_mod w p n a.0 in let b = right_below h w p l a.0 in
    let t : 0 < x / 4 % w = rw q (omega arith) in grind (arith, nat_tests)
backs_enter h w p x l (inr (inr (inr (inl e)))) =
    let a = below h w p x e in let q : x / 4 ≡ p + w = omega arith in let d : x % 4 ≡ 0 = omega arith in grind (arith, nat_tests)
backs_enter h w p x l (inr (inr (inr (inr e)))) = absurd e

enter_backs : (h w p x : ℕ) → Goes h w x p → Among x (backs h w p)
enter_backs h w p x g =
    let n = some_columns h w (x / 4) g.cell in
    ⊎_elim (λ a. inr (inr (inr (inl (below_back h w p x (omega arith) (omega arith))))))
    (λ r. ⊎_elim (λ a. let m = right_mod w (x / 4) n a.1 in let q : x / 4 ≡ p - 1 = omega arith in
    let t : 0 < p % w = rw a.2 (omega arith) in inr (inl (left_back h w p x t (omega arith))))
    (λ s. ⊎_elim (λ a. inl (above_back h w p x (omega arith) (omega arith)))
    (λ a. let m = left_mod w (x / 4) n a.1 in let k = mod-lt (x / 4) {m = w} n in let q : x / 4 - 1 ≡ p = omega arith in
    let t : p % w + 1 < w = rw (← q) (omega arith) in inr (inr (inl (right_back h w p x t (omega arith))))) s) r) g.way

-- a lane of the hall and its number, by the cell that it enters
pub lane_enters : (h w l : ℕ) (x : Lane) → grid_lane h w l ≡ Some x → (hops h w l ≡ Some x.enters) × (x ≡ lane_to l x.enters)
lane_enters h w l x e = go (hops h w l) (sym (lane_hops h w l) ∙ e)
  where
    go : (o : Option ℕ) → option_map (lane_to l) o ≡ Some x → (o ≡ Some x.enters) × (x ≡ lane_to l x.enters)
    go None q = let z : ◌≡◌ {A = ℕ} 0 1 = cc in absurd (omega arith)
    go (Some p) q = let r : lane_to l p ≡ x = cc in (ap (λ (y : Lane). Some y.enters) r, sym r ∙ ap (λ (y : Lane). lane_to l y.enters) r)

pub has_enters : (h w l p : ℕ) → has (λ x. x.enters) p (grid_lane h w l) ≡ true → hops h w l ≡ Some p
has_enters h w l p e = go (hops h w l) (ap (has (λ x. x.enters) p) (sym (lane_hops h w l)) ∙ e)
  where
    go : (o : Option ℕ) → has (λ x. x.enters) p (option_map (lane_to l) o) ≡ true → o ≡ Some p
    go None q = grind (arith, nat_tests)
    go (Some x) q = grind (arith, nat_tests)

pub enters_has : (h w l p : ℕ) → hops h w l ≡ Some p → has (λ x. x.enters) p (grid_lane h w l) ≡ true
enters_has h w l p e = ap (has (λ x. x.enters) p) (lane_hops h w l ∙ ap (option_map (lane_to l)) e) ∙ grind (arith, nat_tests)

-- the lanes into a place
pub into_is : (h w p : ℕ) → p < h * w → passing (λ l. has (λ x. x.enters) p (grid_lane h w l)) 0 (4 * (h * w)) ≡ present (backs h w p)
into_is h w p l =
    same_rising 0 _ _ (passing_rises (λ m. has (λ x. x.enters) p (grid_lane h w m)) 0 (4 * (h * w)))
    (rises_present 0 (backs h w p) ((λ x e. omega arith), ((λ x e. omega arith), ((λ x e. omega arith), ((λ x e. omega arith), tt)))) (backs_apart h w p (some_columns h w p l)))
    (λ x i. in_present x (backs h w p) (enter_backs h w p x (goes h w x p (has_enters h w x p (passing_in (λ m. has (λ x. x.enters) p (grid_lane h w m)) 0 (4 * (h * w)) x i).test))))
    (λ x i. let e = backs_enter h w p x l (present_in x (backs h w p) i) in
    in_passing (λ m. has (λ x. x.enters) p (grid_lane h w m)) 0 (4 * (h * w)) x (omega arith) (omega (arith, goes_below h w x p (goes h w x p e))) (enters_has h w x p e))

-- the lanes out of a place
abbrev pub forths : (h w p : ℕ) → List (Option ℕ)
forths h w p = forth h w p 0 ∷ forth h w p 1 ∷ forth h w p 2 ∷ forth h w p 3 ∷ []

module _ (h w p d x : ℕ) where
  forth_is : forth h w p d ≡ Some x → x ≡ 4 * p + d
  forth_is e = elim (hop h w p d) as (λ o. option_map (λ q. 4 * p + d) o ≡ Some x → x ≡ 4 * p + d) [ None ↦ λ f. grind arith | Some q ↦ λ f. grind arith ] e

  -- where the lane is there, it leaves p
  forth_leaves : p < h * w → d < 4 → forth h w p d ≡ Some x → has (λ y. y.leaves) p (grid_lane h w x) ≡ true
  forth_leaves l k e =
      let a = forth_is e in let q : x / 4 ≡ p = omega arith in let r : x % 4 ≡ d = omega arith in
      let t : ltb (x / 4) (h * w) ≡ true = grind (arith, nat_tests) in
      let o : option_map (λ n. 4 * p + d) (hop h w (x / 4) (x % 4)) ≡ Some x = cc in
      ap (has (λ y. y.leaves) p) (lane_hops h w x) ∙ go (hop h w (x / 4) (x % 4)) q o (ltb (x / 4) (h * w)) t
    where
      go : (s : Option ℕ) → x / 4 ≡ p → option_map (λ n. 4 * p + d) s ≡ Some x → (b : Bool) → b ≡ true → has (λ y. y.leaves) p (option_map (lane_to x) (cond b s None)) ≡ true
      go None q o b t = grind (arith, nat_tests)
      go (Some e) q o b t = grind (arith, nat_tests)

leaves_parts : (h w p x : ℕ) → has (λ y. y.leaves) p (grid_lane h w x) ≡ true → (x / 4 ≡ p) × (forth h w p (x % 4) ≡ Some x) × (p < h * w)
leaves_parts h w p x e =
    let g = go (hop h w (x / 4) (x % 4)) (ltb (x / 4) (h * w)) (ap (has (λ y. y.leaves) p) (sym (lane_hops h w x)) ∙ e) in
    (g.0, rw (← g.0) (there _ (hop h w (x / 4) (x % 4)) g.2 (omega arith)), grind (arith, nat_tests))
  where
    go : (s : Option ℕ) (b : Bool) → has (λ y. y.leaves) p (option_map (lane_to x) (cond b s None)) ≡ true → (x / 4 ≡ p) × (b ≡ true) × (is_some s ≡ true)
    go None true e = grind (arith, nat_tests)
    go None false e = grind (arith, nat_tests)
    go (Some q) true e = (grind (arith, nat_tests), refl, refl)
    go (Some q) false e = grind (arith, nat_tests)

    there : (n : ℕ) (s : Option ℕ) → is_some s ≡ true → n ≡ x → option_map (λ q. n) s ≡ Some x
    there n None i e = grind arith
    there n (Some q) i e = ap (λ (v : ℕ). Some v) e

forths_apart : (h w p : ℕ) → Apart (forths h w p)
forths_apart h w p = (
  (λ x e. let a = forth_is h w p 0 x e in ((λ y f. omega (arith, forth_is h w p 1 y f)), ((λ y f. omega (arith, forth_is h w p 2 y f)), ((λ y f. omega (arith, forth_is h w p 3 y f)), tt)))),
  (
    (λ x e. let a = forth_is h w p 1 x e in ((λ y f. omega (arith, forth_is h w p 2 y f)), ((λ y f. omega (arith, forth_is h w p 3 y f)), tt))),
    (
      (λ x e. let a = forth_is h w p 2 x e in ((λ y f. omega (arith, forth_is h w p 3 y f)), tt)),
      ((λ x e. tt), tt),
    ),
  ),
)

forths_leave : (h w p x : ℕ) → p < h * w → Among x (forths h w p) → (has (λ y. y.leaves) p (grid_lane h w x) ≡ true) × (x < 4 * (h * w))
forths_leave h w p x l (inl e) = (forth_leaves h w p 0 x l (omega arith) e, omega (arith, forth_is h w p 0 x e))
forths_leave h w p x l (inr (inl e)) = (forth_leaves h w p 1 x l (omega arith) e, omega (arith, forth_is h w p 1 x e))
forths_leave h w p x l (inr (inr (inl e))) = (forth_leaves h w p 2 x l (omega arith) e, omega (arith, forth_is h w p 2 x e))
forths_leave h w p x l (inr (inr (inr (inl e)))) = (forth_leaves h w p 3 x l (omega arith) e, omega (arith, forth_is h w p 3 x e))
forths_leave h w p x l (inr (inr (inr (inr e)))) = absurd e

leave_forths : (h w p x d : ℕ) → d < 4 → forth h w p d ≡ Some x → Among x (forths h w p)
leave_forths h w p x d l e =
    let at : (k : ℕ) → d ≡ k → forth h w p k ≡ Some x = λ k q. subst (λ (n : ℕ). forth h w p n ≡ Some x) q e in
    ⊎_elim (λ (a : d ≡ 0). inl (at 0 a)) (λ (a : d ≡ 0 → ⊥).
    ⊎_elim (λ (b : d ≡ 1). inr (inl (at 1 b))) (λ (b : d ≡ 1 → ⊥).
    ⊎_elim (λ (f : d ≡ 2). inr (inr (inl (at 2 f)))) (λ (f : d ≡ 2 → ⊥).
    inr (inr (inr (inl (at 3 (omega arith))))))
    (cases_eq d 2)) (cases_eq d 1)) (cases_eq d 0)

pub out_is : (h w p : ℕ) → p < h * w → passing (λ l. has (λ x. x.leaves) p (grid_lane h w l)) 0 (4 * (h * w)) ≡ present (forths h w p)
out_is h w p l =
    same_rising 0 _ _ (passing_rises (λ m. has (λ x. x.leaves) p (grid_lane h w m)) 0 (4 * (h * w)))
    (rises_present 0 (forths h w p) ((λ x e. omega arith), ((λ x e. omega arith), ((λ x e. omega arith), ((λ x e. omega arith), tt)))) (forths_apart h w p))
    (λ x i. in_present x (forths h w p) (leave_forths h w p x (x % 4) (omega arith) (leaves_parts h w p x (passing_in (λ m. has (λ x. x.leaves) p (grid_lane h w m)) 0 (4 * (h * w)) x i).test).1))
    (λ x i. let e = forths_leave h w p x l (present_in x (forths h w p) i) in
    in_passing (λ m. has (λ x. x.leaves) p (grid_lane h w m)) 0 (4 * (h * w)) x (omega arith) (omega arith) e.0)
