-- The geometry of a hall in cell numbers: where a lane leads, by arithmetic on its number.
use Rattle.std.proofs.Common.{◌≡◌, ℕ, zero, suc, ◌+◌, ◌-◌, ◌*◌, ◌/◌, ◌%◌, ◌<◌, ◌≤◌, true, cond, eqb, ltb, leb, ◌⊎◌, Some, None, Option, sym, refl, ap, ◌∙◌, inl, inr, ⊎_elim, mod-lt, suc-mul, mul-zero, div-add-mod', zero-mul, add-one, arith}
use Rattle.std.specs.Option.{option_map}
use Rattle.std.proofs.lemmas.Nat.{mul-add-lt, div-mul-add, mod-mul-add, div_below}
use Rattle.std.proofs.lemmas.Bool.{cases_eq, cases_lt}
use Rattle.std.proofs.lemmas.Bool.Decides.{nat_tests}
use Rattle.floor.specs.declared.hall.direction.Direction.{Direction}
use Rattle.floor.specs.declared.hall.direction.Direction.TheVariants.{Up, Right, Down, Left}
use Rattle.floor.specs.Directions.{number}
use Rattle.floor.specs.Meaning.{Lane}
use Rattle.floor.specs.Grid.{cell, given, beside, next, grid_lane}

-- the cell in direction d of cell c, by arithmetic on c
abbrev pub hop : (h w c d : ℕ) → Option ℕ
hop h w c d =
    cond (eqb d 0) (given (leb w c) (c - w))
    (cond (eqb d 1) (given (ltb (c % w + 1) w) (c + 1))
    (cond (eqb d 2) (given (ltb (c + w) (h * w)) (c + w))
    (given (ltb 0 (c % w)) (c - 1))))

-- the cell that lane l enters
abbrev pub hops : (h w l : ℕ) → Option ℕ
hops h w l = cond (ltb (l / 4) (h * w)) (hop h w (l / 4) (l % 4)) None

-- products of two variables, once and for all
pub some_columns : (h w c : ℕ) → c < h * w → 0 < w
some_columns h zero c l = absurd (omega (arith, mul-zero h))
some_columns h (suc w) c l = omega arith

-- one to the right stays in the row
pub right_mod : (w c : ℕ) → 0 < w → c % w + 1 < w → ((c + 1) % w ≡ c % w + 1) × ((c + 1) / w ≡ c / w)
right_mod w c p h =
    let e : c / w * w + (c % w + 1) ≡ c + 1 = omega (arith, div-add-mod' c w) in
    (ap (λ x. x % w) (sym e) ∙ mod-mul-add (c / w) w (c % w + 1) h, ap (λ x. x / w) (sym e) ∙ div-mul-add (c / w) w (c % w + 1) h)

pub right_below : (h w c : ℕ) → c < h * w → c % w + 1 < w → c + 1 < h * w
right_below h w c l k =
    let p = some_columns h w c l in
    omega (arith, mul-add-lt (c / w) w (c % w + 1) h (div_below c w h p l) k, div-add-mod' c w)

-- one to the left
pub left_mod : (w c : ℕ) → 0 < w → 0 < c % w → ((c - 1) % w + 1 ≡ c % w) × ((c - 1) / w ≡ c / w)
left_mod w c p h =
    let e : c / w * w + (c % w - 1) ≡ c - 1 = omega (arith, div-add-mod' c w) in
    let l : c % w - 1 < w = omega (arith, mod-lt c {m = w} p) in
    (let q : (c - 1) % w ≡ c % w - 1 = ap (λ x. x % w) (sym e) ∙ mod-mul-add (c / w) w (c % w - 1) l in omega arith, ap (λ x. x / w) (sym e) ∙ div-mul-add (c / w) w (c % w - 1) l)

-- what a lane does, for omega to split
pub record Goes (h w l p : ℕ) : Type 0 where
  pub cell : l / 4 < h * w
  pub way : ((l % 4 ≡ 0) × (w ≤ l / 4) × (l / 4 ≡ p + w)) ⊎ (((l % 4 ≡ 1) × (l / 4 % w + 1 < w) × (p ≡ l / 4 + 1)) ⊎ (((l % 4 ≡ 2) × (l / 4 + w < h * w) × (p ≡ l / 4 + w)) ⊎ ((l % 4 ≡ 3) × (0 < l / 4 % w) × (l / 4 ≡ p + 1))))

pub goes : (h w l p : ℕ) → hops h w l ≡ Some p → Goes h w l p
goes h w l p e = record {
  cell = grind (arith, nat_tests);
  way =
      ⊎_elim (λ (a : l % 4 ≡ 0). inl (a, grind (arith, nat_tests), grind (arith, nat_tests))) (λ (a : l % 4 ≡ 0 → ⊥).
      ⊎_elim (λ (b : l % 4 ≡ 1). inr (inl (b, grind (arith, nat_tests), grind (arith, nat_tests)))) (λ (b : l % 4 ≡ 1 → ⊥).
      ⊎_elim (λ (d : l % 4 ≡ 2). inr (inr (inl (d, grind (arith, nat_tests), grind (arith, nat_tests))))) (λ (d : l % 4 ≡ 2 → ⊥).
      inr (inr (inr (omega arith, grind (arith, nat_tests), grind (arith, nat_tests)))))
      (cases_eq (l % 4) 2)) (cases_eq (l % 4) 1)) (cases_eq (l % 4) 0);
}

pub goes_below : (h w l p : ℕ) → Goes h w l p → (l < 4 * (h * w)) × (p < h * w)
goes_below h w l p g =
    let n = some_columns h w (l / 4) g.cell in
    (omega arith, ⊎_elim (λ a. omega arith) (λ r. ⊎_elim (λ a. omega (arith, right_below h w (l / 4) g.cell a.1)) (λ q. omega arith) r) g.way)

pub goes_single : (h w l m p : ℕ) → Goes h w l p → Goes h w m p → l / 4 ≡ m / 4 → l ≡ m
goes_single h w l m p g k e =
    let n = some_columns h w (l / 4) g.cell in
    let u = mod-lt (l / 4) {m = w} n in
    let v : m / 4 % w < w = mod-lt (m / 4) {m = w} n in
    omega (arith, g.way, k.way)

pub goes_apart : (h w l : ℕ) → Goes h w l (l / 4) → ⊥
goes_apart h w l g =
    let n = some_columns h w (l / 4) g.cell in
    omega (arith, g.way)

-- each direction by itself; the products come in as numbers n and m
up : (w n r k m : ℕ) → k < w → ((r ≡ 0) × (n ≡ 0)) ⊎ ((0 < r) × (n ≡ m + w)) → given (leb w (n + k)) (n + k - w) ≡ given (ltb 0 r) (m + k)
up w n r k m b (inl e) = grind (arith, nat_tests)
up w n r k m b (inr e) = grind (arith, nat_tests)

up_cases : (r w : ℕ) → ((r ≡ 0) × (r * w ≡ 0)) ⊎ ((0 < r) × (r * w ≡ (r - 1) * w + w))
up_cases zero w = inl (refl, zero-mul w)
up_cases (suc r) w = inr (omega arith, let e : suc r - 1 ≡ r = omega arith in rw e (suc-mul r w))

right : (w r k : ℕ) → k < w → given (ltb ((r * w + k) % w + 1) w) (r * w + k + 1) ≡ given (ltb (k + 1) w) (cell w r (k + 1))
right w r k b = rw (mod-mul-add r w k b) (grind (arith, nat_tests))

down : (h w r k n m t : ℕ) → k < w → r < h → m ≡ n + w → (r + 1 < h → m + k < t) → (r + 1 ≡ h → t ≡ m) → given (ltb (n + k + w) t) (n + k + w) ≡ given (ltb (r + 1) h) (m + k)
down h w r k n m t b a e f g =
    ⊎_elim (λ (l : r + 1 < h). let x = f l in grind (arith, nat_tests)) (λ (l : h ≤ r + 1). let y : r + 1 ≡ h = omega arith in let x = g y in grind (arith, nat_tests)) (cases_lt (r + 1) h)

left : (w r k : ℕ) → k < w → given (ltb 0 ((r * w + k) % w)) (r * w + k - 1) ≡ given (ltb 0 k) (cell w r (k - 1))
left w r k b = rw (mod-mul-add r w k b) (grind (arith, nat_tests))

hop_beside : (h w r k d : ℕ) → r < h → k < w → d < 4 → hop h w (cell w r k) d ≡ beside h w r k d
hop_beside h w r k zero a b l = up w (r * w) r k ((r - 1) * w) b (up_cases r w)
hop_beside h w r k (suc zero) a b l = right w r k b
hop_beside h w r k (suc (suc zero)) a b l =
    down h w r k (r * w) ((r + 1) * w) (h * w) b a (rw add-one (suc-mul r w)) (λ f. omega (arith, mul-add-lt (r + 1) w k h f b)) (λ f. ap (λ (n : ℕ). n * w) (sym f))
hop_beside h w r k (suc (suc (suc zero))) a b l = left w r k b
hop_beside h w r k (suc (suc (suc (suc n)))) a b l = absurd (omega arith)

-- by rows and columns, or by arithmetic: the same cell
pub next_hop : (h w c d : ℕ) → c < h * w → d < 4 → next h w c d ≡ hop h w c d
next_hop h w c d l k =
    let p = some_columns h w c l in
    sym (hop_beside h w (c / w) (c % w) d (div_below c w h p l) (mod-lt c {m = w} p) k) ∙ ap (λ (n : ℕ). hop h w n d) (div-add-mod' c w)

-- the cell beside another is a cell
pub next_below : (h w c d p : ℕ) → c < h * w → d < 4 → next h w c d ≡ Some p → p < h * w
next_below h w c d p l k e =
    let x : (4 * c + d) / 4 ≡ c = omega arith in
    let y : (4 * c + d) % 4 ≡ d = omega arith in
    let t : ltb c (h * w) ≡ true = grind (arith, nat_tests) in
    (goes_below h w (4 * c + d) p (goes h w (4 * c + d) p (rw (x, y, t) (sym (next_hop h w c d l k) ∙ e)))).1

-- the lane of number l, by the cell that it enters
abbrev pub lane_to : ℕ → ℕ → Lane
lane_to l e = record { leaves = l / 4; enters = e; spot = e }

pub lane_hops : (h w l : ℕ) → grid_lane h w l ≡ option_map (lane_to l) (hops h w l)
lane_hops h w l =
    ⊎_elim (λ (b : l / 4 < h * w). let e = next_hop h w (l / 4) (l % 4) b (omega arith) in let t : ltb (l / 4) (h * w) ≡ true = grind (arith, nat_tests) in rw (t, e))
    (λ (b : h * w ≤ l / 4). grind (arith, nat_tests)) (cases_lt (l / 4) (h * w))

pub number_below : (d : Direction) → number d < 4
number_below Up = omega arith
number_below Right = omega arith
number_below Down = omega arith
number_below Left = omega arith
