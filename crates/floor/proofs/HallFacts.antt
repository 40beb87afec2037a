-- The code's hall: how it is made, read and set.
use Rattle.std.proofs.Common.{◌≡◌, ℕ, zero, suc, ◌+◌, ◌*◌, ◌%◌, ◌<◌, ◌≤◌, min, true, false, List, [], ◌∷◌, map, length, get_or, take, set, replicate, Some, None, Option, sym, refl, ap, ◌∙◌, subst, ⊎_elim, suc-mul, mul-zero, zero-mul, mul-suc, arith}
use Rattle.std.specs.Option.{option_map}
use Rattle.std.specs.List.{slice_get}
use Rattle.std.proofs.lemmas.List.{take-replicate, length-map, length-take-le, get_or-take, map-set}
use Rattle.std.proofs.lemmas.Option.{slice_get-get_or, slice_get_past, slice_get-map}
use Rattle.std.proofs.lemmas.Bool.{cases_lt, le-leb}
use Rattle.std.proofs.lemmas.Bool.Decides.{nat_tests}
use Rattle.toll.specs.declared.seconds.Seconds.{Seconds}
use Rattle.toll.specs.SecondsKind.{seconds, seconds_kind}
use Rattle.toll.specs.Tolls.{Le}
use Rattle.toll.specs.SecondsLaws.{seconds_same, seconds_value}
use Rattle.floor.specs.FloorLaws.{FloorLaws}
use Rattle.floor.specs.Meaning.{Spot, lanes_by, out_of, into, of_spot}
use Rattle.floor.specs.Setting.{with_toll}
use Rattle.floor.specs.Grid.{hall_size, next, repeated, grid_lane, grid_estimate, grid_meaning, hall_meaning}
use Rattle.floor.specs.Rising.{present}
use Rattle.floor.proofs.FloorFacts.{take_of_set}
use Rattle.floor.proofs.HallLaws.{hall_laws, spot_is}
use Rattle.floor.proofs.RisingFacts.{same_rising}
use Rattle.floor.proofs.GridFacts.{next_hop}
use Rattle.floor.proofs.GridLanes.{back, forth, into_is, out_is}
use Rattle.floor.specs.declared.hall.Hall.{Hall}

-- both factors of a product above 0 are above 0 and at most the product
pub record Factors (a b : ℕ) : Type 0 where
  pub left : 0 < a
  pub right : 0 < b
  pub left_fits : a ≤ a * b
  pub right_fits : b ≤ a * b

pub factors : (a b : ℕ) → 0 < a * b → Factors a b
factors zero b h = absurd (omega (arith, zero-mul b))
factors (suc a) zero h = absurd (omega (arith, mul-zero (suc a)))
factors (suc a) (suc b) h = record { left = omega arith; right = omega arith; left_fits = omega (arith, mul-suc (suc a) b); right_fits = omega (arith, suc-mul a (suc b)) }

pub size_fits : (rows columns : ℕ) → 0 < rows * columns → rows * columns ≤ 1024 → hall_size rows columns ≡ true
size_fits rows columns h k = let f = factors rows columns h in grind (arith, nat_tests)

pub size_none : (rows columns : ℕ) → rows * columns ≡ 0 → hall_size rows columns ≡ false
size_none zero columns e = refl
size_none (suc rows) zero e = grind (arith, nat_tests)
size_none (suc rows) (suc columns) e = absurd (omega (arith, suc-mul rows (suc columns)))

pub size_over : (rows columns : ℕ) → 1024 < rows * columns → hall_size rows columns ≡ false
size_over rows columns h = grind (arith, nat_tests)

map_replicate : {A B : Type 0} (f : A → B) (n : ℕ) (a : A) → map f (replicate n a) ≡ replicate n (f a)
map_replicate f zero a = refl
map_replicate f (suc n) a = ap (λ xs. f a ∷ xs) (map_replicate f n a)

-- a hall whose cells were filled with the least toll
pub filled_meaning : (rows columns : ℕ) (least : Seconds) (tolls : List ℕ) → rows * columns ≤ 1024 → tolls ≡ replicate 1024 least.value →
    grid_meaning rows columns least (map seconds (take (rows * columns) tolls)) ≡ grid_meaning rows columns least (replicate (rows * columns) least)
filled_meaning rows columns least tolls h e =
    ap (grid_meaning rows columns least)
    (ap (λ ts. map seconds (take (rows * columns) ts)) e ∙ ap (map seconds) (take-replicate (rows * columns) 1024 least.value h)
    ∙ map_replicate seconds (rows * columns) least.value ∙ ap (replicate (rows * columns)) (seconds_value least))

-- a cell's toll in the table, as a spot of the floor
module _ (rows columns : ℕ) (least : Seconds) (tolls : List ℕ) (full : length tolls ≡ 1024) (few : rows * columns ≤ 1024) where
  front_length : length (map seconds (take (rows * columns) tolls)) ≡ rows * columns
  front_length = length-map (take (rows * columns) tolls) seconds ∙ length-take-le (rows * columns) tolls (omega arith)

  pub spots_length : length (grid_meaning rows columns least (map seconds (take (rows * columns) tolls))).spots ≡ rows * columns
  spots_length = length-map (map seconds (take (rows * columns) tolls)) (λ t. record { toll = t; least = least }) ∙ front_length

  pub toll_at_lem : (k : ℕ) → k < rows * columns → slice_get (map seconds (take (rows * columns) tolls)) k ≡ Some (seconds (get_or tolls k 0))
  toll_at_lem k h =
      slice_get-map seconds (take (rows * columns) tolls) k
      ∙ ap (option_map seconds) (slice_get-get_or (take (rows * columns) tolls) k 0 (omega (arith, length-take-le (rows * columns) tolls (omega arith))) ∙ ap (λ (n : ℕ). Some n) (get_or-take (rows * columns) tolls k 0 h))

  pub spot_at : (k : ℕ) → k < rows * columns → slice_get (grid_meaning rows columns least (map seconds (take (rows * columns) tolls))).spots k ≡ Some (record { toll = seconds (get_or tolls k 0); least = least })
  spot_at k h = slice_get-map (λ t. record { toll = t; least = least }) (map seconds (take (rows * columns) tolls)) k ∙ ap (option_map (λ t. record { toll = t; least = least })) (toll_at_lem k h)

  pub spot_past : (k : ℕ) → rows * columns ≤ k → slice_get (grid_meaning rows columns least (map seconds (take (rows * columns) tolls))).spots k ≡ None
  spot_past k h = slice_get_past _ k (omega (arith, spots_length))

  -- a hall with its cells at or above the least toll is lawful
  pub cells_lawful : 0 < rows * columns → ((k : ℕ) → k < rows * columns → least.value ≤ get_or tolls k 0) → FloorLaws seconds_kind (grid_meaning rows columns least (map seconds (take (rows * columns) tolls)))
  cells_lawful some above = hall_laws rows columns least _ some few front_length high
    where
      high : (k : ℕ) (t : Seconds) → slice_get (map seconds (take (rows * columns) tolls)) k ≡ Some t → Le seconds_kind least t
      high k t e = ⊎_elim (λ (h : k < rows * columns). let q : seconds (get_or tolls k 0) ≡ t = (let a = toll_at_lem k h in cc) in subst (Le seconds_kind least) q (le-leb _ _ (omega (arith, above k h, least.fits)))) (λ (h : rows * columns ≤ k). let n = slice_get_past (map seconds (take (rows * columns) tolls)) k (omega (arith, front_length)) in absurd (let z : ◌≡◌ {A = ℕ} 0 1 = cc in omega arith)) (cases_lt k (rows * columns))

pub product_above : (a b : ℕ) → 0 < a → 0 < b → 0 < a * b
product_above zero b h k = absurd (omega arith)
product_above (suc a) b h k = omega (arith, suc-mul a b)

-- the hall after a cell's toll was stored
module _ (rows columns : ℕ) (least : Seconds) (tolls : List ℕ) (k : ℕ) (t : Seconds) where
  stored : (o : Option (Spot Seconds)) → o ≡ Some (record { toll = seconds (get_or tolls k 0); least = least }) →
      grid_meaning rows columns least (map seconds (take (rows * columns) (set tolls k t.value))) ≡ with_toll (grid_meaning rows columns least (map seconds (take (rows * columns) tolls))) k o t
  stored o e =
      let f : Seconds → Spot Seconds = λ u. record { toll = u; least = least } in
      let n = rows * columns in
      ap (λ ts. grid_meaning rows columns least (map seconds ts)) (take_of_set tolls n k t.value)
      ∙ ap (grid_meaning rows columns least) (map-set seconds (take n tolls) k t.value ∙ ap (set (map seconds (take n tolls)) k) (seconds_value t))
      ∙ ap (λ ss. record { places = rows * columns; lanes = 4 * (rows * columns); lane = grid_lane rows columns; spots = ss; estimate = grid_estimate rows columns least }) (map-set f (map seconds (take n tolls)) k t)
      ∙ ap (λ q. with_toll (grid_meaning rows columns least (map seconds (take n tolls))) k q t) (sym e)

  pub stored_meaning : length tolls ≡ 1024 → rows * columns ≤ 1024 → k < rows * columns →
      grid_meaning rows columns least (map seconds (take (rows * columns) (set tolls k t.value))) ≡
      with_toll (grid_meaning rows columns least (map seconds (take (rows * columns) tolls))) k (slice_get (grid_meaning rows columns least (map seconds (take (rows * columns) tolls))).spots k) t
  stored_meaning full few h = stored _ (spot_at rows columns least tolls full few k h)

-- a stored toll that is high enough keeps every cell above the least toll
pub stored_above : (tolls : List ℕ) (i j v least : ℕ) → least ≤ v → least ≤ get_or tolls j 0 → least ≤ get_or (set tolls i v) j 0
stored_above [] i j v least h l = l
stored_above (x ∷ xs) zero zero v least h l = h
stored_above (x ∷ xs) zero (suc j) v least h l = l
stored_above (x ∷ xs) (suc i) zero v least h l = l
stored_above (x ∷ xs) (suc i) (suc j) v least h l = stored_above xs i j v least h l

-- the least toll joined n times, as the code multiplies it
pub times_is : (t : Seconds) (n : ℕ) → seconds (min (t.value * n) 4294967295) ≡ repeated seconds_kind t n
times_is t n = seconds_same _ _ (go n)
  where
    go : (n : ℕ) → min (min (t.value * n) 4294967295) 4294967295 ≡ (repeated seconds_kind t n).value
    go zero = omega (arith, mul-zero t.value)
    go (suc n) = omega (arith, go n, mul-suc t.value n)

pub lawful : (h : Hall) → FloorLaws seconds_kind (hall_meaning h)
lawful h = cells_lawful h.rows h.columns h.least h.cells.tolls h.full h.few (product_above h.rows h.columns h.tall h.wide) h.above

-- in a hall the lanes of a spot are the lanes into it
pub spot_into : (h : Hall) (s : ℕ) → into (hall_meaning h) s ≡ of_spot (hall_meaning h) s
spot_into h s =
    let L = lawful h in
    same_rising 0 _ _ (L.into_listed s).rising (L.spot_listed s).rising
    (λ l i. let x = (L.into_listed s).only l i in (L.spot_listed s).every l x.0 x.1 (spot_is h.rows h.columns l x.0 x.1 ∙ x.2))
    (λ l i. let x = (L.spot_listed s).only l i in (L.into_listed s).every l x.0 x.1 (sym (spot_is h.rows h.columns l x.0 x.1) ∙ x.2))

module _ (h : Hall) (p : ℕ) (below : p < h.rows * h.columns) (a b c d : Option ℕ) where
  -- the four lanes out of a cell, as the code finds them
  pub out_tried : a ≡ option_map (λ q. 4 * p + 0) (next h.rows h.columns p 0) → b ≡ option_map (λ q. 4 * p + 1) (next h.rows h.columns p 1) → c ≡ option_map (λ q. 4 * p + 2) (next h.rows h.columns p 2) → d ≡ option_map (λ q. 4 * p + 3) (next h.rows h.columns p 3) → out_of (hall_meaning h) p ≡ present (a ∷ b ∷ c ∷ d ∷ [])
  unfolding lanes_by
  out_tried ea eb ec ed =
      let r = h.rows in let k = h.columns in
      let n : (i : ℕ) → i < 4 → option_map (λ q. 4 * p + i) (next r k p i) ≡ forth r k p i = λ i l. ap (option_map (λ q. 4 * p + i)) (next_hop r k p i below l) in
      let ra = ea ∙ n 0 (omega arith) in let rb = eb ∙ n 1 (omega arith) in let rc = ec ∙ n 2 (omega arith) in let rd = ed ∙ n 3 (omega arith) in
      out_is r k p below ∙ sym (λ i. present (ra i ∷ rb i ∷ rc i ∷ rd i ∷ []))

  -- the four lanes into a cell, as the code finds them
  pub into_tried : a ≡ option_map (λ q. 4 * q + (0 + 2) % 4) (next h.rows h.columns p 0) → b ≡ option_map (λ q. 4 * q + (3 + 2) % 4) (next h.rows h.columns p 3) → c ≡ option_map (λ q. 4 * q + (1 + 2) % 4) (next h.rows h.columns p 1) → d ≡ option_map (λ q. 4 * q + (2 + 2) % 4) (next h.rows h.columns p 2) → into (hall_meaning h) p ≡ present (a ∷ b ∷ c ∷ d ∷ [])
  unfolding lanes_by
  into_tried ea eb ec ed =
      let r = h.rows in let k = h.columns in
      let n : (i : ℕ) → i < 4 → option_map (λ q. 4 * q + (i + 2) % 4) (next r k p i) ≡ back r k p i = λ i l. ap (option_map (λ q. 4 * q + (i + 2) % 4)) (next_hop r k p i below l) in
      let ra = ea ∙ n 0 (omega arith) in let rb = eb ∙ n 3 (omega arith) in let rc = ec ∙ n 1 (omega arith) in let rd = ed ∙ n 2 (omega arith) in
      into_is r k p below ∙ sym (λ i. present (ra i ∷ rb i ∷ rc i ∷ rd i ∷ []))
