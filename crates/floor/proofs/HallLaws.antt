-- Every hall is a lawful floor.
use Rattle.std.proofs.Common.{◌≡◌, ℕ, zero, suc, ◌+◌, ◌-◌, ◌*◌, ◌/◌, ◌<◌, ◌≤◌, Bool, true, false, ◌&&◌, ltb, List, length, Some, None, Option, sym, refl, ap, ◌∙◌, subst, ⊎_elim, add-one, arith}
use native.Mathlib.Nat.{add-div_right, add-mod_right}
use Rattle.std.specs.Option.{option_map}
use Rattle.std.specs.List.{slice_get}
use Rattle.std.proofs.lemmas.List.{length-map}
use Rattle.std.proofs.lemmas.Bool.{cases_eq}
use Rattle.std.proofs.lemmas.Bool.Decides.{nat_tests}
use Rattle.std.proofs.lemmas.Option.{slice_get-map}
use Rattle.toll.specs.Tolls.{Tolls, TollLaws, Le}
use Rattle.toll.specs.SecondsKind.{seconds_kind}
use Rattle.toll.specs.declared.seconds.Seconds.{Seconds}
use Rattle.toll.specs.SecondsLaws.{seconds_lawful}
use Rattle.floor.specs.Meaning.{Lane, Spot, then, lane_toll}
use Rattle.floor.specs.FloorLaws.{FloorLaws}
use Rattle.floor.specs.Grid.{given, away, repeated, grid_lane, grid_estimate, grid_meaning}
use Rattle.floor.proofs.GridFacts.{Goes, goes, goes_below, goes_single, goes_apart, some_columns, right_mod, left_mod}
use Rattle.floor.proofs.GridLanes.{lane_enters}
use Rattle.floor.proofs.FloorFacts.{listed, none_in}

-- a lane leads to a cell that is one step away
near : (h w a l p : ℕ) → Goes h w l p → away w a p ≤ away w a (l / 4) + 1
near h w a l p g =
    let n = some_columns h w (l / 4) g.cell in
    ⊎_elim (λ x. let q = add-div_right p {k = w} n in let r = add-mod_right p w in rw (x.2, q, r) (omega arith))
    (λ s. ⊎_elim (λ x. let m = right_mod w (l / 4) n x.1 in rw (x.2, m.0, m.1) (omega arith))
    (λ t. ⊎_elim (λ x. let q = add-div_right (l / 4) {k = w} n in let r = add-mod_right (l / 4) w in rw (x.2, q, r) (omega arith))
    (λ x. let m = left_mod w (l / 4) n x.1 in let q : p ≡ l / 4 - 1 = omega arith in rw (q, m.1) (omega arith)) t) s) g.way

module _ {T : Type 0} {A : Tolls T} (L : TollLaws A) (t : T) where
  -- joining once more never makes a toll less
  repeated_grows : (n : ℕ) → Le A (repeated A t n) (repeated A t (suc n))
  repeated_grows n = subst (λ (x : T). Le A x (A.join (repeated A t n) t)) (L.zero_right (repeated A t n)) (L.mono_right A.zero t (repeated A t n) (L.least t))

  repeated_mono : (m n : ℕ) → m ≤ n → Le A (repeated A t m) (repeated A t n)
  repeated_mono m zero h = let e : m ≡ 0 = omega arith in subst (λ (k : ℕ). Le A (repeated A t k) A.zero) (sym e) (L.itself A.zero)
  repeated_mono m (suc n) h =
      ⊎_elim (λ (e : m ≡ suc n). subst (λ (k : ℕ). Le A (repeated A t k) (repeated A t (suc n))) (sym e) (L.itself _))
      (λ (ne : m ≡ suc n → ⊥). L.trans _ _ _ (repeated_mono m n (omega arith)) (repeated_grows n)) (cases_eq m (suc n))

  -- a step further costs at most one toll more
  repeated_step : (m n : ℕ) (u : T) → m ≤ n + 1 → Le A t u → Le A (repeated A t m) (A.join (repeated A t n) u)
  repeated_step m n u h k = L.trans _ _ _ (subst (λ (j : ℕ). Le A (repeated A t m) (repeated A t j)) (add-one n) (repeated_mono m (n + 1) h)) (L.mono_right t u (repeated A t n) k)

module _ (h w : ℕ) where
  lane_goes : (l : ℕ) (x : Lane) → grid_lane h w l ≡ Some x → Goes h w l x.enters
  lane_goes l x e = goes h w l x.enters (lane_enters h w l x e).0

  leaves_is : (l : ℕ) (x : Lane) → grid_lane h w l ≡ Some x → x.leaves ≡ l / 4
  leaves_is l x e = ap (λ (y : Lane). y.leaves) (lane_enters h w l x e).1

  pub spot_is : (l : ℕ) (x : Lane) → grid_lane h w l ≡ Some x → x.spot ≡ x.enters
  spot_is l x e = ap (λ (y : Lane). y.spot) (lane_enters h w l x e).1

module _ (h w : ℕ) (least : Seconds) (tolls : List Seconds) where
  -- each spot has the least toll of the hall, and a toll of the list
  spot_of : (k : ℕ) (s : Spot Seconds) → slice_get (grid_meaning h w least tolls).spots k ≡ Some s → (slice_get tolls k ≡ Some s.toll) × (s.least ≡ least)
  spot_of k s e = go (slice_get tolls k) (sym (slice_get-map (λ t. record { toll = t; least = least }) tolls k) ∙ e)
    where
      go : (o : Option Seconds) → option_map (λ t. record { toll = t; least = least }) o ≡ Some s → (o ≡ Some s.toll) × (s.least ≡ least)
      go None q = absurd (let z : ◌≡◌ {A = ℕ} 0 1 = cc in omega arith)
      go (Some t) q = let r : record { toll = t; least = least } ≡ s = cc in (ap (λ (x : Spot Seconds). Some x.toll) r, sym (ap (λ (x : Spot Seconds). x.least) r))

  estimate_is : (a b : ℕ) (e : Seconds) → grid_estimate h w least a b ≡ Some e → e ≡ repeated seconds_kind least (away w a b)
  estimate_is a b e q = go (ltb a (h * w) && ltb b (h * w)) q
    where
      go : (t : Bool) → given t (repeated seconds_kind least (away w a b)) ≡ Some e → e ≡ repeated seconds_kind least (away w a b)
      go true q = cc
      go false q = absurd (let z : ◌≡◌ {A = ℕ} 0 1 = cc in omega arith)

  -- the toll of a lane is at least the hall's least toll
  toll_above : ((k : ℕ) (t : Seconds) → slice_get tolls k ≡ Some t → Le seconds_kind least t) → (l : ℕ) (x : Lane) (t : Seconds) → grid_lane h w l ≡ Some x → lane_toll (grid_meaning h w least tolls) l ≡ Some t → Le seconds_kind least t
  toll_above above l x t e q = go (slice_get (grid_meaning h w least tolls).spots x.spot) refl (sym (ap (λ o. then o (λ y. option_map (λ s. s.toll) (slice_get (grid_meaning h w least tolls).spots y.spot))) e) ∙ q)
    where
      go : (o : Option (Spot Seconds)) → slice_get (grid_meaning h w least tolls).spots x.spot ≡ o → option_map (λ s. s.toll) o ≡ Some t → Le seconds_kind least t
      go None r f = absurd (let z : ◌≡◌ {A = ℕ} 0 1 = cc in omega arith)
      go (Some s) r f = above x.spot t ((spot_of x.spot s r).0 ∙ f)

  pub hall_laws : 0 < h * w → h * w ≤ 1024 → length tolls ≡ h * w → ((k : ℕ) (t : Seconds) → slice_get tolls k ≡ Some t → Le seconds_kind least t) → FloorLaws seconds_kind (grid_meaning h w least tolls)
  hall_laws some few size above =
      let m = grid_meaning h w least tolls in
      let numbered : (l : ℕ) (x : Lane) → grid_lane h w l ≡ Some x → l < 4 * (h * w) = λ l x e. (goes_below h w l x.enters (lane_goes h w l x e)).0 in
      let leaves : (l : ℕ) (x : Lane) → grid_lane h w l ≡ Some x → x.leaves < h * w = λ l x e. omega (arith, (lane_goes h w l x e).cell, leaves_is h w l x e) in
      let enters : (l : ℕ) (x : Lane) → grid_lane h w l ≡ Some x → x.enters < h * w = λ l x e. (goes_below h w l x.enters (lane_goes h w l x e)).1 in
      let spots : length m.spots ≡ h * w = length-map tolls (λ t. record { toll = t; least = least }) ∙ size in
      record {
        some_place = some;
        few_places = few;
        few_lanes = omega arith;
        numbered = numbered;
        leaves_place = leaves;
        enters_place = enters;
        ends_differ = λ l x e q. goes_apart h w l (subst (Goes h w l) (sym q ∙ leaves_is h w l x e) (lane_goes h w l x e));
        known_spot = λ l x e. omega (arith, enters l x e, spot_is h w l x e, spots);
        single = λ l k x y e f p q. goes_single h w l k x.enters (lane_goes h w l x e) (subst (Goes h w k) (sym q) (lane_goes h w k y f)) (sym (leaves_is h w l x e) ∙ p ∙ leaves_is h w k y f);
        above_least = λ k s e. let r = spot_of k s e in subst (λ (t : Seconds). Le seconds_kind t s.toll) (sym r.1) (above k s.toll r.0);
        out_listed = λ p. listed m numbered (λ x. x.leaves) p;
        into_listed = λ p. listed m numbered (λ x. x.enters) p;
        spot_listed = λ p. listed m numbered (λ x. x.spot) p;
        out_nowhere = λ p n. none_in _ (λ l i. let x = (listed m numbered (λ x. x.leaves) p).only l i in omega (arith, leaves l x.0 x.1, x.2));
        into_nowhere = λ p n. none_in _ (λ l i. let x = (listed m numbered (λ x. x.enters) p).only l i in omega (arith, enters l x.0 x.1, x.2));
        spot_nowhere = λ p n. none_in _ (λ l i. let x = (listed m numbered (λ x. x.spot) p).only l i in omega (arith, enters l x.0 x.1, spot_is h w l x.0 x.1, x.2, spots));
        estimate_known = λ a b p q. grind (arith, nat_tests);
        estimate_nowhere = λ a b e. grind (arith, nat_tests);
        estimate_here = λ a p. let z : away w a a ≡ 0 = omega arith in let t : (ltb a (h * w) && ltb a (h * w)) ≡ true = grind (arith, nat_tests) in rw (t, z);
        estimate_step = λ a l x t d e p q f g.
            let n = near h w a l x.enters (lane_goes h w l x p) in
            let s = repeated_step seconds_lawful least (away w a x.enters) (away w a (l / 4)) t n (toll_above above l x t p q) in
            let ee = estimate_is a x.enters e g in
            let dd = estimate_is a x.leaves d f ∙ ap (λ (n : ℕ). repeated seconds_kind least (away w a n)) (leaves_is h w l x p) in
            subst (λ (y : Seconds). Le seconds_kind y (seconds_kind.join d t)) (sym ee) (subst (λ (y : Seconds). Le seconds_kind (repeated seconds_kind least (away w a x.enters)) (seconds_kind.join y t)) (sym dd) s);
      }
