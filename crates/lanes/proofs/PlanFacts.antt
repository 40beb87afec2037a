-- A fair list of records is a lawful floor.
use Rattle.std.proofs.Common.{◌≡◌, ◌≢◌, ℕ, zero, suc, ◌<◌, ◌≤◌, Bool, true, ◌&&◌, eqb, ltb, List, [], ◌∷◌, map, length, Some, None, Option, sym, refl, ap, ◌∙◌, subst, inl, ⊎_elim, arith}
use Rattle.std.specs.Bool.{then_some}
use Rattle.std.specs.Option.{option_map}
use Rattle.std.specs.List.{slice_get}
use Rattle.std.proofs.lemmas.List.{length-map}
use Rattle.std.proofs.lemmas.Option.{slice_get-map, slice_get_within, slice_get_cases, cond_some, same_Some}
use Rattle.std.proofs.lemmas.Bool.{cases_lt, lt-ltb, le-ltb, ne_eqb}
use Rattle.std.proofs.lemmas.Bool.Decides.{nat_tests}
use Rattle.toll.specs.Tolls.{Tolls, TollLaws, Le}
use Rattle.floor.specs.Rising.{In}
use Rattle.floor.specs.Meaning.{Lane, Spot, then, lane_toll, lanes_by, of_spot}
use Rattle.floor.specs.FloorLaws.{Listed, FloorLaws}
use Rattle.floor.proofs.FloorFacts.{listed, none_in}
use Rattle.floor.proofs.RisingFacts.{same_rising}
use Rattle.lanes.specs.declared.record.LaneRecord.{LaneRecord}
use Rattle.lanes.specs.declared.plan.LanePlan.{LanePlan}
use Rattle.lanes.specs.Records.{Fits}
use Rattle.lanes.specs.Plans.{lane_as, lane_of, spot_of, list_meaning, plan_meaning}
use Rattle.lanes.proofs.FairFacts.{is_fair}

-- what there is below the end
pub below_length : {X : Type 0} (xs : List X) (k : ℕ) → k < length xs → (x : X) × (slice_get xs k ≡ Some x)
below_length xs k h = ⊎_elim (λ c. (c.0, c.2)) (λ c. absurd (omega arith)) (slice_get_cases xs k).1

-- what holds of f x, where x is there, holds of what a map by f gives
mapped : {X Y : Type 0} (f : X → Y) (P : Y → Type 0) (o : Option X) (y : Y) → option_map f o ≡ Some y → ((x : X) → o ≡ Some x → P (f x)) → P y
mapped f P None y e h = absurd (cc)
mapped f P (Some x) y e h = subst P (same_Some (f x) y e) (h x refl)

module _ {T : Type 0} (rs : List (LaneRecord T)) where
  -- a record is the lane of its number
  pub lane_there : (l : ℕ) (r : LaneRecord T) → slice_get rs l ≡ Some r → lane_of rs l ≡ Some (lane_as l r)
  lane_there l r e = ap (option_map (lane_as l)) e

module _ {T : Type 0} (A : Tolls T) (places : ℕ) (rs : List (LaneRecord T)) where
  -- so what holds of each record as a lane holds of each lane, and what holds of each as a spot of each spot
  each_lane : (P : Lane → Type 0) (l : ℕ) (x : Lane) → lane_of rs l ≡ Some x → ((r : LaneRecord T) → slice_get rs l ≡ Some r → P (lane_as l r)) → P x
  each_lane P l x = mapped (lane_as l) P (slice_get rs l) x

  each_spot : (P : Spot T → Type 0) (k : ℕ) (s : Spot T) → slice_get (map (spot_of A) rs) k ≡ Some s → ((r : LaneRecord T) → P (spot_of A r)) → P s
  each_spot P k s e h = mapped (spot_of A) P (slice_get rs k) s (sym (slice_get-map (spot_of A) rs k) ∙ e) (λ r _. h r)

  -- the toll of a spot is that of its lane
  pub lane_toll_is : (l : ℕ) → option_map (λ s. s.toll) (slice_get (list_meaning A places rs).spots l) ≡ lane_toll (list_meaning A places rs) l
  lane_toll_is l = go (slice_get rs l) (slice_get-map (spot_of A) rs l)
    where
      go : (o : Option (LaneRecord T)) → slice_get (map (spot_of A) rs) l ≡ option_map (spot_of A) o → option_map (λ s. s.toll) (slice_get (map (spot_of A) rs) l) ≡ then {A = Lane} (option_map (lane_as l) o) (λ x. option_map (λ s. s.toll) (slice_get (map (spot_of A) rs) x.spot))
      go None e = ap (option_map (λ (s : Spot T). s.toll)) e
      go (Some r) e = refl

  numbered : (l : ℕ) (x : Lane) → lane_of rs l ≡ Some x → l < length rs
  numbered l x e = each_lane (λ _. l < length rs) l x e (λ r f. slice_get_within rs l r f)

  lanes_listed : (part : Lane → ℕ) (p : ℕ) → Listed (list_meaning A places rs) part p (lanes_by (list_meaning A places rs) part p)
  lanes_listed = listed (list_meaning A places rs) numbered

  -- no lane has a part that is past all its values
  nowhere : (part : Lane → ℕ) (n p : ℕ) → ((l : ℕ) (x : Lane) → lane_of rs l ≡ Some x → part x < n) → n ≤ p → lanes_by (list_meaning A places rs) part p ≡ []
  nowhere part n p below h = none_in _ (λ l i. let x = (lanes_listed part p).only l i in omega (arith, below l x.0 x.1, x.2))

  own_spot : (l : ℕ) (x : Lane) → lane_of rs l ≡ Some x → x.spot ≡ l
  own_spot l x e = each_lane (λ y. y.spot ≡ l) l x e (λ r f. refl)

  known_spot : (l : ℕ) (x : Lane) → lane_of rs l ≡ Some x → x.spot < length rs
  known_spot l x e = omega (arith, numbered l x e, own_spot l x e)

  -- each spot has one lane, of its own number
  pub spot_one : (s : ℕ) → s < length rs → of_spot (list_meaning A places rs) s ≡ s ∷ []
  spot_one s h =
      let L = lanes_listed (λ x. x.spot) s in let b = below_length rs s h in
      same_rising 0 _ (s ∷ []) L.rising (omega arith, tt)
      (λ l i. let x = L.only l i in inl (sym (own_spot l x.0 x.1) ∙ x.2))
      (λ l i. ⊎_elim (λ (e : l ≡ s). subst (λ (n : ℕ). In n (of_spot (list_meaning A places rs) s)) (sym e) (L.every s (lane_as s b.0) (lane_there rs s b.0 b.1) refl)) (λ (n : ⊥). absurd n) i)

  -- so the k-th is there for one k alone
  pub spot_nth : (s k : ℕ) (t : Bool) → t ≡ (ltb s (length rs) && eqb k 0) → then_some t s ≡ slice_get (of_spot (list_meaning A places rs) s) k
  spot_nth s k t e =
      ⊎_elim (λ (h : s < length rs). ap (λ b. then_some b s) (e ∙ ap (λ b. b && eqb k 0) (lt-ltb s (length rs) h)) ∙ first k ∙ ap (λ (xs : List ℕ). slice_get xs k) (sym (spot_one s h)))
      (λ (h : length rs ≤ s). ap (λ b. then_some b s) (e ∙ ap (λ b. b && eqb k 0) (le-ltb s (length rs) h)) ∙ ap (λ (xs : List ℕ). slice_get xs k) (sym (nowhere (λ x. x.spot) (length rs) s known_spot h)))
      (cases_lt s (length rs))
    where
      first : (k : ℕ) → then_some (eqb k 0) s ≡ slice_get (s ∷ []) k
      first zero = refl
      first (suc k) = ap (λ b. then_some b s) (ne_eqb (suc k) 0 (λ e. omega arith))

  pub list_laws : TollLaws A → Fits places rs → FloorLaws A (list_meaning A places rs)
  list_laws L fits =
      let leaves : (l : ℕ) (x : Lane) → lane_of rs l ≡ Some x → x.leaves < places = λ l x e. each_lane (λ y. y.leaves < places) l x e (λ r f. (fits.fair.ends l r f).leaves_place) in
      let enters : (l : ℕ) (x : Lane) → lane_of rs l ≡ Some x → x.enters < places = λ l x e. each_lane (λ y. y.enters < places) l x e (λ r f. (fits.fair.ends l r f).enters_place) in
      let spots : length (map (spot_of A) rs) ≡ length rs = length-map rs (spot_of A) in
      record {
        some_place = fits.some_place;
        few_places = fits.few_places;
        few_lanes = omega (arith, fits.few_lanes);
        numbered = numbered;
        leaves_place = leaves;
        enters_place = enters;
        ends_differ = λ l x e. each_lane (λ y. y.leaves ≢ y.enters) l x e (λ r f. (fits.fair.ends l r f).ends_differ);
        known_spot = λ l x e. omega (arith, known_spot l x e, spots);
        single = λ l k x y e f.
            each_lane (λ v. v.leaves ≡ y.leaves → v.enters ≡ y.enters → l ≡ k) l x e (λ r u.
            each_lane (λ w. r.leaves ≡ w.leaves → r.enters ≡ w.enters → l ≡ k) k y f (λ s v. fits.fair.single l k r s u v));
        above_least = λ k s e. each_spot (λ v. Le A v.least v.toll) k s e (λ r. L.least r.toll);
        out_listed = lanes_listed (λ x. x.leaves);
        into_listed = lanes_listed (λ x. x.enters);
        spot_listed = lanes_listed (λ x. x.spot);
        out_nowhere = λ p. nowhere (λ x. x.leaves) places p leaves;
        into_nowhere = λ p. nowhere (λ x. x.enters) places p enters;
        spot_nowhere = λ p n. nowhere (λ x. x.spot) (length rs) p known_spot (omega (arith, spots));
        estimate_known = λ a b p q. grind (arith, nat_tests);
        estimate_nowhere = λ a b e. grind (arith, nat_tests);
        estimate_here = λ a p. let t : (ltb a places && ltb a places) ≡ true = grind (arith, nat_tests) in rw t;
        estimate_step = λ a l x t d e p q f g. subst (λ (y : T). Le A y (A.join d t)) (cond_some _ A.zero e g).1 (L.least (A.join d t));
      }

-- every plan is a lawful floor
pub plan_laws : {T : Type 0} (A : Tolls T) (p : LanePlan T) → TollLaws A → FloorLaws A (plan_meaning A p)
plan_laws A p L =
    list_laws A p.places p.lanes.now L (record { some_place = p.some; few_places = p.few; few_lanes = p.short; fair = is_fair p.places p.lanes.now p.fair })
