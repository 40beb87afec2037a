-- A toll that is stored alters no end, so a fair list stays fair and its lanes stay.
use Rattle.std.proofs.Common.{◌≡◌, ℕ, zero, suc, ◌≤◌, Bool, not, ◌&&◌, ◌||◌, List, [], ◌∷◌, map, length, get_or, set, Some, Option, sym, refl, ap, ◌∙◌, arith}
use Rattle.std.specs.Option.{option_map}
use Rattle.std.specs.List.{slice_get}
use Rattle.toll.specs.Tolls.{Tolls}
use Rattle.floor.specs.Meaning.{Spot}
use Rattle.floor.specs.Setting.{with_toll}
use Rattle.lanes.specs.declared.record.LaneRecord.{LaneRecord}
use Rattle.lanes.specs.Records.{same_ends, appears, placed, all_fair}
use Rattle.lanes.specs.Plans.{lane_as, lane_of, spot_of, zero_between, list_meaning, retolled}

module _ {T : Type 0} where
  -- as the code stores it
  pub set_retolled : (rs : List (LaneRecord T)) (k : ℕ) (d : LaneRecord T) (t : T) → set rs k (record { leaves = (get_or rs k d).leaves; enters = (get_or rs k d).enters; toll = t }) ≡ retolled rs k t
  set_retolled [] k d t = refl
  set_retolled (r ∷ rs) zero d t = refl
  set_retolled (r ∷ rs) (suc k) d t = ap (λ (ss : List (LaneRecord T)). r ∷ ss) (set_retolled rs k d t)

  pub retolled_length : (rs : List (LaneRecord T)) (k : ℕ) (t : T) → length (retolled rs k t) ≡ length rs
  retolled_length [] k t = refl
  retolled_length (r ∷ rs) zero t = refl
  retolled_length (r ∷ rs) (suc k) t = ap suc (retolled_length rs k t)

  -- past the end nothing is stored
  pub retolled_past : (rs : List (LaneRecord T)) (k : ℕ) (t : T) → length rs ≤ k → retolled rs k t ≡ rs
  retolled_past [] k t h = refl
  retolled_past (r ∷ rs) zero t h = absurd (omega arith)
  retolled_past (r ∷ rs) (suc k) t h = ap (λ (ss : List (LaneRecord T)). r ∷ ss) (retolled_past rs k t (omega arith))

  retolled_appears : (r : LaneRecord T) (rs : List (LaneRecord T)) (k : ℕ) (t : T) → appears r (retolled rs k t) ≡ appears r rs
  retolled_appears r [] k t = refl
  retolled_appears r (s ∷ rs) zero t = refl
  retolled_appears r (s ∷ rs) (suc k) t = ap (λ (b : Bool). same_ends r s || b) (retolled_appears r rs k t)

  pub retolled_fair : (places : ℕ) (rs : List (LaneRecord T)) (k : ℕ) (t : T) → all_fair places (retolled rs k t) ≡ all_fair places rs
  retolled_fair places [] k t = refl
  retolled_fair places (r ∷ rs) zero t = refl
  retolled_fair places (r ∷ rs) (suc k) t =
      let a = retolled_appears r rs k t in let f = retolled_fair places rs k t in λ i. placed places r && not (a i) && f i

  retolled_ends : (n : ℕ) (rs : List (LaneRecord T)) (k l : ℕ) (t : T) → option_map (lane_as n) (slice_get (retolled rs k t) l) ≡ option_map (lane_as n) (slice_get rs l)
  retolled_ends n [] k l t = refl
  retolled_ends n (r ∷ rs) zero zero t = refl
  retolled_ends n (r ∷ rs) zero (suc l) t = refl
  retolled_ends n (r ∷ rs) (suc k) zero t = refl
  retolled_ends n (r ∷ rs) (suc k) (suc l) t = retolled_ends n rs k l t

  pub retolled_lane : (rs : List (LaneRecord T)) (k l : ℕ) (t : T) → lane_of (retolled rs k t) l ≡ lane_of rs l
  retolled_lane rs k l t = retolled_ends l rs k l t

  retolled_spots : (A : Tolls T) (rs : List (LaneRecord T)) (k : ℕ) (t : T) → map (spot_of A) (retolled rs k t) ≡ set (map (spot_of A) rs) k (record { toll = t; least = A.zero })
  retolled_spots A [] k t = refl
  retolled_spots A (r ∷ rs) zero t = refl
  retolled_spots A (r ∷ rs) (suc k) t = ap (λ (ss : List (Spot T)). spot_of A r ∷ ss) (retolled_spots A rs k t)

  -- the floor after a store is the floor with that toll
  pub stored_meaning : (A : Tolls T) (places : ℕ) (rs after : List (LaneRecord T)) (k : ℕ) (t : T) (r : LaneRecord T) → slice_get (map (spot_of A) rs) k ≡ Some (spot_of A r) → after ≡ retolled rs k t →
      list_meaning A places after ≡ with_toll (list_meaning A places rs) k (slice_get (list_meaning A places rs).spots k) t
  stored_meaning A places rs after k t r e stored =
      let n = retolled_length rs k t in let s = retolled_spots A rs k t in
      let m : list_meaning A places (retolled rs k t) ≡ with_toll (list_meaning A places rs) k (Some (spot_of A r)) t = λ i. record {
        places = places;
        lanes = n i;
        lane = λ l. retolled_lane rs k l t i;
        spots = s i;
        estimate = zero_between A places;
      } in
      ap (list_meaning A places) stored ∙ m ∙ ap (λ (o : Option (Spot T)). with_toll (list_meaning A places rs) k o t) (sym e)
