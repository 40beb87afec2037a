-- A hall stays lawful, whatever tolls are set.
use Rattle.std.proofs.Common.{◌≡◌, ℕ, ◌*◌, ◌<◌, ◌≤◌, Bool, true, false, cond, List, map, length, get_or, take, set, replicate, is_ok, Some, Option, sym, refl, ap, ◌∙◌, subst, ⊎_elim, arith}
use Rattle.std.specs.List.{slice_get}
use Rattle.std.proofs.lemmas.List.{length-set, length-replicate, get_or-replicate}
use Rattle.std.proofs.lemmas.Bool.{cases_lt, leb-true}
use Rattle.toll.specs.SecondsKind.{seconds, seconds_kind}
use Rattle.toll.specs.declared.seconds.Seconds.{Seconds}
use Rattle.floor.specs.Meaning.{Meaning, Spot}
use Rattle.floor.specs.FloorLaws.{FloorLaws}
use Rattle.floor.specs.Setting.{if_enough, answer_at, with_toll, set_meaning}
use Rattle.floor.specs.Grid.{grid_meaning}
use Rattle.floor.proofs.HallFacts.{filled_meaning, spot_at, spot_past, cells_lawful, stored_meaning, stored_above}

-- the floor is a hall of that size and least toll, with no cell below it
pub record HallOf (rows columns : ℕ) (least : Seconds) (m : Meaning Seconds) : Type 0 where
  pub tolls : List ℕ
  pub full : length tolls ≡ 1024
  pub above : (k : ℕ) → k < rows * columns → least.value ≤ get_or tolls k 0
  pub is : grid_meaning rows columns least (map seconds (take (rows * columns) tolls)) ≡ m

-- a hall of that size can be made
pub record Size (rows columns : ℕ) : Type 0 where
  pub some : 0 < rows * columns
  pub few : rows * columns ≤ 1024

module _ {rows columns : ℕ} (Z : Size rows columns) (least : Seconds) where
  pub hall_lawful : {m : Meaning Seconds} → HallOf rows columns least m → FloorLaws seconds_kind m
  hall_lawful H = subst (FloorLaws seconds_kind) H.is (cells_lawful rows columns least H.tolls H.full Z.few Z.some H.above)

  pub hall_start : HallOf rows columns least (grid_meaning rows columns least (replicate (rows * columns) least))
  hall_start = record {
    tolls = replicate 1024 least.value;
    full = length-replicate 1024 least.value;
    above = λ k h. omega (arith, get_or-replicate 1024 k least.value 0 (omega (arith, Z.few)));
    is = filled_meaning rows columns least (replicate 1024 least.value) Z.few refl;
  }

  module _ (tolls : List ℕ) (full : length tolls ≡ 1024) (above : (k : ℕ) → k < rows * columns → least.value ≤ get_or tolls k 0) (k : ℕ) (b : Seconds) where
    abbrev M : Meaning Seconds
    M = grid_meaning rows columns least (map seconds (take (rows * columns) tolls))

    same : HallOf rows columns least M
    same = record { tolls = tolls; full = full; above = above; is = refl }

    abbrev set_by : Option (Spot Seconds) → Meaning Seconds
    set_by o = cond (is_ok (answer_at seconds_kind o b)) (with_toll M k o b) M

    abbrev sp : Spot Seconds
    sp = record { toll = seconds (get_or tolls k 0); least = least }

    past : rows * columns ≤ k → HallOf rows columns least (set_meaning seconds_kind M k b)
    past h = subst (HallOf rows columns least) (sym (ap set_by (spot_past rows columns least tolls full Z.few k h))) same

    at : k < rows * columns → HallOf rows columns least (set_meaning seconds_kind M k b)
    at h = subst (HallOf rows columns least) (sym (ap set_by e)) (go (seconds_kind.le least b) refl)
      where
        e : slice_get M.spots k ≡ Some sp
        e = spot_at rows columns least tolls full Z.few k h

        go : (t : Bool) → seconds_kind.le least b ≡ t → HallOf rows columns least (cond (is_ok (if_enough t)) (with_toll M k (Some sp) b) M)
        go false f = same
        go true f = record {
          tolls = set tolls k b.value;
          full = length-set tolls k b.value ∙ full;
          above = λ j i. stored_above tolls k j b.value least.value (leb-true least.value b.value f) (above j i);
          is = stored_meaning rows columns least tolls k b full Z.few h ∙ ap (λ o. with_toll M k o b) e;
        }

  pub hall_set : {m : Meaning Seconds} → HallOf rows columns least m → (k : ℕ) (b : Seconds) → HallOf rows columns least (set_meaning seconds_kind m k b)
  hall_set H k b = subst (λ (n : Meaning Seconds). HallOf rows columns least (set_meaning seconds_kind n k b)) H.is
      (⊎_elim (at H.tolls H.full H.above k b) (past H.tolls H.full H.above k b) (cases_lt k (rows * columns)))
