-- Lists of lane records, and which of them a plan can hold.
-- same_ends, appears             whether records share both ends in the same order
-- placed, all_fair               whether a record, and a whole list, is fair
-- plan_size, plan_answer         whether the size fits; what the check answers
-- Fair, Fits                     the same in words
use Rattle.std.specs.Prelude.{◌≡◌, ℕ, ◌<◌, ◌≤◌, Bool, true, cond, not, ◌&&◌, List, [], ◌∷◌, length, Some, Ok, Err, Result, ◌==◌, nat_le, nat_lt}
use Rattle.std.specs.List.{slice_get, list_any}
use Rattle.toll.specs.declared.refusal.Refusal.{Refusal}
use Rattle.toll.specs.declared.refusal.Refusal.TheVariants.{FloorSize, LaneRecord as BadRecord}
use Rattle.lanes.specs.declared.record.LaneRecord.{LaneRecord}

-- whether two records share both ends in the same order
abbrev pub same_ends : {T : Type 0} → LaneRecord T → LaneRecord T → Bool
same_ends r s = r.leaves == s.leaves && r.enters == s.enters

-- whether a record of the list has the ends of r
abbrev pub appears : {T : Type 0} → LaneRecord T → List (LaneRecord T) → Bool
appears r rs = list_any (same_ends r) rs

-- whether the ends of a record are places and differ
abbrev pub placed : {T : Type 0} → ℕ → LaneRecord T → Bool
placed places r = nat_lt r.leaves places && nat_lt r.enters places && not (r.leaves == r.enters)

-- whether each record is well placed, and none has the ends of another
abbrev pub all_fair : {T : Type 0} → ℕ → List (LaneRecord T) → Bool
all_fair places [] = true
all_fair places (r ∷ rs) = placed places r && not (appears r rs) && all_fair places rs

-- a plan has 1 to 1,024 places and at most 4,096 lanes
abbrev pub plan_size : (places lanes : ℕ) → Bool
plan_size places lanes = nat_lt 0 places && nat_le places 1024 && nat_le lanes 4096

-- the answer of the check: the size first, then the records
abbrev pub plan_answer : {T : Type 0} → ℕ → List (LaneRecord T) → Result (Unit {0}) Refusal
plan_answer places rs = cond (plan_size places (length rs)) (cond (all_fair places rs) (Ok tt) (Err BadRecord)) (Err FloorSize)

-- the ends of a record are places and differ
pub record Placed {T : Type 0} (places : ℕ) (r : LaneRecord T) : Type 0 where
  pub leaves_place : r.leaves < places
  pub enters_place : r.enters < places
  pub ends_differ : r.leaves ≡ r.enters → ⊥

-- each record is well placed, and no two share both ends in the same order
pub record Fair {T : Type 0} (places : ℕ) (rs : List (LaneRecord T)) : Type 0 where
  pub ends : (k : ℕ) (r : LaneRecord T) → slice_get rs k ≡ Some r → Placed places r
  pub single : (j k : ℕ) (r s : LaneRecord T) → slice_get rs j ≡ Some r → slice_get rs k ≡ Some s → r.leaves ≡ s.leaves → r.enters ≡ s.enters → j ≡ k

-- a plan of that many places can hold the records
pub record Fits {T : Type 0} (places : ℕ) (rs : List (LaneRecord T)) : Type 0 where
  pub some_place : 0 < places
  pub few_places : places ≤ 1024
  pub few_lanes : length rs ≤ 4096
  pub fair : Fair places rs
