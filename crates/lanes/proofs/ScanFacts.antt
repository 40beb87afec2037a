-- The numbers of the records that pass a test are those of the lanes that do.
use Rattle.std.proofs.Common.{◌≡◌, ℕ, suc, ◌+◌, ◌==◌, Bool, true, false, cond, List, [], ◌∷◌, map, filter, length, Some, sym, refl, ap, ◌∙◌, arith}
use Rattle.std.specs.Option.{option_map}
use Rattle.std.specs.List.{slice_get, enumerate_from}
use Rattle.toll.specs.Tolls.{Tolls}
use Rattle.floor.specs.Rising.{passing}
use Rattle.floor.specs.Meaning.{has, lanes_by, out_of, into}
use Rattle.lanes.specs.declared.record.LaneRecord.{LaneRecord}
use Rattle.lanes.specs.Plans.{lane_as, lane_of, lanes_where, list_meaning}

-- a number is kept, or passed over
numbers_more : {X : Type 0} (b : Bool) (n : ℕ) (x : X) (es : List (ℕ × X)) (ns : List ℕ) → map (λ (e : ℕ × X). e.0) es ≡ ns → map (λ (e : ℕ × X). e.0) (cond b ((n, x) ∷ es) es) ≡ cond b (n ∷ ns) ns
numbers_more true n x es ns e = ap (λ (ms : List ℕ). n ∷ ms) e
numbers_more false n x es ns e = e

module _ {T : Type 0} where
  numbers_passing : (test : LaneRecord T → Bool) (f : ℕ → Bool) (rs : List (LaneRecord T)) (n : ℕ) → ((k m : ℕ) (r : LaneRecord T) → m ≡ n + k → slice_get rs k ≡ Some r → f m ≡ test r) →
      map (λ (e : ℕ × LaneRecord T). e.0) (filter (λ (e : ℕ × LaneRecord T). test e.1) (enumerate_from n rs)) ≡ passing f n (length rs)
  numbers_passing test f [] n h = refl
  numbers_passing test f (r ∷ rs) n h =
      numbers_more (test r) n r _ _ (numbers_passing test f rs (n + 1) (λ k m x q. h (suc k) m x (omega arith)))
      ∙ ap (λ (b : Bool). cond b (n ∷ passing f (n + 1) (length rs)) (passing f (n + 1) (length rs))) (sym (h 0 n r (omega arith) refl))

  module _ (A : Tolls T) (places : ℕ) (rs : List (LaneRecord T)) where
    lane_there : (m k : ℕ) (r : LaneRecord T) → m ≡ 0 + k → slice_get rs k ≡ Some r → lane_of rs m ≡ Some (lane_as m r)
    lane_there m k r q e = ap (λ (l : ℕ). option_map (lane_as m) (slice_get rs l)) (omega arith) ∙ ap (option_map (lane_as m)) e

    pub leaving : (p : ℕ) → lanes_where (λ r. r.leaves == p) rs ≡ out_of (list_meaning A places rs) p
    unfolding lanes_by
    leaving p = numbers_passing (λ r. r.leaves == p) _ rs 0 (λ k m r q e. ap (has (λ x. x.leaves) p) (lane_there m k r q e))

    pub entering : (p : ℕ) → lanes_where (λ r. r.enters == p) rs ≡ into (list_meaning A places rs) p
    unfolding lanes_by
    entering p = numbers_passing (λ r. r.enters == p) _ rs 0 (λ k m r q e. ap (has (λ x. x.enters) p) (lane_there m k r q e))
