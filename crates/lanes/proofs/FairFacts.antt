-- The test of a list says the same as its words.
use Rattle.std.proofs.Common.{◌≡◌, ℕ, zero, suc, Bool, true, false, cond, not, ◌&&◌, List, [], ◌∷◌, length, Some, Ok, Err, sym, refl, ap, ◌∙◌, ⊎_elim, arith}
use Rattle.std.specs.List.{slice_get}
use Rattle.std.proofs.lemmas.Bool.{and_parts, and_from, or_cases, not-true, not_from_false, false_from_ne_true, both_ways}
use Rattle.std.proofs.lemmas.Bool.Decides.{nat_tests}
use Rattle.std.proofs.lemmas.Map.Keys.{any_passes_from_place}
use Rattle.lanes.specs.declared.record.LaneRecord.{LaneRecord}
use Rattle.toll.specs.declared.refusal.Refusal.TheVariants.{FloorSize, LaneRecord as BadRecord}
use Rattle.lanes.specs.Records.{same_ends, appears, placed, all_fair, plan_size, plan_answer, Placed, Fair}

module _ {T : Type 0} where
  pub is_placed : (places : ℕ) (r : LaneRecord T) → placed places r ≡ true → Placed places r
  is_placed places r e = record { leaves_place = grind (arith, nat_tests); enters_place = grind (arith, nat_tests); ends_differ = λ q. grind (arith, nat_tests) }

  pub placed_is : (places : ℕ) (r : LaneRecord T) → Placed places r → placed places r ≡ true
  placed_is places r p =
      let a = p.leaves_place in let b = p.enters_place in let n = p.ends_differ in grind (arith, nat_tests)

  -- no record of a list has the ends of r, if the test says so
  pub never : (r s : LaneRecord T) (ss : List (LaneRecord T)) (k : ℕ) → appears r ss ≡ false → slice_get ss k ≡ Some s → r.leaves ≡ s.leaves → r.enters ≡ s.enters → ⊥
  never r s ss k e f p q = both_ways (appears r ss) e (any_passes_from_place (same_ends r) ss k s f (grind (arith, nat_tests)))

  -- and if it says that one has, there is one
  pub found : (r : LaneRecord T) (ss : List (LaneRecord T)) → appears r ss ≡ true → (k : ℕ) × (s : LaneRecord T) × (slice_get ss k ≡ Some s) × (r.leaves ≡ s.leaves) × (r.enters ≡ s.enters)
  found r [] e = absurd (cc)
  found r (s ∷ ss) e =
      ⊎_elim (λ (h : same_ends r s ≡ true). (0, s, refl, grind (arith, nat_tests), grind (arith, nat_tests)))
      (λ (h : appears r ss ≡ true). let f = found r ss h in (suc f.0, f.1, f.2, f.3, f.4))
      (or_cases (same_ends r s) (appears r ss) e)

  -- one record more before a fair list
  fair_more : (places : ℕ) (x : LaneRecord T) (rs : List (LaneRecord T)) → placed places x ≡ true → appears x rs ≡ false → Fair places rs → Fair places (x ∷ rs)
  fair_more places x rs p once later = record { ends = ends; single = single }
    where
      ends : (k : ℕ) (r : LaneRecord T) → slice_get (x ∷ rs) k ≡ Some r → Placed places r
      ends zero r f = let same : x ≡ r = cc in is_placed places r (ap (placed places) (sym same) ∙ p)
      ends (suc k) r f = later.ends k r f

      single : (j k : ℕ) (r s : LaneRecord T) → slice_get (x ∷ rs) j ≡ Some r → slice_get (x ∷ rs) k ≡ Some s → r.leaves ≡ s.leaves → r.enters ≡ s.enters → j ≡ k
      single zero zero r s f h a b = refl
      single zero (suc k) r s f h a b = let same : x ≡ r = cc in absurd (never x s rs k once h (cc) (cc))
      single (suc j) zero r s f h a b = let same : x ≡ s = cc in absurd (never x r rs j once f (cc) (cc))
      single (suc j) (suc k) r s f h a b = ap suc (later.single j k r s f h a b)

  pub is_fair : (places : ℕ) (rs : List (LaneRecord T)) → all_fair places rs ≡ true → Fair places rs
  is_fair places [] e = record { ends = λ k r f. absurd (cc); single = λ j k r s f h. absurd (cc) }
  is_fair places (x ∷ rs) e =
      let a = and_parts (placed places x && not (appears x rs)) (all_fair places rs) e in
      let b = and_parts (placed places x) (not (appears x rs)) a.0 in
      fair_more places x rs b.0 (not-true (appears x rs) b.1) (is_fair places rs a.1)

  pub fair_is : (places : ℕ) (rs : List (LaneRecord T)) → Fair places rs → all_fair places rs ≡ true
  fair_is places [] f = refl
  fair_is places (x ∷ rs) f =
      and_from (placed places x && not (appears x rs)) (all_fair places rs)
      (and_from (placed places x) (not (appears x rs)) (placed_is places x (f.ends 0 x refl)) (not_from_false (appears x rs) once)) (fair_is places rs rest)
    where
      rest : Fair places rs
      rest = record { ends = λ k. f.ends (suc k); single = λ j k r s a b p q. let e = f.single (suc j) (suc k) r s a b p q in omega arith }

      once : appears x rs ≡ false
      once = false_from_ne_true (appears x rs) (λ e. let y = found x rs e in let z = f.single 0 (suc y.0) x y.1 refl y.2 y.3 y.4 in omega arith)

  -- what the check answers, by its two tests
  pub answer_is : (places : ℕ) (rs : List (LaneRecord T)) (a b : Bool) → plan_size places (length rs) ≡ a → all_fair places rs ≡ b → plan_answer places rs ≡ cond a (cond b (Ok tt) (Err BadRecord)) (Err FloorSize)
  answer_is places rs a b e f i = cond (e i) (cond (f i) (Ok tt) (Err BadRecord)) (Err FloorSize)
