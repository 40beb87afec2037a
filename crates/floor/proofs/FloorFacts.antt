-- What holds on every floor whose lane numbers are bounded: its lists of lanes, and setting.
use Rattle.std.proofs.Common.{◌≡◌, ℕ, zero, suc, ◌<◌, ◌≤◌, Bool, true, false, cond, List, [], ◌∷◌, length, take, set, is_ok, Some, None, Ok, Err, Option, sym, refl, ap, ◌∙◌, subst, inl, arith}
use Rattle.std.specs.List.{slice_get}
use Rattle.std.proofs.lemmas.Bool.Decides.{nat_tests}
use Rattle.toll.specs.declared.refusal.Refusal.{Refusal}
use Rattle.toll.specs.Tolls.{Tolls}
use Rattle.floor.specs.Rising.{In}
use Rattle.floor.specs.Meaning.{Lane, Spot, Meaning, has, lanes_by}
use Rattle.floor.specs.FloorLaws.{Listed}
use Rattle.floor.specs.Setting.{if_enough, answer_at, set_answer, with_toll, set_meaning, OnlyToll}
use Rattle.floor.proofs.RisingFacts.{passing_few, passing_rises, in_passing, passing_in}

pub has_part : (part : Lane → ℕ) (p : ℕ) (o : Option Lane) → has part p o ≡ true → (x : Lane) × (o ≡ Some x) × (part x ≡ p)
has_part part p None e = absurd (omega (arith, let z : ◌≡◌ {A = ℕ} 0 1 = cc in z))
has_part part p (Some x) e = (x, refl, grind (arith, nat_tests))

pub part_has : (part : Lane → ℕ) (p : ℕ) (o : Option Lane) (x : Lane) → o ≡ Some x → part x ≡ p → has part p o ≡ true
part_has part p o x e q = ap (has part p) e ∙ grind (arith, nat_tests)

module _ {T : Type 0} (m : Meaning T) where
  -- the lanes of which a part is p are listed
  pub listed : ((l : ℕ) (x : Lane) → m.lane l ≡ Some x → l < m.lanes) → (part : Lane → ℕ) (p : ℕ) → Listed m part p (lanes_by m part p)
  unfolding lanes_by
  listed below part p = record {
    rising = passing_rises (λ l. has part p (m.lane l)) 0 m.lanes;
    every = λ l x e q. in_passing (λ k. has part p (m.lane k)) 0 m.lanes l (omega arith) (omega (arith, below l x e)) (part_has part p (m.lane l) x e q);
    only = λ l i. has_part part p (m.lane l) (passing_in (λ k. has part p (m.lane k)) 0 m.lanes l i).test;
  }

  -- there are at most as many as lane numbers
  pub listed_few : (part : Lane → ℕ) (p : ℕ) → length (lanes_by m part p) ≤ m.lanes
  unfolding lanes_by
  listed_few part p = passing_few (λ l. has part p (m.lane l)) 0 m.lanes

-- a list with no member is empty
pub none_in : (xs : List ℕ) → ((x : ℕ) → In x xs → ⊥) → xs ≡ []
none_in [] f = refl
none_in (x ∷ xs) f = absurd (f x (inl refl))

module _ {A : Type 0} where
  pub nth_set_same : (xs : List A) (i : ℕ) (a b : A) → slice_get xs i ≡ Some b → slice_get (set xs i a) i ≡ Some a
  nth_set_same [] i a b e = absurd (omega (arith, let z : ◌≡◌ {A = ℕ} 0 1 = cc in z))
  nth_set_same (x ∷ xs) zero a b e = refl
  nth_set_same (x ∷ xs) (suc i) a b e = nth_set_same xs i a b e

  pub nth_set_other : (xs : List A) (i j : ℕ) (a : A) → (j ≡ i → ⊥) → slice_get (set xs i a) j ≡ slice_get xs j
  nth_set_other [] i j a ne = refl
  nth_set_other (x ∷ xs) zero zero a ne = absurd (ne refl)
  nth_set_other (x ∷ xs) zero (suc j) a ne = refl
  nth_set_other (x ∷ xs) (suc i) zero a ne = refl
  nth_set_other (x ∷ xs) (suc i) (suc j) a ne = nth_set_other xs i j a (λ e. ne (ap suc e))

-- setting alters the one toll alone
module _ {T : Type 0} (A : Tolls T) (m : Meaning T) (k : ℕ) (t : T) where
  pub only_toll : OnlyToll m k t (set_answer A m k t) (set_meaning A m k t)
  only_toll = go (slice_get m.spots k) refl
    where
      taken : (s : Spot T) (b : Bool) → slice_get m.spots k ≡ Some s → OnlyToll m k t (if_enough b) (cond (is_ok (if_enough b)) (with_toll m k (Some s) t) m)
      taken s true e = record {
        places_same = refl;
        lanes_same = refl;
        lane_same = refl;
        estimate_same = refl;
        others_same = λ j ne. nth_set_other m.spots k j _ ne;
        there = λ x _ f. nth_set_same m.spots k _ s e ∙ ap (λ (q : Spot T). Some (record { toll = t; least = q.least })) (let r : s ≡ x = cc in r);
        refused = λ why f. absurd (let z : ◌≡◌ {A = ℕ} 0 1 = cc in omega arith);
      }
      taken s false e = record {
        places_same = refl;
        lanes_same = refl;
        lane_same = refl;
        estimate_same = refl;
        others_same = λ j ne. refl;
        there = λ x f _. absurd (let z : ◌≡◌ {A = ℕ} 0 1 = cc in omega arith);
        refused = λ why f. refl;
      }

      go : (o : Option (Spot T)) → slice_get m.spots k ≡ o → OnlyToll m k t (answer_at A o t) (cond (is_ok (answer_at A o t)) (with_toll m k o t) m)
      go None e = record {
        places_same = refl;
        lanes_same = refl;
        lane_same = refl;
        estimate_same = refl;
        others_same = λ j ne. refl;
        there = λ x f _. absurd (let z : ◌≡◌ {A = ℕ} 0 1 = cc in omega arith);
        refused = λ why f. refl;
      }
      go (Some s) e = taken s (A.le s.least t) e

  -- what a floor's proof of setting shows: the answer, and where it is taken the floor after it
  pub set_refused : (why : Refusal) → set_answer A m k t ≡ Err why → (m ≡ set_meaning A m k t) × OnlyToll m k t (Err why) m
  set_refused why e =
      let f : m ≡ set_meaning A m k t = sym (ap (λ r. cond (is_ok r) (with_toll m k (slice_get m.spots k) t) m) e) in
      (f, subst (OnlyToll m k t (Err why)) (sym f) (subst (λ r. OnlyToll m k t r (set_meaning A m k t)) e only_toll))

  pub set_taken : (after : Meaning T) → set_answer A m k t ≡ Ok tt → after ≡ with_toll m k (slice_get m.spots k) t → (after ≡ set_meaning A m k t) × OnlyToll m k t (Ok tt) after
  set_taken after e q =
      let f : after ≡ set_meaning A m k t = q ∙ sym (ap (λ r. cond (is_ok r) (with_toll m k (slice_get m.spots k) t) m) e) in
      (f, subst (OnlyToll m k t (Ok tt)) (sym f) (subst (λ r. OnlyToll m k t r (set_meaning A m k t)) e only_toll))

pub take_of_set : {A : Type 0} (xs : List A) (n i : ℕ) (v : A) → take n (set xs i v) ≡ set (take n xs) i v
take_of_set [] zero i v = refl
take_of_set [] (suc n) i v = refl
take_of_set (y ∷ xs) zero i v = refl
take_of_set (y ∷ xs) (suc n) zero v = refl
take_of_set (y ∷ xs) (suc n) (suc i) v = ap (λ r. y ∷ r) (take_of_set xs n i v)
