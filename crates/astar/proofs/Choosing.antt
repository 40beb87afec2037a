-- The choice is the open place with the smallest key.
use Rattle.std.proofs.Common.{◌≡◌, ℕ, zero, suc, ◌<◌, ◌≤◌, Bool, true, false, cond, List, length, Some, None, Option, sym, refl, ap, ◌∙◌, subst, ⊎_elim, arith}
use Rattle.std.specs.Option.{option_map}
use Rattle.std.specs.List.{slice_get}
use Rattle.std.proofs.lemmas.Option.{slice_get_past}
use Rattle.std.proofs.lemmas.Bool.{cases_eq, cases_lt}
use Rattle.toll.specs.Tolls.{Tolls, TollLaws}
use Rattle.floor.specs.Meaning.{Meaning, then}
use Rattle.astar.specs.declared.key.Key.{Key}
use Rattle.tree.specs.Tree.{Entry, open_toll}
use Rattle.astar.specs.Search.{key, key_le, better, best, choice}
use Rattle.astar.specs.Runs.{Chosen}
use Rattle.astar.proofs.Charts.{KeyLe}
use Rattle.astar.proofs.Order.{key_true, key_false, key_trans, key_refl, key_le_lem, key_lt}
use Rattle.tree.proofs.Options.{there?}

-- an open place has its recorded toll
pub open_toll_lem : {T : Type 0} (E : List (Entry T)) (p : ℕ) (g : T) → open_toll E p ≡ Some g → (e : Entry T) × (slice_get E p ≡ Some e) × (e.toll ≡ Some g)
open_toll_lem {T} E p g q = go (slice_get E p) refl
  where
    at : (e : Entry T) (b : Bool) → cond b e.toll None ≡ Some g → e.toll ≡ Some g
    at e true r = r
    at e false r = absurd (let z : ◌≡◌ {A = ℕ} 0 1 = cc in omega arith)

    go : (o : Option (Entry T)) → slice_get E p ≡ o → (e : Entry T) × (slice_get E p ≡ Some e) × (e.toll ≡ Some g)
    go None r = absurd (let f : None ≡ Some g = sym (ap (λ o. then o (λ e. cond e.is_open e.toll None)) r) ∙ q in let z : ◌≡◌ {A = ℕ} 0 1 = cc in omega arith)
    go (Some e) r = (e, r, at e e.is_open (sym (ap (λ o. then o (λ f. cond f.is_open f.toll None)) r) ∙ q))

-- no place past the end is open
pub open_below : {T : Type 0} (E : List (Entry T)) (p : ℕ) (g : T) → open_toll E p ≡ Some g → p < length E
open_below E p g q = ⊎_elim (λ (h : p < length E). h)
    (λ (h : length E ≤ p). absurd (let f : None ≡ Some g = sym (ap (λ o. then o (λ e. cond e.is_open e.toll None)) (slice_get_past E p h)) ∙ q in let z : ◌≡◌ {A = ℕ} 0 1 = cc in omega arith)) (cases_lt p (length E))

module _ {T : Type 0} {A : Tolls T} (L : TollLaws A) (m : Meaning T) (s : ℕ) (E : List (Entry T)) where
  -- the best of the open places below n
  record Sofar (n x : ℕ) (k : Key T) : Type 0 where
    below : x < n
    toll : T
    is_open : open_toll E x ≡ Some toll
    is : k ≡ key A m s x toll
    smallest : (y : ℕ) (g : T) → y < n → open_toll E y ≡ Some g → KeyLe A k (key A m s y g)
    first : (y : ℕ) (g : T) → y < x → open_toll E y ≡ Some g → key_le A (key A m s y g) k ≡ false

  abbrev Best : ℕ → Option (ℕ × Key T) → Type 0
  Best n None = (y : ℕ) → y < n → open_toll E y ≡ None
  Best n (Some c) = Sofar n c.0 c.1

  -- a place that is not open changes nothing
  skip : (n : ℕ) (b : Option (ℕ × Key T)) → open_toll E n ≡ None → Best n b → Best (suc n) b
  skip n None e k = λ y h. ⊎_elim (λ (q : y ≡ n). ap (open_toll E) q ∙ e) (λ ne. k y (omega arith)) (cases_eq y n)
  skip n (Some c) e k = record {
    below = omega (arith, k.below);
    toll = k.toll;
    is_open = k.is_open;
    is = k.is;
    smallest = λ y g h o. ⊎_elim (λ (q : y ≡ n). absurd (let f : None ≡ Some g = sym e ∙ ap (open_toll E) (sym q) ∙ o in let z : ◌≡◌ {A = ℕ} 0 1 = cc in omega arith)) (λ ne. k.smallest y g (omega arith) o) (cases_eq y n);
    first = k.first;
  }

  own : (y n : ℕ) (g t : T) → y ≡ n → open_toll E n ≡ Some t → open_toll E y ≡ Some g → key A m s y g ≡ key A m s n t
  own y n g t q e o =
      let f : Some g ≡ Some t = sym o ∙ ap (open_toll E) q ∙ e in let r : g ≡ t = cc in
      ap (λ (p : ℕ). key A m s p g) q ∙ ap (key A m s n) r

  -- the first open place
  start : (n : ℕ) (t : T) → open_toll E n ≡ Some t → ((y : ℕ) → y < n → open_toll E y ≡ None) → Sofar (suc n) n (key A m s n t)
  start n t e k = record {
    below = omega arith;
    toll = t;
    is_open = e;
    is = refl;
    smallest = λ y g h o. ⊎_elim (λ (q : y ≡ n). subst (KeyLe A (key A m s n t)) (sym (own y n g t q e o)) (key_refl L _)) (λ ne. absurd (let f : None ≡ Some g = sym (k y (omega arith)) ∙ o in let z : ◌≡◌ {A = ℕ} 0 1 = cc in omega arith)) (cases_eq y n);
    first = λ y g h o. absurd (let f : None ≡ Some g = sym (k y h) ∙ o in let z : ◌≡◌ {A = ℕ} 0 1 = cc in omega arith);
  }

  -- one more open place
  stay : (n x : ℕ) (k : Key T) (t : T) → open_toll E n ≡ Some t → key_le A k (key A m s n t) ≡ true → Sofar n x k → Sofar (suc n) x k
  stay n x k t e l b = record {
    below = omega (arith, b.below);
    toll = b.toll;
    is_open = b.is_open;
    is = b.is;
    smallest = λ y g h o. ⊎_elim (λ (q : y ≡ n). subst (KeyLe A k) (sym (own y n g t q e o)) (key_true L _ _ l)) (λ ne. b.smallest y g (omega arith) o) (cases_eq y n);
    first = b.first;
  }

  change : (n x : ℕ) (k : Key T) (t : T) → open_toll E n ≡ Some t → key_le A k (key A m s n t) ≡ false → Sofar n x k → Sofar (suc n) n (key A m s n t)
  change n x k t e l b = record {
    below = omega arith;
    toll = t;
    is_open = e;
    is = refl;
    smallest = λ y g h o. ⊎_elim (λ (q : y ≡ n). subst (KeyLe A (key A m s n t)) (sym (own y n g t q e o)) (key_refl L _)) (λ ne. key_trans L (key_false L _ _ l) (b.smallest y g (omega arith) o)) (cases_eq y n);
    first = λ y g h o. key_lt L _ _ _ (b.smallest y g h o) l;
  }

  best_is : (n : ℕ) → Best n (best A m s E n)
  best_is zero = λ y h. absurd (omega arith)
  best_is (suc n) = ⊎_elim
      (λ (e : open_toll E n ≡ None). subst (λ o. Best (suc n) (better A (best A m s E n) n (option_map (key A m s n) o))) (sym e) (skip n (best A m s E n) e (best_is n)))
      (λ r. subst (λ o. Best (suc n) (better A (best A m s E n) n (option_map (key A m s n) o))) (sym r.1) (go (best A m s E n) r.0 r.1 (best_is n)))
      (there? (open_toll E n))
    where
      pick : (c : ℕ × Key T) (t : T) (b : Bool) → key_le A c.1 (key A m s n t) ≡ b → open_toll E n ≡ Some t → Sofar n c.0 c.1 → Best (suc n) (cond b (Some c) (Some (n, key A m s n t)))
      pick c t true l e k = stay n c.0 c.1 t e l k
      pick c t false l e k = change n c.0 c.1 t e l k

      go : (b : Option (ℕ × Key T)) (t : T) → open_toll E n ≡ Some t → Best n b → Best (suc n) (better A b n (Some (key A m s n t)))
      go None t e k = start n t e k
      go (Some c) t e k = pick c t (key_le A c.1 (key A m s n t)) refl e k

  -- a choice is the open place with the smallest key
  pub chosen : (c : ℕ × Key T) → choice A m s E ≡ Some c → Chosen A m s E c.0
  chosen c e =
      let b : Sofar (length E) c.0 c.1 = subst (Best (length E)) e (best_is (length E)) in
      record {
        toll = b.toll;
        is_open = b.is_open;
        smallest = λ y g o. subst (λ k. key_le A k (key A m s y g) ≡ true) b.is (key_le_lem L _ _ (b.smallest y g (open_below E y g o) o));
        first = λ y g o h. subst (λ k. key_le A (key A m s y g) k ≡ false) b.is (b.first y g h o);
      }

  pub chosen_key : (c : ℕ × Key T) → choice A m s E ≡ Some c → (t : T) × (open_toll E c.0 ≡ Some t) × (c.1 ≡ key A m s c.0 t)
  chosen_key c e = let b : Sofar (length E) c.0 c.1 = subst (Best (length E)) e (best_is (length E)) in (b.toll, b.is_open, b.is)

  -- without a choice no place is open
  pub none_open : choice A m s E ≡ None → (y : ℕ) → open_toll E y ≡ None
  none_open e y = ⊎_elim (λ (h : y < length E). subst (Best (length E)) e (best_is (length E)) y h)
      (λ (h : length E ≤ y). ap (λ o. then o (λ e. cond e.is_open e.toll None)) (slice_get_past E y h)) (cases_lt y (length E))
