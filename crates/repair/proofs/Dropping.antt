-- After a spot's toll was set, the repaired tree is sound, and exactly the places whose recorded way uses a lane that became dearer have left.
use Rattle.std.proofs.Common.{◌≡◌, ℕ, Bool, true, false, cond, List, [], ◌∷◌, is_some, Some, sym, refl, ap, ◌∙◌, subst, inl, inr, ⊎_elim, true≢false}
use Rattle.std.specs.List.{slice_get}
use Rattle.std.proofs.lemmas.Bool.{cases_Bool, and_parts, or_cases, or_parts, or_left, or_right}
use Rattle.toll.specs.Tolls.{Tolls, TollLaws, Le, Lt}
use Rattle.floor.specs.Meaning.{Spot, Meaning}
use Rattle.floor.specs.FloorLaws.{FloorLaws}
use Rattle.floor.specs.Setting.{with_toll}
use Rattle.tree.specs.Tree.{Entry, toll_at, marked}
use Rattle.astar.specs.Sound.{chart_of, cost, Sound}
use Rattle.repair.specs.Cut.{shift_of, joins, drops, marks, beside_marked, entered_by, repaired}
use Rattle.repair.specs.Dropped.{RecordedWay, UsesDearer, Left, Dropped}
use Rattle.repair.specs.declared.shift.Shift.{Shift}
use Rattle.repair.specs.declared.shift.Shift.TheVariants.{Dearer, Cheaper, Same}
use Rattle.astar.proofs.Order.{split, le_eq, not_both}
use Rattle.repair.proofs.ByPlace.{Mended, cut_mended, opened_mended, same_mended}
use Rattle.repair.proofs.Mending.{Enough, mended_sound}
use Rattle.repair.proofs.Cutting.{prices, beside_none, entered_none, dearer_joins, joins_dearer, uses_along, in_toll, follows_recorded, recorded_follows, drops_along, drops_target, one_more, marked_drops}

-- what became of a toll, each answer with what it says
shifts : {T : Type 0} (A : Tolls T) (old new : T) (C : Shift → Type 0) → (Lt A old new → C Dearer) → (Lt A new old → C Cheaper) → (Le A old new → Le A new old → C Same) → C (shift_of A old new)
shifts A old new C dearer cheaper same = split A new old
    (λ e. split A old new
    (λ f. subst (λ v. C (cond v (cond (A.le old new) Same Cheaper) Dearer)) (sym e) (subst (λ v. C (cond v Same Cheaper)) (sym f) (same f e)))
    (λ f. subst (λ v. C (cond v (cond (A.le old new) Same Cheaper) Dearer)) (sym e) (subst (λ v. C (cond v Same Cheaper)) (sym f) (cheaper f))))
    (λ e. subst (λ v. C (cond v (cond (A.le old new) Same Cheaper) Dearer)) (sym e) (dearer e))

-- the law, of a mended tree: D are the places that it speaks of
module _ {T : Type 0} {A : Tolls T} {m m' : Meaning T} {t : ℕ} {E R : List (Entry T)} {D W : ℕ → Bool} (M : Mended D W E R)
    (only : (p : ℕ) → D p ≡ true → (is_some (toll_at E p) ≡ true) × ((w : List ℕ) × RecordedWay E t p w × UsesDearer A m m' p w))
    (every : (p : ℕ) (w : List ℕ) → is_some (toll_at E p) ≡ true → RecordedWay E t p w → UsesDearer A m m' p w → D p ≡ true) where
  left : (p : ℕ) → is_some (toll_at E p) ≡ true → D p ≡ true → Left E R p
  left p i d = (i, ap is_some (M.gone p d).0)

  left_only : (p : ℕ) → Left E R p → D p ≡ true
  left_only p l = ⊎_elim (λ d. d) (λ (d : D p ≡ false). absurd (true≢false (sym l.0 ∙ sym (ap is_some (M.kept p d).0) ∙ l.1))) (cases_Bool (D p))

  mended_dropped : Dropped A t m E m' R
  mended_dropped = record {
    only = λ p l. (only p (left_only p l)).1;
    every = λ p w i r u. left p i (every p w i r u);
    others = λ p n. ⊎_elim (λ (d : D p ≡ true). absurd (n (left p (only p d).0 d))) (λ (d : D p ≡ false). M.kept p d) (cases_Bool (D p));
  }

module _ {T : Type 0} {A : Tolls T} (L : TollLaws A) {m : Meaning T} (F : FloorLaws A m) {t : ℕ} {E : List (Entry T)} (S : Sound A m t E) (k : ℕ) (sp : Spot T) (known : slice_get m.spots k ≡ Some sp) (b : T) where
  -- the floor after setting
  abbrev m' : Meaning T
  m' = with_toll m k (Some sp) b

  -- which places are dropped if the spot became dearer
  abbrev gone : ℕ → Bool
  gone = marked (marks m' k t E)

  -- a toll that did not fall, or did not rise
  rises : Le A sp.toll b → (p q : ℕ) → Le A (cost A m p q) (cost A m' p q)
  rises h p q = ⊎_elim (λ r. subst (λ v. Le A v (cost A m' p q)) (sym r.1) (subst (Le A sp.toll) (sym r.2) h)) (λ e. le_eq L (sym e)) (prices F k sp known b p q)

  sinks : Le A b sp.toll → (p q : ℕ) → Le A (cost A m' p q) (cost A m p q)
  sinks h p q = ⊎_elim (λ r. subst (λ v. Le A v (cost A m p q)) (sym r.2) (subst (Le A b) (sym r.1) h)) (λ e. le_eq L e) (prices F k sp known b p q)

  apart : (p q : ℕ) → joins m' k p q ≡ false → cost A m' p q ≡ cost A m p q
  apart p q j = ⊎_elim (λ r. absurd (true≢false (sym r.0 ∙ j))) (λ e. e) (prices F k sp known b p q)

  dearer_enough : Le A sp.toll b → Enough A m m' t E gone (beside_marked m' (marks m' k t E))
  dearer_enough h = record {
    target = marked_drops L F S m' k t ∙ drops_target L F S m' k;
    firm = λ p ne i d.
        let q = (chart_of A E).next p in
        let e = or_parts (joins m' k p q) (drops m' k t E q) (sym (one_more L F S m' k p ne i) ∙ sym (marked_drops L F S m' k p) ∙ d) in
        (marked_drops L F S m' k q ∙ e.1, le_eq L (apart p q e.0));
    quiet = λ x w u. ⊎_elim (λ (d : gone u ≡ true). inr (beside_none F k sp known b (marks m' k t E) u x w d)) (λ (d : gone u ≡ false). inl (d, rises h u x)) (cases_Bool (gone u));
  }

  cheaper_enough : Le A b sp.toll → Enough A m m' t E (λ _. false) (entered_by m' k)
  cheaper_enough h = record {
    target = refl;
    firm = λ p ne i d. (refl, sinks h p _);
    quiet = λ x w u. inl (refl, ⊎_elim (λ (j : joins m' k u x ≡ true). absurd (entered_none F k sp known b u x w j)) (λ (j : joins m' k u x ≡ false). le_eq L (sym (apart u x j))) (cases_Bool (joins m' k u x)));
  }

  same_enough : Le A sp.toll b → Le A b sp.toll → Enough A m m' t E (λ _. false) (λ _. false)
  same_enough h l = record {
    target = refl;
    firm = λ p ne i d. (refl, sinks l p _);
    quiet = λ x w u. inl (refl, rises h u x);
  }

  -- the repaired tree is sound
  pub change_sound : Sound A (with_toll m k (Some sp) b) t (repaired (with_toll m k (Some sp) b) k t (shift_of A sp.toll b) E)
  change_sound = shifts A sp.toll b (λ s. Sound A m' t (repaired m' k t s E))
      (λ h. mended_sound L refl S (cut_mended m' (marks m' k t E) E) (dearer_enough (L.total _ _ h)))
      (λ h. mended_sound L refl S (opened_mended (entered_by m' k) E) (cheaper_enough (L.total _ _ h)))
      (λ h l. mended_sound L refl S (same_mended E) (same_enough h l))

  along_uses : Lt A sp.toll b → (w : List ℕ) (p : ℕ) → uses_along L F S m' k p w ≡ true → UsesDearer A m m' p w
  along_uses h [] p e = absurd (true≢false (sym e))
  along_uses h (q ∷ w) p e = ⊎_elim (λ j. inl (joins_dearer F k sp known b p q h j)) (λ r. inr (along_uses h w q r)) (or_cases (joins m' k p q) (uses_along L F S m' k q w) e)

  -- a way that uses a lane that became dearer uses one of the spot, which became dearer
  uses_along_lem : (w : List ℕ) (p : ℕ) → UsesDearer A m m' p w → (uses_along L F S m' k p w ≡ true) × Lt A sp.toll b
  uses_along_lem [] p u = absurd u
  uses_along_lem (q ∷ w) p (inl d) = let r = dearer_joins F k sp known b L p q d in (or_left _ _ r.0, r.1)
  uses_along_lem (q ∷ w) p (inr u) = let r = uses_along_lem w q u in (or_right _ _ r.0, r.1)

  dearer_only : Lt A sp.toll b → (p : ℕ) → gone p ≡ true → (is_some (toll_at E p) ≡ true) × ((w : List ℕ) × RecordedWay E t p w × UsesDearer A m m' p w)
  dearer_only h p d =
      let e : drops m' k t E p ≡ true = sym (marked_drops L F S m' k p) ∙ d in
      let r = and_parts (is_some (toll_at E p)) _ e in
      let i = in_toll L F S m' k p r.0 in
      let c = S.chart.climbs p i in
      (r.0, (c.0, follows_recorded L F S m' k c.0 p i c.1, along_uses h c.0 p (sym (drops_along L F S m' k c.0 p i c.1) ∙ e)))

  dearer_every : (p : ℕ) (w : List ℕ) → is_some (toll_at E p) ≡ true → RecordedWay E t p w → UsesDearer A m m' p w → gone p ≡ true
  dearer_every p w i r u = marked_drops L F S m' k p ∙ drops_along L F S m' k w p (in_toll L F S m' k p i) (recorded_follows L F S m' k w p r) ∙ (uses_along_lem w p u).0

  -- if the spot did not become dearer, no place leaves
  calm : {W : ℕ → Bool} {R : List (Entry T)} → Le A b sp.toll → Mended (λ _. false) W E R → Dropped A t m E m' R
  calm h M = mended_dropped M (λ p d. absurd (true≢false (sym d))) (λ p w i r u. absurd (not_both L h (uses_along_lem w p u).1))

  -- exactly the places whose recorded way uses a lane that became dearer have left
  pub change_dropped : Dropped A t m E (with_toll m k (Some sp) b) (repaired (with_toll m k (Some sp) b) k t (shift_of A sp.toll b) E)
  change_dropped = shifts A sp.toll b (λ s. Dropped A t m E m' (repaired m' k t s E))
      (λ h. mended_dropped (cut_mended m' (marks m' k t E) E) (dearer_only h) dearer_every)
      (λ h. calm (L.total _ _ h) (opened_mended (entered_by m' k) E))
      (λ h l. calm l (same_mended E))
