-- The places that a run expands are those that the trees before and after it tell.
use Rattle.std.proofs.Common.{◌≡◌, ℕ, true, false, cond, ◌⊎◌, List, [], ◌∷◌, length, is_some, Some, None, Option, sym, refl, ap, ◌∙◌, subst, inl, inr, ⊎_elim, true≢false}
use Rattle.std.specs.List.{slice_get}
use Rattle.std.proofs.lemmas.Bool.{cases_eq}
use Rattle.toll.specs.Tolls.{Tolls, TollLaws, Le, Lt}
use Rattle.floor.specs.Rising.{In}
use Rattle.floor.specs.Meaning.{Meaning, then}
use Rattle.floor.specs.FloorLaws.{FloorLaws}
use Rattle.astar.specs.declared.key.Key.{Key}
use Rattle.tree.specs.Tree.{Entry, toll_at, open_toll}
use Rattle.astar.specs.Search.{expand}
use Rattle.astar.specs.Runs.{Chosen, Expands, none, more}
use Rattle.astar.specs.Sound.{chart_of}
use Rattle.astar.specs.Expanded.{ExpandedAt}
use Rattle.astar.proofs.Charts.{Front}
use Rattle.astar.proofs.Order.{le_refl, le_trans, not_both}
use Rattle.astar.proofs.Opens.{goes_on}
use Rattle.astar.proofs.Lanes.{estimate_holds, guess}
use Rattle.astar.proofs.Choosing.{open_toll_lem}
use Rattle.astar.proofs.Relaxing.{entry_after, entry_else}
use Rattle.astar.proofs.Running.{chosen_least, chosen_step, expand_length}
use Rattle.astar.proofs.Keeping.{recorded_chart}

none_is : {A : Type 0} (o : Option A) → is_some o ≡ false → o ≡ None
none_is None e = refl
none_is (Some x) e = absurd (true≢false e)

-- place p has a smaller toll in E₁ than in E, and is open
record Fell {T : Type 0} (A : Tolls T) (E E₁ : List (Entry T)) (p : ℕ) : Type 0 where
  toll : T
  recorded : toll_at E₁ p ≡ Some toll
  opened : open_toll E₁ p ≡ Some toll
  lower : Lt A toll ((chart_of A E).g p)

module _ {T : Type 0} {A : Tolls T} (L : TollLaws A) {m : Meaning T} (F : FloorLaws A m) (s : ℕ) where
  -- after an expansion each place but x is as it was, or has a smaller toll and is open
  turned : (E : List (Entry T)) (x p : ℕ) → length E ≡ m.places → Chosen A m s E x → ¬ (p ≡ x) → (slice_get (expand A m x E) p ≡ slice_get E p) ⊎ Fell A E (expand A m x E) p
  turned E x p size c ne =
      let r = open_toll_lem E x c.toll c.is_open in
      ⊎_elim (λ k. inl k)
      (λ k. inr (record {
        toll = _;
        recorded = ap (λ v. then v (λ e. e.toll)) k.entry_is;
        opened = ap (λ v. then v (λ e. cond e.is_open e.toll None)) k.entry_is;
        lower = k.lower;
      })) (entry_else L F E size x r.0 c.toll r.1 r.2 p ne)

  -- tolls never vanish and never rise
  falls_once : (E : List (Entry T)) (x p : ℕ) (a : T) → length E ≡ m.places → Chosen A m s E x → toll_at E p ≡ Some a → (b : T) × (toll_at (expand A m x E) p ≡ Some b) × Le A b a
  falls_once E x p a size c e =
      let r = open_toll_lem E x c.toll c.is_open in
      ⊎_elim (λ k. (a, k.0 ∙ e, le_refl L a))
      (λ k. (_, k.toll_is, L.total _ _ (subst (Lt A _) (recorded_chart L E p a e) k.lower))) (entry_after L F E size x r.0 c.toll r.1 r.2 p)

  run_falls : {E E' : List (Entry T)} {xs : List ℕ} (p : ℕ) (a : T) → length E ≡ m.places → Expands A m s E xs E' → toll_at E p ≡ Some a → (b : T) × (toll_at E' p ≡ Some b) × Le A b a
  run_falls p a size none e = (a, e, le_refl L a)
  run_falls {E} p a size (more x u c r) e =
      let k = falls_once E x p a size c e in
      let j = run_falls p k.0 (expand_length A m x E ∙ size) r k.1 in
      (j.0, j.1, le_trans L j.2 k.2)

  -- a place that was expanded is not open at the end
  stays_shut : {E E' : List (Entry T)} {xs : List ℕ} (K : Key T) (done : List ℕ) → length E ≡ m.places → Front A (guess A m s) (chart_of A E) K done → Expands A m s E xs E' →
      (z : ℕ) → In z done ⊎ In z xs → (chart_of A E').is_open z ≡ false
  stays_shut K done size f none z i = ⊎_elim (λ d. (f.behind z d).0) (λ j. absurd j) i
  stays_shut {E} K done size f (more x u c r) z i =
      let k = stays_shut _ (x ∷ done) (expand_length A m x E ∙ size) (goes_on L (chosen_step L F s E x size c) (estimate_holds L F) s (chosen_least L F s E x c) f) r z in
      ⊎_elim (λ d. k (inl (inr d))) (λ j. ⊎_elim (λ (q : z ≡ x). k (inl (inl q))) (λ j'. k (inr j')) j) i

  run_shut : {E E' : List (Entry T)} {xs : List ℕ} → length E ≡ m.places → Expands A m s E xs E' → (p : ℕ) → In p xs → open_toll E' p ≡ None
  run_shut size r p i = none_is _ (stays_shut (record { far = A.zero; near = A.zero }) [] size (record { ahead = λ y o. record { far = L.least _; near = λ _. L.least _ }; behind = λ z i. absurd i }) r p (inr i))

  module _ {E E' : List (Entry T)} {xs : List ℕ} (x : ℕ) (size : length E ≡ m.places) (c : Chosen A m s E x) (r : Expands A m s (expand A m x E) xs E') (p : ℕ) where
    size₁ : length (expand A m x E) ≡ m.places
    size₁ = expand_length A m x E ∙ size

    -- a toll that fell is not the last one
    differs : (b : T) → Fell A E (expand A m x E) p → toll_at E' p ≡ Some b → ¬ (toll_at E p ≡ Some b)
    differs b k e f =
        let j = run_falls p k.toll size₁ r k.recorded in
        let q : Some j.0 ≡ Some b = sym j.1 ∙ e in let v : j.0 ≡ b = cc in
        not_both L (subst (λ t. Le A t k.toll) v j.2) (subst (Lt A k.toll) (recorded_chart L E p b f) k.lower)

    was_open : p ≡ x → is_some (open_toll E p) ≡ true
    was_open q = ap is_some (ap (open_toll E) q ∙ c.is_open)

    -- the first place of the run
    first : p ≡ x → open_toll E' p ≡ None → ExpandedAt E E' p
    first q d =
        let o = open_toll_lem E x c.toll c.is_open in
        let e : toll_at E p ≡ Some c.toll = ap (toll_at E) q ∙ ap (λ v. then v (λ f. f.toll)) o.1 ∙ o.2 in
        let k = falls_once E x p c.toll size c e in
        let j = run_falls p k.0 size₁ r k.1 in
        record { toll = j.0; recorded = j.1; closed = d; fresh = inl (was_open q) }

    -- the later ones
    back : ExpandedAt (expand A m x E) E' p → ExpandedAt E E' p
    back k = record {
      toll = k.toll;
      recorded = k.recorded;
      closed = k.closed;
      fresh = ⊎_elim (λ (q : p ≡ x). inl (was_open q))
          (λ ne. ⊎_elim
          (λ e. ⊎_elim
          (λ o. inl (ap (λ v. is_some (then v (λ f. cond f.is_open f.toll None))) (sym e) ∙ o))
          (λ n. inr (λ q. n (ap (λ v. then v (λ f. f.toll)) e ∙ q))) k.fresh)
          (λ l. inr (differs k.toll l k.recorded)) (turned E x p size c ne)) (cases_eq p x);
    }

    forth : ¬ (p ≡ x) → ExpandedAt E E' p → ExpandedAt (expand A m x E) E' p
    forth ne k = record {
      toll = k.toll;
      recorded = k.recorded;
      closed = k.closed;
      fresh = ⊎_elim
          (λ e. ⊎_elim
          (λ o. inl (ap (λ v. is_some (then v (λ f. cond f.is_open f.toll None))) e ∙ o))
          (λ n. inr (λ q. n (ap (λ v. then v (λ f. f.toll)) (sym e) ∙ q))) k.fresh)
          (λ l. inl (ap is_some l.opened)) (turned E x p size c ne);
    }

  -- every place of a run was expanded, as the trees tell
  pub run_expanded : {E E' : List (Entry T)} {xs : List ℕ} → length E ≡ m.places → Expands A m s E xs E' → (p : ℕ) → In p xs → ExpandedAt E E' p
  run_expanded size none p i = absurd i
  run_expanded {E} size (more x u c r) p i =
      let d = run_shut size (more x u c r) p i in
      ⊎_elim (λ (q : p ≡ x). first x size c r p q d) (λ j. back x size c r p (run_expanded (expand_length A m x E ∙ size) r p j)) i

  -- and a place that the trees tell is one of the run
  pub expanded_run : {E E' : List (Entry T)} {xs : List ℕ} → length E ≡ m.places → Expands A m s E xs E' → (p : ℕ) → ExpandedAt E E' p → In p xs
  expanded_run size none p k = ⊎_elim (λ o. true≢false (sym o ∙ ap is_some k.closed)) (λ n. n k.recorded) k.fresh
  expanded_run {E} size (more x u c r) p k =
      ⊎_elim (λ (q : p ≡ x). inl q) (λ ne. inr (expanded_run (expand_length A m x E ∙ size) r p (forth x size c r p ne k))) (cases_eq p x)
