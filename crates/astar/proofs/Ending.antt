-- How a run ends, and what that is good for.
use Rattle.std.proofs.Common.{◌≡◌, ℕ, zero, suc, ◌-◌, ◌<◌, ◌≤◌, true, false, cond, ◌⊎◌, List, [], ◌∷◌, length, is_some, Some, None, Option, unwrap_or, sym, ap, ◌∙◌, subst, inl, inr, ⊎_elim, true≢false, arith}
use Rattle.std.specs.Option.{option_map}
use Rattle.std.proofs.lemmas.List.{length_push}
use Rattle.std.proofs.lemmas.Bool.{cases_Bool, cases_lt, eq-eqb, ne_eqb, and_from}
use Rattle.std.proofs.lemmas.Option.{slice_get_past}
use Rattle.toll.specs.Tolls.{Tolls, TollLaws, Le, Lt}
use Rattle.floor.specs.Rising.{In}
use Rattle.floor.specs.Meaning.{Meaning, then}
use Rattle.floor.specs.FloorLaws.{FloorLaws}
use Rattle.astar.specs.declared.key.Key.{Key}
use Rattle.astar.specs.declared.outcome.Outcome.TheVariants.{Solved, NoWay}
use Rattle.tree.specs.Tree.{Entry, toll_at, next_at, open_toll}
use Rattle.tree.specs.Ways.{ends, way_toll, recorded, same_toll, borne_out}
use Rattle.astar.specs.Search.{key, choice, settles, solved, expand, Searched, after, ended, seek}
use Rattle.astar.specs.Runs.{Expands, none, more}
use Rattle.astar.specs.Sound.{chart_of, InTree, Follows, Sound}
use Rattle.astar.proofs.Charts.{KeyLe}
use Rattle.astar.proofs.Charts as chart
use Rattle.astar.proofs.Order.{le_eq, not_both, le_lt, key_true, key_trans}
use Rattle.astar.proofs.Best.{optimal, exact, no_way, falls}
use Rattle.astar.proofs.Count.{short}
use Rattle.tree.proofs.Options.{there?, is_some_is}
use Rattle.astar.proofs.Lanes.{guess, estimate_holds, self}
use Rattle.astar.proofs.Choosing.{chosen, chosen_key, none_open}
use Rattle.astar.proofs.Running.{key_chart, run_few, run_more}
use Rattle.astar.proofs.Keeping.{recorded_chart, chart_recorded, way_chart, path}

-- a run that is not solved, by its choice
abbrev turned : {T : Type 0} → Tolls T → Meaning T → (s n : ℕ) → List (Entry T) → Option (ℕ × Key T) → Searched T
turned A m s n E o = elim o [ None ↦ ended NoWay E | Some c ↦ after c.0 (seek A m s n (expand A m c.0 E)) ]

-- what a run with at most n expansions comes to
record Ends {T : Type 0} (A : Tolls T) (m : Meaning T) (s n : ℕ) (E : List (Entry T)) (r : Searched T) : Type 0 where
  run : Expands A m s E r.expanded r.tree
  found : r.outcome ≡ Solved → solved A m s r.tree ≡ true
  lost : r.outcome ≡ NoWay → (solved A m s r.tree ≡ false) × ((choice A m s r.tree ≡ None) ⊎ (n ≤ length r.expanded))

module _ {T : Type 0} {A : Tolls T} (L : TollLaws A) {m : Meaning T} (F : FloorLaws A m) (s : ℕ) where
  never : {C : Type 0} → Solved ≡ NoWay → C
  never e = absurd (let z : ◌≡◌ {A = ℕ} 0 1 = cc in omega arith)

  halts_solved : (n : ℕ) (E : List (Entry T)) → solved A m s E ≡ true → Ends A m s n E (ended Solved E)
  halts_solved n E e = record { run = none; found = λ _. e; lost = λ q. never q }

  halts : (n : ℕ) (E : List (Entry T)) → solved A m s E ≡ false → (choice A m s E ≡ None) ⊎ (n ≤ 0) → Ends A m s n E (ended NoWay E)
  halts n E u k = record { run = none; found = λ q. never (sym q); lost = λ _. (u, k) }

  ends_on : (n : ℕ) (E : List (Entry T)) (c : ℕ × Key T) → solved A m s E ≡ false → choice A m s E ≡ Some c → Ends A m s n (expand A m c.0 E) (seek A m s n (expand A m c.0 E)) → Ends A m s (suc n) E (after c.0 (seek A m s n (expand A m c.0 E)))
  ends_on n E c u e k = record {
    run = more c.0 u (chosen L m s E c e) k.run;
    found = k.found;
    lost = λ q. let l = k.lost q in (l.0, ⊎_elim (λ x. inl x) (λ x. inr (omega arith)) l.1);
  }

  seek_ends : (n : ℕ) (E : List (Entry T)) → Ends A m s n E (seek A m s n E)
  seek_ends zero E = ⊎_elim
      (λ (b : solved A m s E ≡ true). subst (λ v. Ends A m s 0 E (cond v (ended Solved E) (ended NoWay E))) (sym b) (halts_solved 0 E b))
      (λ (b : solved A m s E ≡ false). subst (λ v. Ends A m s 0 E (cond v (ended Solved E) (ended NoWay E))) (sym b) (halts 0 E b (inr (omega arith)))) (cases_Bool (solved A m s E))
  seek_ends (suc n) E = ⊎_elim
      (λ (b : solved A m s E ≡ true). subst (λ v. Ends A m s (suc n) E (cond v (ended Solved E) (turned A m s n E (choice A m s E)))) (sym b) (halts_solved (suc n) E b))
      (λ (b : solved A m s E ≡ false). subst (λ v. Ends A m s (suc n) E (cond v (ended Solved E) (turned A m s n E (choice A m s E)))) (sym b) (go (λ c. seek_ends n (expand A m c.0 E)) b (there? (choice A m s E)))) (cases_Bool (solved A m s E))
    where
      go : ((c : ℕ × Key T) → Ends A m s n (expand A m c.0 E) (seek A m s n (expand A m c.0 E))) → solved A m s E ≡ false → (choice A m s E ≡ None) ⊎ ((c : ℕ × Key T) × (choice A m s E ≡ Some c)) → Ends A m s (suc n) E (turned A m s n E (choice A m s E))
      go f b (inl e) = subst (λ o. Ends A m s (suc n) E (turned A m s n E o)) (sym e) (halts (suc n) E b (inl e))
      go f b (inr r) = subst (λ o. Ends A m s (suc n) E (turned A m s n E o)) (sym r.1) (ends_on n E r.0 b r.1 (f r.0))

  -- a run over all places runs, ends solved, or ends with no open place and is not solved
  module _ (E : List (Entry T)) (size : length E ≡ m.places) where
    pub seek_run : Expands A m s E (seek A m s (length E) E).expanded (seek A m s (length E) E).tree
    seek_run = (seek_ends (length E) E).run

    pub seek_solved : (seek A m s (length E) E).outcome ≡ Solved → solved A m s (seek A m s (length E) E).tree ≡ true
    seek_solved = (seek_ends (length E) E).found

    pub seek_spent : (seek A m s (length E) E).outcome ≡ NoWay → (solved A m s (seek A m s (length E) E).tree ≡ false) × (choice A m s (seek A m s (length E) E).tree ≡ None)
    seek_spent q =
        let r = seek A m s (length E) E in
        let k = seek_ends (length E) E in
        let l = k.lost q in (
          l.0,
          ⊎_elim (λ e. e)
              (λ (full : length E ≤ length r.expanded). ⊎_elim (λ e. e)
              (λ c. let f = run_few L F s size (run_more L F s c.0.0 k.run l.0 (chosen L m s r.tree c.0 c.1)) in
              absurd (omega (arith, length_push r.expanded c.0.0, size, full))) (there? (choice A m s r.tree))) l.1,
        )

  -- a place with a recorded toll is a place of the table
  pub toll_below : (E : List (Entry T)) (p : ℕ) (g : T) → toll_at E p ≡ Some g → p < length E
  toll_below E p g e = ⊎_elim (λ (h : p < length E). h)
      (λ (h : length E ≤ p). absurd (let f : None ≡ Some g = sym (ap (λ o. then o (λ x. x.toll)) (slice_get_past E p h)) ∙ e in let z : ◌≡◌ {A = ℕ} 0 1 = cc in omega arith)) (cases_lt p (length E))

  module _ {t : ℕ} (E : List (Entry T)) (S : Sound A m t E) where
    -- the next place on the recorded way is in the tree
    pub next_in : (p q : ℕ) → InTree A (chart_of A E) p → ¬ (p ≡ t) → q ≡ (chart_of A E).next p → InTree A (chart_of A E) q
    next_in p q i ne e = subst (InTree A (chart_of A E)) (sym e) (le_lt L (falls L (estimate_holds L F) S.chart p ne i) i)

    pub along : (w : List ℕ) (p : ℕ) → InTree A (chart_of A E) p → Follows (chart_of A E).next t p w → (z : ℕ) → In z (p ∷ w) → z < length E
    along w p i f z (inl q) = subst (λ (n : ℕ). n < length E) (sym q) (toll_below E p _ (chart_recorded L E p i))
    along [] p i f z (inr h) = absurd h
    along (q ∷ w) p i f z (inr h) = along w q (next_in p q i f.0 f.1) f.2 z h

    to_record : (w : List ℕ) (n p : ℕ) → InTree A (chart_of A E) p → Follows (chart_of A E).next t p w → length w ≤ n → recorded E t n p ≡ Some w
    to_record [] zero p i f h = ap (λ b. cond b (Some []) None) (eq-eqb p t f)
    to_record [] (suc n) p i f h = ap (λ b. cond b (Some []) (then (next_at E p) (λ q. option_map (λ w. q ∷ w) (recorded E t n q)))) (eq-eqb p t f)
    to_record (q ∷ w) zero p i f h = absurd (omega arith)
    to_record (q ∷ w) (suc n) p i f h =
        let l = is_some_is (next_at E p) (S.linked p _ (chart_recorded L E p i) f.0) in
        let nx : next_at E p ≡ Some q = l.1 ∙ ap (λ (k : ℕ). Some k) (sym (f.1 ∙ ap (λ o. unwrap_or o 0) l.1)) in
        ap (λ b. cond b (Some []) (then (next_at E p) (λ q. option_map (λ w. q ∷ w) (recorded E t n q)))) (ne_eqb p t f.0)
        ∙ ap (λ o. then o (λ q. option_map (λ w. q ∷ w) (recorded E t n q))) nx
        ∙ ap (option_map (λ w. q ∷ w)) (to_record w n q (next_in p q i f.0 f.1) f.2 (omega arith))

  -- a solved run on a sound tree
  module _ {t : ℕ} (E : List (Entry T)) (S : Sound A m t E) (ok : solved A m s E ≡ true) where
    pub own : (g : T) × (toll_at E s ≡ Some g)
    own = ⊎_elim (λ (e : toll_at E s ≡ None). absurd (true≢false (sym ok ∙ ap (λ o. settles A (option_map (key A m s s) o) (choice A m s E)) e))) (λ r. r) (there? (toll_at E s))

    -- the key of the carrier's place is its toll, twice
    own_key : key A m s s own.0 ≡ record { far = own.0; near = own.0 }
    own_key = ap (λ v. record { far = v; near = own.0 }) (ap (λ v. A.join v own.0) (self L F s) ∙ L.zero_left own.0)

    settled : settles A (Some (record { far = own.0; near = own.0 })) (choice A m s E) ≡ true
    settled = sym (ap (λ o. settles A (option_map (key A m s s) o) (choice A m s E)) own.1 ∙ ap (λ k. settles A (Some k) (choice A m s E)) own_key) ∙ ok

    bound : (x : ℕ) → (chart_of A E).is_open x ≡ true → KeyLe A (record { far = own.0; near = own.0 }) (chart.key A (guess A m s) (chart_of A E) x)
    bound x o = ⊎_elim
        (λ (e : choice A m s E ≡ None). let r = is_some_is (open_toll E x) o in absurd (let f : None ≡ Some r.0 = sym (none_open L m s E e x) ∙ r.1 in let z : ◌≡◌ {A = ℕ} 0 1 = cc in omega arith))
        (λ c. let r = is_some_is (open_toll E x) o in
        let k = chosen_key L m s E c.0 c.1 in
        let d = chosen L m s E c.0 c.1 in
        let first : KeyLe A (record { far = own.0; near = own.0 }) c.0.1 = key_true L _ _ (sym (ap (settles A (Some (record { far = own.0; near = own.0 }))) c.1) ∙ settled) in
        let same : c.0.1 ≡ key A m s c.0.0 d.toll = k.2 ∙ ap (key A m s c.0.0) (let f : Some k.0 ≡ Some d.toll = sym k.1 ∙ d.is_open in let v : k.0 ≡ d.toll = cc in v) in
        let last : KeyLe A c.0.1 (key A m s x r.0) = subst (λ j. KeyLe A j (key A m s x r.0)) (sym same) (key_true L _ _ (d.smallest x r.0 r.1)) in
        subst (KeyLe A (record { far = own.0; near = own.0 })) (sym (key_chart L F s E x r.0 r.1)) (key_trans L first last))
        (there? (choice A m s E))

    at_s : (chart_of A E).g s ≡ own.0
    at_s = recorded_chart L E s own.0 own.1

    inside : InTree A (chart_of A E) s
    inside = subst (λ v. Lt A v A.shut) (sym at_s) (S.below s own.0 own.1)

    done : chart.Solved A (guess A m) s (chart_of A E)
    done = record { inside = inside; bound = λ x o. subst (λ v. KeyLe A (record { far = v; near = v }) (chart.key A (guess A m s) (chart_of A E) x)) (sym at_s) (bound x o) }

    -- no way is cheaper
    pub solved_least : (w : List ℕ) (c : T) → ends s w ≡ t → way_toll A m s w ≡ Some c → Le A own.0 c
    solved_least w c e f = subst (λ v. Le A v c) at_s (subst (Le A ((chart_of A E).g s)) (way_chart L m s w c f) (optimal L (estimate_holds L F) S.chart s done w e))

    pub climb : (w : List ℕ) × Follows (chart_of A E).next t s w
    climb = S.chart.climbs s inside

    -- the recorded way has exactly the recorded toll
    pub solved_toll : way_toll A m s climb.0 ≡ Some own.0
    solved_toll =
        let p = path L m t E S.chart climb.0 s inside climb.1 in
        p.is ∙ ap (λ v. Some v) (sym (way_chart L m s climb.0 p.toll p.is) ∙ exact L (estimate_holds L F) S.chart s done climb.0 climb.1 ∙ at_s)

    pub solved_leads : ends s climb.0 ≡ t
    solved_leads = (path L m t E S.chart climb.0 s inside climb.1).leads

    -- so the floor bears the recorded way out
    pub solved_borne : borne_out A m E t s ≡ Some (climb.0, own.0)
    solved_borne =
        let h = short (chart_of A E).next t (length E) climb.0 s climb.1 (along E S climb.0 s inside climb.1) in
        let r : recorded E t (length E - 1) s ≡ Some climb.0 = to_record E S climb.0 (length E - 1) s inside climb.1 (omega arith) in
        let same : same_toll A own.0 (toll_at E s) ≡ true = ap (same_toll A own.0) own.1 ∙ and_from _ _ (L.itself own.0) (L.itself own.0) in
        ap (λ o. then o (λ w. then (way_toll A m s w) (λ c. cond (same_toll A c (toll_at E s)) (Some (w, c)) None))) r
        ∙ ap (λ o. then o (λ c. cond (same_toll A c (toll_at E s)) (Some (climb.0, c)) None)) solved_toll
        ∙ ap (λ b. cond b (Some (climb.0, own.0)) None) same

  -- a run on a sound tree that ends with no open place
  pub spent_shut : {t : ℕ} (E : List (Entry T)) → Sound A m t E → solved A m s E ≡ false → choice A m s E ≡ None → (w : List ℕ) (c : T) → ends s w ≡ t → way_toll A m s w ≡ Some c → c ≡ A.shut
  spent_shut E S u e w c f g =
      let out : toll_at E s ≡ None = ⊎_elim (λ x. x) (λ r. absurd (true≢false (sym (ap (λ o. settles A (option_map (key A m s s) (toll_at E s)) o) e ∙ ap (λ o. settles A (option_map (key A m s s) o) None) r.1) ∙ u))) (there? (toll_at E s)) in
      let far : ¬ (InTree A (chart_of A E) s) = λ i. not_both L (le_eq L (sym (ap (λ o. unwrap_or o A.shut) out))) i in
      sym (way_chart L m s w c g) ∙ no_way L (estimate_holds L F) S.chart s far (λ x. ap is_some (none_open L m s E e x)) w f
