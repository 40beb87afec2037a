-- Lanes and their tolls after a spot was set, and the places whose recorded way uses a lane of that spot.
use Rattle.std.proofs.Common.{◌≡◌, ℕ, zero, suc, ◌≤◌, Bool, true, false, cond, ◌&&◌, ◌||◌, ◌⊎◌, List, [], ◌∷◌, length, is_some, Some, None, Option, unwrap_or, sym, refl, ap, ◌∙◌, subst, inl, inr, ⊎_elim, true≢false, arith}
use Rattle.std.specs.Option.{option_map}
use Rattle.std.specs.List.{slice_get}
use Rattle.std.proofs.lemmas.Bool.{cases_eq, eqb-true, eq-eqb, ne_eqb, and_parts, and_from}
use Rattle.toll.specs.Tolls.{Tolls, TollLaws, Lt}
use Rattle.floor.specs.Meaning.{Lane, Spot, Meaning, then, has, lane_toll, lanes_by, out_of, into, of_spot}
use Rattle.floor.specs.FloorLaws.{FloorLaws, Listed}
use Rattle.floor.specs.Setting.{with_toll}
use Rattle.floor.proofs.FloorFacts.{part_has, listed, nth_set_same, nth_set_other}
use Rattle.tree.specs.Tree.{Entry, toll_at, next_at, marked}
use Rattle.tree.specs.Ways.{entering, lane_between}
use Rattle.astar.specs.Sound.{chart_of, cost, InTree, Follows, Sound}
use Rattle.repair.specs.Cut.{leads, joins, uses_spot, drops, marks, leaves_marked, beside_marked, entered_by}
use Rattle.repair.specs.Dropped.{RecordedWay, BecameDearer}
use Rattle.astar.proofs.Order.{le_eq, not_both}
use Rattle.astar.proofs.Count.{short}
use Rattle.tree.proofs.Options.{there?, is_some_is, mapped_some}
use Rattle.astar.proofs.Lanes.{between_leads}
use Rattle.astar.proofs.Keeping.{recorded_chart, chart_recorded}
use Rattle.astar.proofs.Ending.{next_in, along}
use Rattle.repair.proofs.ByPlace.{nth_by_place, some_none, some_in, some_is}

-- a lane that leads from p to q
leads_parts : (p q : ℕ) (o : Option Lane) → leads p q o ≡ true → (x : Lane) × (o ≡ Some x) × (x.leaves ≡ p) × (x.enters ≡ q)
leads_parts p q None e = absurd (true≢false (sym e))
leads_parts p q (Some x) e = let r = and_parts _ _ e in (x, refl, eqb-true x.leaves p r.0, eqb-true x.enters q r.1)

parts_lead : (p q : ℕ) (o : Option Lane) (x : Lane) → o ≡ Some x → x.leaves ≡ p → x.enters ≡ q → leads p q o ≡ true
parts_lead p q o x e a b = ap (leads p q) e ∙ and_from _ _ (eq-eqb x.leaves p a) (eq-eqb x.enters q b)

-- a lane of spot k leads from p to q
pub record SpotLane {T : Type 0} (m : Meaning T) (k p q l : ℕ) : Type 0 where
  pub lane : Lane
  pub there : m.lane l ≡ Some lane
  pub leaves : lane.leaves ≡ p
  pub enters : lane.enters ≡ q
  pub spot : lane.spot ≡ k

module _ {T : Type 0} {A : Tolls T} {m : Meaning T} (F : FloorLaws A m) (k : ℕ) (sp : Spot T) (known : slice_get m.spots k ≡ Some sp) (b : T) where
  -- the floor after setting
  abbrev m' : Meaning T
  m' = with_toll m k (Some sp) b

  lists : (part : Lane → ℕ) (p : ℕ) → Listed m' part p (lanes_by m' part p)
  lists part p = listed m' F.numbered part p

  entering_same : (q : ℕ) (ls : List ℕ) → entering m' q ls ≡ entering m q ls
  entering_same q [] = refl
  entering_same q (l ∷ ls) = ap (cond (has (λ x. x.enters) q (m.lane l)) (Some l)) (entering_same q ls)

  between_same : (p q : ℕ) → lane_between m' p q ≡ lane_between m p q
  unfolding lanes_by
  between_same p q = entering_same q (out_of m p)

  -- the toll of a lane: that of the spot, or as it was
  pub spot_was : (l : ℕ) (x : Lane) → m.lane l ≡ Some x → x.spot ≡ k → lane_toll m l ≡ Some sp.toll
  spot_was l x e q =
      ap (λ o. then o (λ y. option_map (λ (s : Spot T). s.toll) (slice_get m.spots y.spot))) e
      ∙ ap (λ (n : ℕ). option_map (λ (s : Spot T). s.toll) (slice_get m.spots n)) q
      ∙ ap (option_map (λ (s : Spot T). s.toll)) known

  pub spot_is : (l : ℕ) (x : Lane) → m.lane l ≡ Some x → x.spot ≡ k → lane_toll m' l ≡ Some b
  spot_is l x e q =
      ap (λ o. then o (λ y. option_map (λ (s : Spot T). s.toll) (slice_get m'.spots y.spot))) e
      ∙ ap (λ (n : ℕ). option_map (λ (s : Spot T). s.toll) (slice_get m'.spots n)) q
      ∙ ap (option_map (λ (s : Spot T). s.toll)) (nth_set_same m.spots k _ sp known)

  pub spot_other : (l : ℕ) (x : Lane) → m.lane l ≡ Some x → ¬ (x.spot ≡ k) → lane_toll m' l ≡ lane_toll m l
  spot_other l x e ne =
      ap (λ o. then o (λ y. option_map (λ (s : Spot T). s.toll) (slice_get m'.spots y.spot))) e
      ∙ ap (option_map (λ (s : Spot T). s.toll)) (nth_set_other m.spots k x.spot _ ne)
      ∙ sym (ap (λ o. then o (λ y. option_map (λ (s : Spot T). s.toll) (slice_get m.spots y.spot))) e)

  -- a pair of places is joined by a lane of the spot
  pub joins_lane : (p q : ℕ) → joins m' k p q ≡ true → (l : ℕ) × SpotLane m k p q l
  joins_lane p q e =
      let r = some_is (λ l. leads p q (m.lane l)) (of_spot m' k) e in
      let y = (lists (λ x. x.spot) k).only r.0 r.1 in
      let d = leads_parts p q (m.lane r.0) r.2 in
      let s : y.0 ≡ d.0 = (let f : Some y.0 ≡ Some d.0 = sym y.1 ∙ d.1 in cc) in
      (r.0, record { lane = d.0; there = d.1; leaves = d.2; enters = d.3; spot = ap (λ (x : Lane). x.spot) (sym s) ∙ y.2 })

  pub lane_joins : (p q l : ℕ) → SpotLane m k p q l → joins m' k p q ≡ true
  lane_joins p q l d = some_in (λ n. leads p q (m.lane n)) (of_spot m' k) l ((lists (λ x. x.spot) k).every l d.lane d.there d.spot) (parts_lead p q (m.lane l) d.lane d.there d.leaves d.enters)

  cost_was : (p q : ℕ) (o : Option ℕ) → lane_between m p q ≡ o → cost A m p q ≡ unwrap_or (then o (λ l. lane_toll m l)) A.shut
  cost_was p q o e = ap (λ r. unwrap_or (then r (λ l. lane_toll m l)) A.shut) e

  cost_is : (p q : ℕ) (o : Option ℕ) → lane_between m p q ≡ o → cost A m' p q ≡ unwrap_or (then o (λ l. lane_toll m' l)) A.shut
  cost_is p q o e = ap (λ r. unwrap_or (then r (λ l. lane_toll m' l)) A.shut) (between_same p q ∙ e)

  -- the toll between two places: that of the spot, or as it was
  pub prices : (p q : ℕ) → ((joins m' k p q ≡ true) × (cost A m p q ≡ sp.toll) × (cost A m' p q ≡ b)) ⊎ (cost A m' p q ≡ cost A m p q)
  prices p q = ⊎_elim (λ (e : lane_between m p q ≡ None). inr (cost_is p q None e ∙ sym (cost_was p q None e)))
      (λ r. let d = between_leads F p q r.0 r.1 in ⊎_elim
      (λ (s : d.lane.spot ≡ k). inl (
        lane_joins p q r.0 (record { lane = d.lane; there = d.there; leaves = d.leaves; enters = d.enters; spot = s }),
        cost_was p q (Some r.0) r.1 ∙ ap (λ o. unwrap_or o A.shut) (spot_was r.0 d.lane d.there s),
        cost_is p q (Some r.0) r.1 ∙ ap (λ o. unwrap_or o A.shut) (spot_is r.0 d.lane d.there s),
      ))
      (λ (s : ¬ (d.lane.spot ≡ k)). inr (cost_is p q (Some r.0) r.1 ∙ ap (λ o. unwrap_or o A.shut) (spot_other r.0 d.lane d.there s) ∙ sym (cost_was p q (Some r.0) r.1)))
      (cases_eq d.lane.spot k))
      (there? (lane_between m p q))

  -- no lane leads from a marked place to one that is beside none
  pub beside_none : (ms : List Bool) (u x : ℕ) → beside_marked m' ms x ≡ false → marked ms u ≡ true → cost A m' u x ≡ A.shut
  beside_none ms u x e d = ⊎_elim (λ (n : lane_between m u x ≡ None). cost_is u x None n)
      (λ r. let y = between_leads F u x r.0 r.1 in
      let h : leaves_marked ms (m.lane r.0) ≡ true = ap (leaves_marked ms) y.there ∙ ap (marked ms) y.leaves ∙ d in
      absurd (true≢false (sym h ∙ some_none (λ l. leaves_marked ms (m.lane l)) (into m' x) e r.0 ((lists (λ z. z.enters) x).every r.0 y.lane y.there y.enters))))
      (there? (lane_between m u x))

  -- a place that the spot's lanes do not enter
  pub entered_none : (u x : ℕ) → entered_by m' k x ≡ false → joins m' k u x ≡ true → ⊥
  entered_none u x e j =
      let r = joins_lane u x j in
      let h = part_has (λ y. y.enters) x (m.lane r.0) r.1.lane r.1.there r.1.enters in
      true≢false (sym h ∙ some_none (λ l. has (λ y. y.enters) x (m.lane l)) (of_spot m' k) e r.0 ((lists (λ y. y.spot) k).every r.0 r.1.lane r.1.there r.1.spot))

  -- a lane that became dearer is one of the spot, and the spot became dearer
  pub dearer_joins : TollLaws A → (p q : ℕ) → BecameDearer A m m' p q → (joins m' k p q ≡ true) × Lt A sp.toll b
  dearer_joins L p q d =
      let x = mapped_some (m.lane d.lane) (λ y. (y.leaves, y.enters)) (p, q) d.leads in ⊎_elim
      (λ (s : x.0.spot ≡ k).
      let old : d.old ≡ sp.toll = (let f : Some d.old ≡ Some sp.toll = sym d.was ∙ spot_was d.lane x.0 x.1 s in cc) in
      let new : d.new ≡ b = (let f : Some d.new ≡ Some b = sym d.is ∙ spot_is d.lane x.0 x.1 s in cc) in (
        lane_joins p q d.lane (record { lane = x.0; there = x.1; leaves = ap (λ (e : ℕ × ℕ). e.0) x.2; enters = ap (λ (e : ℕ × ℕ). e.1) x.2; spot = s }),
        subst (λ v. Lt A v b) old (subst (λ v. Lt A d.old v) new d.more),
      ))
      (λ (s : ¬ (x.0.spot ≡ k)).
      let same : d.old ≡ d.new = (let f : Some d.old ≡ Some d.new = sym d.was ∙ sym (spot_other d.lane x.0 x.1 s) ∙ d.is in cc) in
      absurd (not_both L (le_eq L (sym same)) d.more))
      (cases_eq x.0.spot k)

  pub joins_dearer : (p q : ℕ) → Lt A sp.toll b → joins m' k p q ≡ true → BecameDearer A m m' p q
  joins_dearer p q h j =
      let r = joins_lane p q j in
      record {
        lane = r.0;
        leads = ap (option_map (λ x. (x.leaves, x.enters))) r.1.there ∙ (λ i. Some (r.1.leaves i, r.1.enters i));
        old = sp.toll;
        new = b;
        was = spot_was r.0 r.1.lane r.1.there r.1.spot;
        is = spot_is r.0 r.1.lane r.1.there r.1.spot;
        more = h;
      }

-- n is the floor after setting; a tree that was sound before it
module _ {T : Type 0} {A : Tolls T} (L : TollLaws A) {m : Meaning T} (F : FloorLaws A m) {t : ℕ} {E : List (Entry T)} (S : Sound A m t E) (n : Meaning T) (k : ℕ) where
  -- whether the way from p over the places w uses a lane of the spot
  abbrev pub uses_along : ℕ → List ℕ → Bool
  uses_along p [] = false
  uses_along p (q ∷ w) = joins n k p q || uses_along q w

  -- what uses_spot does with a next place
  abbrev goes : ℕ → ℕ → Option ℕ → Bool
  goes i p o = elim o [ None ↦ false | Some q ↦ joins n k p q || uses_spot n k E t i q ]

  pub in_toll : (p : ℕ) → is_some (toll_at E p) ≡ true → InTree A (chart_of A E) p
  in_toll p e = let r = is_some_is (toll_at E p) e in subst (λ v. Lt A v A.shut) (sym (recorded_chart L E p r.0 r.1)) (S.below p r.0 r.1)

  next_is : (p q : ℕ) → InTree A (chart_of A E) p → ¬ (p ≡ t) → q ≡ (chart_of A E).next p → next_at E p ≡ Some q
  next_is p q i ne e =
      let l = is_some_is (next_at E p) (S.linked p _ (chart_recorded L E p i) ne) in
      l.1 ∙ ap (λ (j : ℕ). Some j) (sym (e ∙ ap (λ o. unwrap_or o 0) l.1))

  -- next places and the recorded way
  pub follows_recorded : (w : List ℕ) (p : ℕ) → InTree A (chart_of A E) p → Follows (chart_of A E).next t p w → RecordedWay E t p w
  follows_recorded [] p i f = f
  follows_recorded (q ∷ w) p i f = (f.0, next_is p q i f.0 f.1, follows_recorded w q (next_in L F 0 E S p q i f.0 f.1) f.2)

  pub recorded_follows : (w : List ℕ) (p : ℕ) → RecordedWay E t p w → Follows (chart_of A E).next t p w
  recorded_follows [] p f = f
  recorded_follows (q ∷ w) p f = (f.0, sym (ap (λ o. unwrap_or o 0) f.1), recorded_follows w q f.2)

  -- a bound that the way keeps within plays no part
  uses_along_lem : (w : List ℕ) (j p : ℕ) → InTree A (chart_of A E) p → Follows (chart_of A E).next t p w → length w ≤ j → uses_spot n k E t j p ≡ uses_along p w
  uses_along_lem [] zero p i f h = refl
  uses_along_lem [] (suc j) p i f h = ap (λ c. cond c false (goes j p (next_at E p))) (eq-eqb p t f)
  uses_along_lem (q ∷ w) zero p i f h = absurd (omega arith)
  uses_along_lem (q ∷ w) (suc j) p i f h =
      ap (λ c. cond c false (goes j p (next_at E p))) (ne_eqb p t f.0)
      ∙ ap (goes j p) (next_is p q i f.0 f.1)
      ∙ ap (λ c. joins n k p q || c) (uses_along_lem w j q (next_in L F 0 E S p q i f.0 f.1) f.2 (omega arith))

  -- a tree place is dropped exactly if its way uses a lane of the spot
  pub drops_along : (w : List ℕ) (p : ℕ) → InTree A (chart_of A E) p → Follows (chart_of A E).next t p w → drops n k t E p ≡ uses_along p w
  drops_along w p i f =
      let h = short (chart_of A E).next t (length E) w p f (along L F 0 E S w p i f) in
      ap (λ o. is_some o && uses_spot n k E t (length E) p) (chart_recorded L E p i) ∙ uses_along_lem w (length E) p i f (omega arith)

  pub drops_target : drops n k t E t ≡ false
  drops_target = drops_along [] t (subst (λ v. Lt A v A.shut) (sym S.chart.target) L.differ) refl

  -- a tree place is dropped if its own lane is one of the spot, or its next place is dropped
  pub one_more : (p : ℕ) → ¬ (p ≡ t) → InTree A (chart_of A E) p → drops n k t E p ≡ (joins n k p ((chart_of A E).next p) || drops n k t E ((chart_of A E).next p))
  one_more p ne i = go (S.chart.climbs p i).0 (S.chart.climbs p i).1
    where
      go : (w : List ℕ) → Follows (chart_of A E).next t p w → drops n k t E p ≡ (joins n k p ((chart_of A E).next p) || drops n k t E ((chart_of A E).next p))
      go [] f = absurd (ne f)
      go (q ∷ w) f = drops_along (q ∷ w) p i f ∙ ap (λ c. joins n k p q || c) (sym (drops_along w q (next_in L F 0 E S p q i ne f.1) f.2)) ∙ ap (λ (r : ℕ). joins n k p r || drops n k t E r) f.1

  -- the marks say which places are dropped
  pub marked_drops : (p : ℕ) → marked (marks n k t E) p ≡ drops n k t E p
  marked_drops p = ap (λ o. unwrap_or o false) (nth_by_place (λ p e. drops n k t E p) E p) ∙ ⊎_elim
      (λ (e : slice_get E p ≡ None). ap (λ o. unwrap_or (option_map (λ _. drops n k t E p) o) false) e ∙ sym (ap (λ o. is_some (then o (λ x. x.toll)) && uses_spot n k E t (length E) p) e))
      (λ r. ap (λ o. unwrap_or (option_map (λ _. drops n k t E p) o) false) r.1)
      (there? (slice_get E p))
