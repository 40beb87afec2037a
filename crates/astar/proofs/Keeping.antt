-- Set-up is sound, every expansion keeps a tree sound, and a least toll stays.
use Rattle.std.proofs.Common.{◌≡◌, ℕ, ◌⊎◌, List, [], ◌∷◌, is_some, Some, None, unwrap_or, sym, refl, ap, ◌∙◌, subst, ⊎_elim}
use Rattle.std.specs.Option.{option_map}
use Rattle.toll.specs.Tolls.{Tolls, TollLaws, Le, Lt}
use Rattle.floor.specs.Meaning.{Meaning, then}
use Rattle.floor.specs.FloorLaws.{FloorLaws}
use Rattle.tree.specs.Tree.{Entry, toll_at, next_at}
use Rattle.tree.specs.Ways.{ends, toll_between, way_toll, Least}
use Rattle.astar.specs.Search.{expand}
use Rattle.astar.specs.Runs.{Chosen, Expands, none, more}
use Rattle.astar.specs.Sound.{chart_of, cost, InTree, Follows, SoundChart, Sound}
use Rattle.astar.proofs.Order.{le_eq, le_trans, not_both, le_lt, lt_le, grows}
use Rattle.astar.proofs.Opens.{keeps}
use Rattle.astar.proofs.Charts as chart
use Rattle.tree.proofs.Options.{then_some, mapped_some, there?}
use Rattle.astar.proofs.Choosing.{open_toll_lem}
use Rattle.astar.proofs.Relaxing.{Improved, entry_after}
use Rattle.astar.proofs.Running.{chosen_step, chosen_least, expand_length}

module _ {T : Type 0} {A : Tolls T} (L : TollLaws A) where
  -- a recorded toll, in the chart
  pub recorded_chart : (E : List (Entry T)) (p : ℕ) (g : T) → toll_at E p ≡ Some g → (chart_of A E).g p ≡ g
  recorded_chart E p g e = ap (λ o. unwrap_or o A.shut) e

  -- a place in the chart's tree has a recorded toll
  pub chart_recorded : (E : List (Entry T)) (p : ℕ) → InTree A (chart_of A E) p → toll_at E p ≡ Some ((chart_of A E).g p)
  chart_recorded E p i = ⊎_elim
      (λ (e : toll_at E p ≡ None). absurd (not_both L (le_eq L (sym (ap (λ o. unwrap_or o A.shut) e))) i))
      (λ r. r.1 ∙ ap (λ v. Some v) (sym (recorded_chart E p r.0 r.1))) (there? (toll_at E p))

module _ {T : Type 0} {A : Tolls T} (L : TollLaws A) (m : Meaning T) where
  -- a way's toll, and the toll of the same way in the chart
  pub way_chart : (p : ℕ) (w : List ℕ) (c : T) → way_toll A m p w ≡ Some c → chart.toll A (cost A m) p w ≡ c
  way_chart p [] c e = let r : A.zero ≡ c = cc in r
  way_chart p (q ∷ w) c e =
      let a = then_some (toll_between m p q) (λ d. option_map (λ x. A.join d x) (way_toll A m q w)) c e in
      let b = mapped_some (way_toll A m q w) (λ x. A.join a.0 x) c a.2 in
      ap (λ x. A.join x (chart.toll A (cost A m) q w)) (ap (λ o. unwrap_or o A.shut) a.1) ∙ ap (A.join a.0) (way_chart q w b.0 b.1) ∙ b.2

  -- the lane to a next place is there
  pub lane_there : (p q : ℕ) (d : T) → Lt A (A.join (cost A m p q) d) A.shut → (c : T) × (toll_between m p q ≡ Some c) × (cost A m p q ≡ c)
  lane_there p q d k = ⊎_elim
      (λ (e : toll_between m p q ≡ None). absurd (not_both L (le_eq L (sym (ap (λ o. A.join (unwrap_or o A.shut) d) e ∙ L.shut_left d))) k))
      (λ r. (r.0, r.1, ap (λ o. unwrap_or o A.shut) r.1)) (there? (toll_between m p q))

  module _ (t : ℕ) (E : List (Entry T)) (I : SoundChart A (cost A m) t (chart_of A E)) where
    -- along next places there is a way with at most the recorded toll
    pub record Path (p : ℕ) (w : List ℕ) : Type 0 where
      pub toll : T
      pub is : way_toll A m p w ≡ Some toll
      pub low : Le A toll ((chart_of A E).g p)
      pub leads : ends p w ≡ t

    pub path : (w : List ℕ) (p : ℕ) → InTree A (chart_of A E) p → Follows (chart_of A E).next t p w → Path p w
    path [] p i f = record { toll = A.zero; is = refl; low = L.least _; leads = f }
    path (q ∷ w) p i f =
        let n = (chart_of A E).next p in
        let step : Le A (A.join (cost A m p n) ((chart_of A E).g n)) ((chart_of A E).g p) = I.tree p f.0 i in
        let c = lane_there p n ((chart_of A E).g n) (le_lt L step i) in
        let q_in : InTree A (chart_of A E) q = subst (InTree A (chart_of A E)) (sym f.1) (le_lt L (le_trans L (grows L (cost A m p n) ((chart_of A E).g n)) step) i) in
        let r = path w q q_in f.2 in
        let lane : toll_between m p q ≡ Some c.0 = ap (toll_between m p) f.1 ∙ c.1 in
        record {
          toll = A.join c.0 r.toll;
          is = ap (λ o. then o (λ d. option_map (λ x. A.join d x) (way_toll A m q w))) lane ∙ ap (option_map (λ x. A.join c.0 x)) r.is;
          low = le_trans L (L.mono_right _ _ c.0 (subst (λ (k : ℕ). Le A r.toll ((chart_of A E).g k)) f.1 r.low)) (subst (λ v. Le A (A.join v ((chart_of A E).g n)) ((chart_of A E).g p)) c.2 step);
          leads = r.leads;
        }

    -- so an expansion does not improve a place whose toll is least
    pub least_firm : (x u : ℕ) (g : T) → InTree A (chart_of A E) x → (chart_of A E).g u ≡ g → Least A m t u g → Lt A (A.join (cost A m u x) ((chart_of A E).g x)) ((chart_of A E).g u) → ⊥
    least_firm x u g i e l k =
        let w = I.climbs x i in
        let r = path w.0 x i w.1 in
        let c = lane_there u x ((chart_of A E).g x) (lt_le L k (L.greatest _)) in
        let is : way_toll A m u (x ∷ w.0) ≡ Some (A.join c.0 r.toll) = ap (λ o. then o (λ d. option_map (λ y. A.join d y) (way_toll A m x w.0))) c.1 ∙ ap (option_map (λ y. A.join c.0 y)) r.is in
        let h : Le A g (A.join c.0 r.toll) = l (x ∷ w.0) _ r.leads is in
        let j : Le A (A.join c.0 r.toll) (A.join (cost A m u x) ((chart_of A E).g x)) = subst (λ v. Le A (A.join c.0 r.toll) (A.join v ((chart_of A E).g x))) (sym c.2) (L.mono_right _ _ c.0 r.low) in
        not_both L (subst (λ v. Le A v (A.join (cost A m u x) ((chart_of A E).g x))) (sym e) (le_trans L h j)) k

module _ {T : Type 0} {A : Tolls T} (L : TollLaws A) {m : Meaning T} (F : FloorLaws A m) {s t : ℕ} where
  -- an open place is in the tree of a sound chart
  chosen_in : (E : List (Entry T)) (x : ℕ) → Sound A m t E → Chosen A m s E x → InTree A (chart_of A E) x
  chosen_in E x S c = S.chart.opened x (chosen_least L F s E x c).itself

  -- an expansion keeps a tree sound
  pub expand_sound : (E : List (Entry T)) (x : ℕ) → Sound A m t E → Chosen A m s E x → Sound A m t (expand A m x E)
  expand_sound E x S c =
      let r = open_toll_lem E x c.toll c.is_open in
      let after : (u : ℕ) → ((toll_at (expand A m x E) u ≡ toll_at E u) × (next_at (expand A m x E) u ≡ next_at E u)) ⊎ Improved L F E S.size x r.0 c.toll r.1 r.2 u = entry_after L F E S.size x r.0 c.toll r.1 r.2 in
      record {
        size = expand_length A m x E ∙ S.size;
        aim = S.aim;
        below = λ p g e. ⊎_elim (λ k. S.below p g (sym k.0 ∙ e))
            (λ k. let q : Some (A.join (cost A m p x) ((chart_of A E).g x)) ≡ Some g = sym k.toll_is ∙ e in let v : A.join (cost A m p x) ((chart_of A E).g x) ≡ g = cc in subst (λ h. Lt A h A.shut) v (lt_le L k.lower (L.greatest _))) (after p);
        linked = λ p g e ne. ⊎_elim (λ k. ap is_some k.1 ∙ S.linked p g (sym k.0 ∙ e) ne) (λ k. ap is_some k.next_is) (after p);
        chart = keeps L (chosen_step L F s E x S.size c) S.chart (chosen_least L F s E x c).itself;
      }

  -- an expansion leaves a least toll and its next place alone
  pub expand_stays : (E : List (Entry T)) (x p : ℕ) (g : T) → Sound A m t E → Chosen A m s E x → toll_at E p ≡ Some g → Least A m t p g → (toll_at (expand A m x E) p ≡ Some g) × (next_at (expand A m x E) p ≡ next_at E p)
  expand_stays E x p g S c e l =
      let r = open_toll_lem E x c.toll c.is_open in
      ⊎_elim (λ k. (k.0 ∙ e, k.1)) (λ k. absurd (least_firm L m t E S.chart x p g (chosen_in E x S c) (recorded_chart L E p g e) l k.lower)) (entry_after L F E S.size x r.0 c.toll r.1 r.2 p)

  -- the same of a whole run
  pub run_sound : {E E' : List (Entry T)} {xs : List ℕ} → Expands A m s E xs E' → Sound A m t E → Sound A m t E'
  run_sound none S = S
  run_sound {E} (more x u c r) S = run_sound r (expand_sound E x S c)

  pub run_stays : {E E' : List (Entry T)} {xs : List ℕ} (p : ℕ) (g : T) → Expands A m s E xs E' → Sound A m t E → toll_at E p ≡ Some g → Least A m t p g → (toll_at E' p ≡ Some g) × (next_at E' p ≡ next_at E p)
  run_stays p g none S e l = (e, refl)
  run_stays {E} p g (more x u c r) S e l =
      let k = expand_stays E x p g S c e l in
      let j = run_stays p g r (expand_sound E x S c) k.0 l in
      (j.0, j.1 ∙ k.1)
