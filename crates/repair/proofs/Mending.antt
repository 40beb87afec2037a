-- A tree without some places, and with others opened, is sound for the tolls that stand now, if enough was taken out and opened.
use Rattle.std.proofs.Common.{◌≡◌, ℕ, ◌<◌, Bool, true, false, ◌⊎◌, List, [], ◌∷◌, is_some, Some, None, unwrap_or, sym, ap, ◌∙◌, subst, ⊎_elim, arith}
use Rattle.std.proofs.lemmas.Bool.{cases_Bool}
use Rattle.toll.specs.Tolls.{Tolls, TollLaws, Le, Lt}
use Rattle.floor.specs.Meaning.{Meaning, then}
use Rattle.tree.specs.Tree.{Entry, toll_at, open_toll}
use Rattle.astar.specs.Sound.{chart_of, cost, InTree, Follows, Sound}
use Rattle.astar.proofs.Order.{le_eq, le_trans, not_both, le_lt, grows}
use Rattle.tree.proofs.Options.{is_some_is}
use Rattle.astar.proofs.Choosing.{open_toll_lem}
use Rattle.astar.proofs.Keeping.{recorded_chart}
use Rattle.repair.proofs.ByPlace.{Mended}

-- the tolls went from m to m'; D are the places taken out, W those opened
pub record Enough {T : Type 0} (A : Tolls T) (m m' : Meaning T) (t : ℕ) (E : List (Entry T)) (D W : ℕ → Bool) : Type 0 where
  pub target : D t ≡ false
  -- a place that stays goes on to a place that stays, over a lane that did not become dearer
  pub firm : (p : ℕ) → ¬ (p ≡ t) → InTree A (chart_of A E) p → D p ≡ false → (D ((chart_of A E).next p) ≡ false) × Le A (cost A m' p ((chart_of A E).next p)) (cost A m p ((chart_of A E).next p))
  -- into a place that was not opened no lane became cheaper, and none leads there from a place taken out
  pub quiet : (x : ℕ) → W x ≡ false → (u : ℕ) → ((D u ≡ false) × Le A (cost A m u x) (cost A m' u x)) ⊎ (cost A m' u x ≡ A.shut)

module _ {T : Type 0} {A : Tolls T} (L : TollLaws A) {m m' : Meaning T} (places : m.places ≡ m'.places) {t : ℕ} {E R : List (Entry T)} (S : Sound A m t E) {D W : ℕ → Bool} (M : Mended D W E R) (N : Enough A m m' t E D W) where
  either : {C : Type 0} (p : ℕ) → (D p ≡ true → C) → (D p ≡ false → C) → C
  either p f g = ⊎_elim f g (cases_Bool (D p))

  g_gone : (p : ℕ) → D p ≡ true → (chart_of A R).g p ≡ A.shut
  g_gone p d = ap (λ o. unwrap_or o A.shut) (M.gone p d).0

  g_kept : (p : ℕ) → D p ≡ false → (chart_of A R).g p ≡ (chart_of A E).g p
  g_kept p d = ap (λ o. unwrap_or o A.shut) (M.kept p d).0

  next_kept : (p : ℕ) → D p ≡ false → (chart_of A R).next p ≡ (chart_of A E).next p
  next_kept p d = ap (λ o. unwrap_or o 0) (M.kept p d).1

  -- what is in the tree afterwards was, and was not taken out
  stayed : (p : ℕ) → InTree A (chart_of A R) p → (D p ≡ false) × InTree A (chart_of A E) p
  stayed p i = either p
      (λ d. absurd (not_both L (le_eq L (sym (g_gone p d))) i))
      (λ d. (d, subst (λ v. Lt A v A.shut) (g_kept p d) i))

  tree : (p : ℕ) → ¬ (p ≡ t) → InTree A (chart_of A R) p → Le A (A.join (cost A m' p ((chart_of A R).next p)) ((chart_of A R).g ((chart_of A R).next p))) ((chart_of A R).g p)
  tree p ne i =
      let k = stayed p i in
      let f = N.firm p ne k.1 k.0 in
      let q = (chart_of A E).next p in
      let h : Le A (A.join (cost A m' p q) ((chart_of A E).g q)) ((chart_of A E).g p) = le_trans L (L.mono_left _ _ _ f.1) (S.chart.tree p ne k.1) in
      subst (λ (n : ℕ). Le A (A.join (cost A m' p n) ((chart_of A R).g n)) ((chart_of A R).g p)) (sym (next_kept p k.0))
      (subst (λ v. Le A (A.join (cost A m' p q) v) ((chart_of A R).g p)) (sym (g_kept q f.0))
      (subst (λ v. Le A (A.join (cost A m' p q) ((chart_of A E).g q)) v) (sym (g_kept p k.0)) h))

  -- a sum that is shut is at least anything
  top : (u x : ℕ) → A.join (cost A m' u x) ((chart_of A R).g x) ≡ A.shut → Le A ((chart_of A R).g u) (A.join (cost A m' u x) ((chart_of A R).g x))
  top u x e = subst (Le A ((chart_of A R).g u)) (sym e) (L.greatest _)

  far : (u x : ℕ) → (chart_of A R).g x ≡ A.shut → Le A ((chart_of A R).g u) (A.join (cost A m' u x) ((chart_of A R).g x))
  far u x e = top u x (ap (A.join (cost A m' u x)) e ∙ L.shut_right _)

  closed : (x : ℕ) → (chart_of A R).is_open x ≡ false → (u : ℕ) → Le A ((chart_of A R).g u) (A.join (cost A m' u x) ((chart_of A R).g x))
  closed x e u = either x (λ d. far u x (g_gone x d))
      (λ d. let k = M.quiet x d e in
      ⊎_elim (λ (n : toll_at E x ≡ None). far u x (g_kept x d ∙ ap (λ o. unwrap_or o A.shut) n))
      (λ (w : W x ≡ false). ⊎_elim
      (λ (h : (D u ≡ false) × Le A (cost A m u x) (cost A m' u x)).
      subst (λ v. Le A v (A.join (cost A m' u x) ((chart_of A R).g x))) (sym (g_kept u h.0))
      (subst (λ v. Le A ((chart_of A E).g u) (A.join (cost A m' u x) v)) (sym (g_kept x d))
      (le_trans L (S.chart.closed x k.0 u) (L.mono_left _ _ _ h.1))))
      (λ (h : cost A m' u x ≡ A.shut). top u x (ap (λ v. A.join v ((chart_of A R).g x)) h ∙ L.shut_left _))
      (N.quiet x w u)) k.1)

  goes : (p : ℕ) → ¬ (p ≡ t) → InTree A (chart_of A E) p → InTree A (chart_of A E) ((chart_of A E).next p)
  goes p ne i = le_lt L (le_trans L (grows L (cost A m p ((chart_of A E).next p)) _) (S.chart.tree p ne i)) i

  keep : (w : List ℕ) (p : ℕ) → InTree A (chart_of A E) p → D p ≡ false → Follows (chart_of A E).next t p w → Follows (chart_of A R).next t p w
  keep [] p i d f = f
  keep (q ∷ w) p i d f =
      let n = N.firm p f.0 i d in
      (f.0, f.1 ∙ sym (next_kept p d), keep w q (subst (InTree A (chart_of A E)) (sym f.1) (goes p f.0 i)) (ap D f.1 ∙ n.0) f.2)

  below : (p : ℕ) (g : T) → toll_at R p ≡ Some g → (D p ≡ false) × (toll_at E p ≡ Some g)
  below p g e = either p
      (λ d. absurd (let f : None ≡ Some g = sym (M.gone p d).0 ∙ e in let z : ◌≡◌ {A = ℕ} 0 1 = cc in omega arith))
      (λ d. (d, sym (M.kept p d).0 ∙ e))

  within : (p : ℕ) (g : T) → toll_at R p ≡ Some g → Lt A g A.shut
  within p g e = S.below p g (below p g e).1

  opened : (x : ℕ) → (chart_of A R).is_open x ≡ true → InTree A (chart_of A R) x
  opened x e =
      let r = is_some_is (open_toll R x) e in
      let o = open_toll_lem R x r.0 r.1 in
      let k : toll_at R x ≡ Some r.0 = ap (λ o. then o (λ y. y.toll)) o.1 ∙ o.2 in
      subst (λ v. Lt A v A.shut) (sym (recorded_chart L R x r.0 k)) (within x r.0 k)

  pub mended_sound : Sound A m' t R
  mended_sound = record {
    size = M.size ∙ S.size ∙ places;
    aim = subst (λ (n : ℕ). t < n) places S.aim;
    below = within;
    linked = λ p g e ne. let k = below p g e in ap is_some (M.kept p k.0).1 ∙ S.linked p g k.1 ne;
    chart = record {
      target = g_kept t N.target ∙ S.chart.target;
      tree = tree;
      closed = closed;
      climbs = λ p i. let k = stayed p i in let c = S.chart.climbs p k.1 in (c.0, keep c.0 p k.1 k.0 c.1);
      opened = opened;
    };
  }
