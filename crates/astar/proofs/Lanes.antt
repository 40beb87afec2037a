-- The lane between two places, on a lawful floor.
use Rattle.std.proofs.Common.{◌≡◌, ℕ, ◌<◌, true, false, cond, List, [], ◌∷◌, is_some, Some, None, unwrap_or, sym, ap, ◌∙◌, subst, inl, inr, ⊎_elim, arith}
use Rattle.std.specs.Option.{option_map}
use Rattle.std.specs.List.{slice_get}
use Rattle.std.proofs.lemmas.Bool.{cases_Bool}
use Rattle.toll.specs.Tolls.{Tolls, TollLaws, Le}
use Rattle.floor.specs.Rising.{In}
use Rattle.floor.specs.Meaning.{Lane, Spot, Meaning, then, has, lane_toll, out_of}
use Rattle.floor.specs.FloorLaws.{FloorLaws}
use Rattle.floor.proofs.FloorFacts.{has_part, part_has}
use Rattle.tree.specs.Ways.{entering, lane_between, toll_between}
use Rattle.tree.proofs.Items.{nth_there}
use Rattle.tree.proofs.Options.{there?, is_some_is}
use Rattle.astar.specs.Sound.{cost}
use Rattle.astar.proofs.Charts.{Estimate}

module _ {T : Type 0} (m : Meaning T) (q : ℕ) where
  entering_in : (ls : List ℕ) (l : ℕ) → entering m q ls ≡ Some l → In l ls × (has (λ x. x.enters) q (m.lane l) ≡ true)
  entering_in [] l e = absurd (let z : ◌≡◌ {A = ℕ} 0 1 = cc in omega arith)
  entering_in (k ∷ ls) l e =
      ⊎_elim (λ (t : has (λ x. x.enters) q (m.lane k) ≡ true).
      let r : k ≡ l = (let f : Some k ≡ Some l = subst (λ b. cond b (Some k) (entering m q ls) ≡ Some l) t e in cc) in (inl (sym r), subst (λ (n : ℕ). has (λ x. x.enters) q (m.lane n) ≡ true) r t))
      (λ (t : has (λ x. x.enters) q (m.lane k) ≡ false).
      let f = subst (λ b. cond b (Some k) (entering m q ls) ≡ Some l) t e in let r = entering_in ls l f in (inr r.0, r.1))
      (cases_Bool (has (λ x. x.enters) q (m.lane k)))

  entering_none : (ls : List ℕ) (l : ℕ) → entering m q ls ≡ None → In l ls → has (λ x. x.enters) q (m.lane l) ≡ true → ⊥
  entering_none [] l e i t = i
  entering_none (k ∷ ls) l e i t =
      ⊎_elim (λ (f : has (λ x. x.enters) q (m.lane k) ≡ true).
      let g = subst (λ b. cond b (Some k) (entering m q ls) ≡ None) f e in let z : ◌≡◌ {A = ℕ} 0 1 = cc in omega arith)
      (λ (f : has (λ x. x.enters) q (m.lane k) ≡ false).
      ⊎_elim (λ (r : l ≡ k). let z : ◌≡◌ {A = ℕ} 0 1 = (let u : true ≡ false = sym t ∙ ap (λ (n : ℕ). has (λ x. x.enters) q (m.lane n)) r ∙ f in cc) in omega arith)
      (λ i'. entering_none ls l (subst (λ b. cond b (Some k) (entering m q ls) ≡ None) f e) i' t) i)
      (cases_Bool (has (λ x. x.enters) q (m.lane k)))

-- lane l leads from p to q
pub record Leads {T : Type 0} (m : Meaning T) (p q l : ℕ) : Type 0 where
  pub lane : Lane
  pub there : m.lane l ≡ Some lane
  pub leaves : lane.leaves ≡ p
  pub enters : lane.enters ≡ q

module _ {T : Type 0} {A : Tolls T} {m : Meaning T} (F : FloorLaws A m) where
  pub between_leads : (p q l : ℕ) → lane_between m p q ≡ Some l → Leads m p q l
  between_leads p q l e =
      let r = entering_in m q (out_of m p) l e in
      let y = (F.out_listed p).only l r.0 in
      let z = has_part (λ x. x.enters) q (m.lane l) r.1 in
      let s : y.0 ≡ z.0 = (let f : Some y.0 ≡ Some z.0 = sym y.1 ∙ z.1 in cc) in
      record { lane = y.0; there = y.1; leaves = y.2; enters = ap (λ (x : Lane). x.enters) s ∙ z.2 }

  -- a lane from p to q is the one between them
  pub leads_between : (p q l : ℕ) → Leads m p q l → lane_between m p q ≡ Some l
  leads_between p q l d =
      ⊎_elim (λ (e : lane_between m p q ≡ None). absurd (entering_none m q (out_of m p) l e ((F.out_listed p).every l d.lane d.there d.leaves) (part_has (λ x. x.enters) q (m.lane l) d.lane d.there d.enters)))
      (λ r. let k = between_leads p q r.0 r.1 in
      r.1 ∙ ap (λ (n : ℕ). Some n) (F.single r.0 l k.lane d.lane k.there d.there (k.leaves ∙ sym d.leaves) (k.enters ∙ sym d.enters)))
      (there? (lane_between m p q))

  -- a lane that is there has a toll
  pub lane_toll_lem : (l : ℕ) (x : Lane) → m.lane l ≡ Some x → (c : T) × (lane_toll m l ≡ Some c)
  lane_toll_lem l x e =
      let s = nth_there m.spots x.spot (F.known_spot l x e) in
      (s.0.toll, ap (λ o. then o (λ y. option_map (λ (z : Spot T). z.toll) (slice_get m.spots y.spot))) e ∙ ap (option_map (λ (z : Spot T). z.toll)) s.1)

  pub leads_toll : (p q l : ℕ) (c : T) → Leads m p q l → lane_toll m l ≡ Some c → toll_between m p q ≡ Some c
  leads_toll p q l c d e = ap (λ o. then o (λ n. lane_toll m n)) (leads_between p q l d) ∙ e

-- what the floor's estimate says, zero where it says nothing
abbrev pub guess : {T : Type 0} → Tolls T → Meaning T → ℕ → ℕ → T
guess A m s p = unwrap_or (m.estimate s p) A.zero

module _ {T : Type 0} {A : Tolls T} (L : TollLaws A) {m : Meaning T} (F : FloorLaws A m) where
  pub self : (a : ℕ) → guess A m a a ≡ A.zero
  self a = ⊎_elim (λ (e : m.estimate a a ≡ None). ap (λ o. unwrap_or o A.zero) e)
      (λ r. let b = F.estimate_nowhere a a (ap is_some r.1) in ap (λ o. unwrap_or o A.zero) (F.estimate_here a b.0)) (there? (m.estimate a a))

  step : (a u v : ℕ) → Le A (guess A m a v) (A.join (guess A m a u) (cost A m u v))
  step a u v = ⊎_elim (λ (e : m.estimate a v ≡ None). subst (λ x. Le A x (A.join (guess A m a u) (cost A m u v))) (sym (ap (λ o. unwrap_or o A.zero) e)) (L.least _))
      (λ r. ⊎_elim
      (λ (e : lane_between m u v ≡ None). subst (λ x. Le A (guess A m a v) x) (sym (ap (λ o. A.join (guess A m a u) (unwrap_or (then o (λ l. lane_toll m l)) A.shut)) e ∙ L.shut_right _)) (L.greatest _))
      (λ k. let d = between_leads F u v k.0 k.1 in
      let t = lane_toll_lem F k.0 d.lane d.there in
      let b = F.estimate_nowhere a v (ap is_some r.1) in
      let w = is_some_is (m.estimate a u) (F.estimate_known a u b.0 (subst (λ (n : ℕ). n < m.places) d.leaves (F.leaves_place k.0 d.lane d.there))) in
      let h = F.estimate_step a k.0 d.lane t.0 w.0 r.0 d.there t.1 (ap (m.estimate a) d.leaves ∙ w.1) (ap (m.estimate a) d.enters ∙ r.1) in
      subst (λ x. Le A x (A.join (guess A m a u) (cost A m u v))) (sym (ap (λ o. unwrap_or o A.zero) r.1))
      (subst (λ x. Le A r.0 (A.join x (cost A m u v))) (sym (ap (λ o. unwrap_or o A.zero) w.1))
      (subst (λ x. Le A r.0 (A.join w.0 x)) (sym (ap (λ o. unwrap_or o A.shut) (leads_toll F u v k.0 t.0 d t.1))) h)))
      (there? (lane_between m u v)))
      (there? (m.estimate a v))

  -- the floor's estimate is one over its lanes
  pub estimate_holds : Estimate A (cost A m) (guess A m)
  estimate_holds = record { self = self; step = step }
