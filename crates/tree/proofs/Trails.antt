-- The places of a recorded way, and the parts of one that the floor bears out.
use Rattle.std.proofs.Common.{◌≡◌, ℕ, zero, suc, ◌-◌, Bool, true, false, cond, eqb, List, [], ◌∷◌, length, Some, None, Option, unwrap_or, sym, refl, ap, ◌∙◌, subst, arith}
use Rattle.std.specs.Option.{option_map}
use Rattle.toll.specs.Tolls.{Tolls}
use Rattle.floor.specs.Meaning.{Meaning, then}
use Rattle.tree.specs.Tree.{Entry, toll_at, next_at}
use Rattle.tree.specs.Ways.{way_toll, recorded, same_toll, borne_out, trail}
use Rattle.tree.proofs.Options.{then_some, mapped_some, cond_some}

-- the places of a recorded way are its trail
module _ {T : Type 0} (E : List (Entry T)) (t : ℕ) where
  stop : (b : Bool) (p : ℕ) (o : Option (List ℕ)) (w : List ℕ) → ((v : List ℕ) → o ≡ Some v → trail E (suc (length v)) p ≡ p ∷ v) → cond b (Some []) o ≡ Some w → trail E (suc (length w)) p ≡ p ∷ w
  stop true p o w f e = let r : [] ≡ w = cc in subst (λ (v : List ℕ). trail E (suc (length v)) p ≡ p ∷ v) r refl
  stop false p o w f e = f w e

  pub recorded_trail : (n p : ℕ) (w : List ℕ) → recorded E t n p ≡ Some w → trail E (suc (length w)) p ≡ p ∷ w
  recorded_trail zero p w e = stop (eqb p t) p None w (λ v f. absurd (let z : ◌≡◌ {A = ℕ} 0 1 = cc in omega arith)) e
  recorded_trail (suc n) p w e = stop (eqb p t) p (then (next_at E p) (λ q. option_map (λ w. q ∷ w) (recorded E t n q))) w (λ v f.
      let a = then_some (next_at E p) (λ q. option_map (λ w. q ∷ w) (recorded E t n q)) v f in
      let b = mapped_some (recorded E t n a.0) (λ w. a.0 ∷ w) v a.2 in
      subst (λ (u : List ℕ). trail E (suc (length u)) p ≡ p ∷ u) b.2
      (ap (λ (q : ℕ). p ∷ trail E (suc (length b.0)) q) (ap (λ o. unwrap_or o p) a.1) ∙ ap (λ (u : List ℕ). p ∷ u) (recorded_trail n a.0 b.0 b.1))) e

  -- the parts of a way that the floor bears out
  pub borne_recorded : (A : Tolls T) (m : Meaning T) (s : ℕ) (p : List ℕ × T) → borne_out A m E t s ≡ Some p → (recorded E t (length E - 1) s ≡ Some p.0) × (way_toll A m s p.0 ≡ Some p.1) × (same_toll A p.1 (toll_at E s) ≡ true)
  borne_recorded A m s p e =
      let a = then_some (recorded E t (length E - 1) s) (λ w. then (way_toll A m s w) (λ c. cond (same_toll A c (toll_at E s)) (Some (w, c)) None)) p e in
      let b = then_some (way_toll A m s a.0) (λ c. cond (same_toll A c (toll_at E s)) (Some (a.0, c)) None) p a.2 in
      let d = cond_some (same_toll A b.0 (toll_at E s)) (a.0, b.0) p b.2 in
      let w : a.0 ≡ p.0 = ap (λ (q : List ℕ × T). q.0) d.1 in
      let c : b.0 ≡ p.1 = ap (λ (q : List ℕ × T). q.1) d.1 in (
        a.1 ∙ ap (λ (v : List ℕ). Some v) w,
        ap (way_toll A m s) (sym w) ∙ b.1 ∙ ap (λ v. Some v) c,
        ap (λ v. same_toll A v (toll_at E s)) (sym c) ∙ d.0,
      )
