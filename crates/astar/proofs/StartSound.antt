-- The tree at set-up is sound.
use Rattle.std.proofs.Common.{◌≡◌, ℕ, ◌<◌, ◌≤◌, true, cond, ◌⊎◌, List, [], replicate, is_some, Some, None, unwrap_or, sym, ap, ◌∙◌, subst, inl, inr, ⊎_elim, true≢false, arith}
use Rattle.std.specs.List.{slice_get}
use Rattle.std.proofs.lemmas.List.{length-set, length-replicate, get_or-replicate}
use Rattle.std.proofs.lemmas.Option.{slice_get-get_or, slice_get_past}
use Rattle.std.proofs.lemmas.Bool.{cases_lt, cases_eq}
use Rattle.toll.specs.Tolls.{Tolls, TollLaws, Le, Lt}
use Rattle.floor.specs.Meaning.{Meaning, then}
use Rattle.floor.proofs.FloorFacts.{nth_set_same, nth_set_other}
use Rattle.tree.specs.Tree.{Entry, toll_at, open_toll, blank_entry, start_tree}
use Rattle.astar.specs.Sound.{chart_of, cost, InTree, Sound}
use Rattle.astar.proofs.Order.{le_eq, not_both}

module _ {T : Type 0} {A : Tolls T} (L : TollLaws A) (m : Meaning T) (t : ℕ) (aim : t < m.places) where
  first : Entry T
  first = record { toll = Some A.zero; next = None; is_open = true }

  E : List (Entry T)
  E = start_tree A m.places t

  blanks : (p : ℕ) → (slice_get (replicate m.places (blank_entry {T = T})) p ≡ Some blank_entry) ⊎ (slice_get (replicate m.places (blank_entry {T = T})) p ≡ None)
  blanks p = ⊎_elim
      (λ (h : p < m.places). inl (slice_get-get_or (replicate m.places blank_entry) p blank_entry (omega (arith, length-replicate m.places (blank_entry {T = T}))) ∙ ap (λ e. Some e) (get_or-replicate m.places p blank_entry blank_entry h)))
      (λ (h : m.places ≤ p). inr (slice_get_past (replicate m.places blank_entry) p (omega (arith, length-replicate m.places (blank_entry {T = T}))))) (cases_lt p m.places)

  at_target : slice_get E t ≡ Some first
  unfolding E first
  at_target = ⊎_elim (λ e. nth_set_same (replicate m.places blank_entry) t first blank_entry e)
      (λ e. absurd (let k = slice_get-get_or (replicate m.places (blank_entry {T = T})) t blank_entry (omega (arith, length-replicate m.places (blank_entry {T = T}))) in let z : ◌≡◌ {A = ℕ} 0 1 = cc in omega arith)) (blanks t)

  elsewhere : (p : ℕ) → ¬ (p ≡ t) → (toll_at E p ≡ None) × (open_toll E p ≡ None)
  unfolding E first
  elsewhere p ne =
      let e = nth_set_other (replicate m.places blank_entry) t p first ne in
      ⊎_elim (λ b. (ap (λ o. then o (λ x. x.toll)) (e ∙ b), ap (λ o. then o (λ x. cond x.is_open x.toll None)) (e ∙ b)))
      (λ b. (ap (λ o. then o (λ x. x.toll)) (e ∙ b), ap (λ o. then o (λ x. cond x.is_open x.toll None)) (e ∙ b))) (blanks p)

  same : {C : Type 0} (a b : ℕ) → (a ≡ b → C) → (¬ (a ≡ b) → C) → C
  same a b f g = ⊎_elim f g (cases_eq a b)

  out_of : (p : ℕ) → ¬ (p ≡ t) → InTree A (chart_of A E) p → ⊥
  out_of p ne i = not_both L (le_eq L (sym (ap (λ o. unwrap_or o A.shut) (elsewhere p ne).0))) i

  zero_at : (chart_of A E).g t ≡ A.zero
  unfolding first
  zero_at = ap (λ o. unwrap_or (then o (λ x. x.toll)) A.shut) at_target

  open_at : (chart_of A E).is_open t ≡ true
  unfolding first
  open_at = ap (λ o. is_some (then o (λ x. cond x.is_open x.toll None))) at_target

  pub start_sound : Sound A m t (start_tree A m.places t)
  unfolding E first
  start_sound = record {
    size = length-set (replicate m.places blank_entry) t first ∙ length-replicate m.places blank_entry;
    aim = aim;
    below = λ p g e. same p t
        (λ q. let f : Some A.zero ≡ Some g = sym (ap (toll_at E) q ∙ ap (λ o. then o (λ x. x.toll)) at_target) ∙ e in let v : A.zero ≡ g = cc in subst (λ x. Lt A x A.shut) v L.differ)
        (λ ne. absurd (let f : None ≡ Some g = sym (elsewhere p ne).0 ∙ e in let z : ◌≡◌ {A = ℕ} 0 1 = cc in omega arith));
    linked = λ p g e ne. absurd (let f : None ≡ Some g = sym (elsewhere p ne).0 ∙ e in let z : ◌≡◌ {A = ℕ} 0 1 = cc in omega arith);
    chart = record {
      target = zero_at;
      tree = λ p ne i. absurd (out_of p ne i);
      closed = λ x e u. same x t
          (λ q. absurd (true≢false (sym open_at ∙ ap (chart_of A E).is_open (sym q) ∙ e)))
          (λ ne. subst (λ v. Le A ((chart_of A E).g u) (A.join (cost A m u x) v)) (sym (ap (λ o. unwrap_or o A.shut) (elsewhere x ne).0)) (subst (Le A ((chart_of A E).g u)) (sym (L.shut_right _)) (L.greatest _)));
      climbs = λ p i. same p t (λ q. ([], q)) (λ ne. absurd (out_of p ne i));
      opened = λ x e. same x t
          (λ q. subst (InTree A (chart_of A E)) (sym q) (subst (λ v. Lt A v A.shut) (sym zero_at) L.differ))
          (λ ne. absurd (true≢false (sym e ∙ ap is_some (elsewhere x ne).1)));
    };
  }
