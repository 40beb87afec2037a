-- A solved search has the least toll of all ways, and its recorded way has that toll.
use Rattle.std.proofs.Common.{◌≡◌, ℕ, Bool, true, false, ◌⊎◌, List, [], ◌∷◌, sym, refl, ap, ◌∙◌, inl, inr, true≢false}
use Rattle.toll.specs.Tolls.{Tolls, TollLaws, Le}
use Rattle.tree.specs.Ways.{ends}
use Rattle.astar.specs.Sound.{Chart, InTree, Follows, SoundChart}
use Rattle.astar.proofs.Charts.{toll, Estimate, Solved}
use Rattle.astar.proofs.Order.{split, le_eq, le_trans, le_lt, grows}

module _ {T : Type 0} {A : Tolls T} (L : TollLaws A) {c : ℕ → ℕ → T} {h : ℕ → ℕ → T} (E : Estimate A c h) {t : ℕ} {S : Chart T} (I : SoundChart A c t S) where
  -- what the estimate carries over a lane
  over : (s p q : ℕ) (d : T) → Le A (A.join (h s q) d) (A.join (h s p) (A.join (c p q) d))
  over s p q d = rw (← L.assoc (h s p) (c p q) d) (L.mono_left _ _ _ (E.step s p q))

  walk : (s : ℕ) (m : T) → ((x : ℕ) → S.is_open x ≡ true → Le A m (A.join (h s x) (S.g x))) → (w : List ℕ) (p : ℕ) → ends p w ≡ t → Le A (S.g p) (toll A c p w) ⊎ Le A m (A.join (h s p) (toll A c p w))
  walk s m bound [] p e = inl (le_eq L (ap S.g e ∙ I.target))
  walk s m bound (q ∷ w) p e = go (S.is_open q) refl (walk s m bound w q e)
    where
      go : (b : Bool) → S.is_open q ≡ b → Le A (S.g q) (toll A c q w) ⊎ Le A m (A.join (h s q) (toll A c q w)) → Le A (S.g p) (toll A c p (q ∷ w)) ⊎ Le A m (A.join (h s p) (toll A c p (q ∷ w)))
      go b e (inr k) = inr (le_trans L k (over s p q _))
      go false e (inl k) = inl (le_trans L (I.closed q e p) (L.mono_right _ _ (c p q) k))
      go true e (inl k) = inr (le_trans L (le_trans L (bound q e) (L.mono_right _ _ (h s q) k)) (over s p q _))

  -- optimal
  pub optimal : (s : ℕ) → Solved A h s S → (w : List ℕ) → ends s w ≡ t → Le A (S.g s) (toll A c s w)
  optimal s sol w e = go (walk s (S.g s) (λ x o. (sol.bound x o).far) w s e)
    where
      go : Le A (S.g s) (toll A c s w) ⊎ Le A (S.g s) (A.join (h s s) (toll A c s w)) → Le A (S.g s) (toll A c s w)
      go (inl k) = k
      go (inr k) = rw (E.self s, L.zero_left _) at k

  -- no way
  pub no_way : (s : ℕ) → ¬ (InTree A S s) → ((x : ℕ) → S.is_open x ≡ false) → (w : List ℕ) → ends s w ≡ t → toll A c s w ≡ A.shut
  no_way s out none w e = L.antisym _ _ (L.greatest _) (le_trans L far (go (walk s A.shut (λ x o. absurd (true≢false (sym o ∙ none x))) w s e)))
    where
      far : Le A A.shut (S.g s)
      far = split A A.shut (S.g s) (λ k. k) (λ k. absurd (out k))

      go : Le A (S.g s) (toll A c s w) ⊎ Le A A.shut (A.join (h s s) (toll A c s w)) → Le A (S.g s) (toll A c s w)
      go (inl k) = k
      go (inr k) = le_trans L (L.greatest _) (rw (E.self s, L.zero_left _) at k)

  -- the toll falls along the recorded way
  pub falls : (p : ℕ) → ¬ (p ≡ t) → InTree A S p → Le A (S.g (S.next p)) (S.g p)
  falls p n i = le_trans L (grows L (c p (S.next p)) _) (I.tree p n i)

  recorded : (s : ℕ) → Solved A h s S → (w : List ℕ) (p : ℕ) → InTree A S p → Le A (A.join (h s p) (S.g p)) (S.g s) → Follows S.next t p w → toll A c p w ≡ S.g p
  recorded s sol [] p i k f = sym (ap S.g f ∙ I.target)
  recorded s sol (q ∷ w) p i k f = ap (A.join (c p q)) (recorded s sol w q (rw f.1 inside) (rw f.1 near) f.2) ∙ rw f.1 (exact (S.is_open next) refl)
    where
      next : ℕ
      next = S.next p

      d : T
      d = A.join (c p next) (S.g next)

      drop : Le A d (S.g p)
      drop = I.tree p f.0 i

      inside : InTree A S next
      inside = le_lt L (falls p f.0 i) i

      near : Le A (A.join (h s next) (S.g next)) (S.g s)
      near = le_trans L (over s p next _) (le_trans L (L.mono_right _ _ (h s p) drop) k)

      below : Le A (S.g p) (S.g s)
      below = le_trans L (grows L (h s p) _) k

      exact : (b : Bool) → S.is_open next ≡ b → d ≡ S.g p
      exact false e = L.antisym _ _ drop (I.closed next e p)
      exact true e = L.antisym _ _ drop (le_trans L (le_trans L below ((sol.bound next e).near near)) (grows L (c p next) _))

  -- exact
  pub exact : (s : ℕ) → Solved A h s S → (w : List ℕ) → Follows S.next t s w → toll A c s w ≡ S.g s
  exact s sol w f = recorded s sol w s sol.inside (le_eq L (rw (E.self s) (L.zero_left _))) f
