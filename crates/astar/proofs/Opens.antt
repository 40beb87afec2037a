-- To open a place out keeps the invariant, and keys never fall.
use Rattle.std.proofs.Common.{◌≡◌, ℕ, true, false, ◌⊎◌, List, [], ◌∷◌, sym, ap, ◌∙◌, inl, inr, true≢false}
use native.Mathlib.Decide.{ℕ_discrete}
use Rattle.toll.specs.Tolls.{Tolls, TollLaws, Le, Lt}
use Rattle.floor.specs.Rising.{In}
use Rattle.astar.specs.Sound.{Chart, InTree, Follows, Climbs, SoundChart}
use Rattle.astar.specs.declared.key.Key.{Key}
use Rattle.astar.proofs.Charts.{Estimate, key, KeyLe, Step, Least, Front}
use Rattle.astar.proofs.Order.{split, le_refl, le_eq, le_trans, not_both, le_lt, lt_le, grows, key_trans, key_refl}

-- two numbers: alike or not
pub same : {C : Type 0} (a b : ℕ) → (a ≡ b → C) → (¬ (a ≡ b) → C) → C
same {C} a b f g = go (ℕ_discrete a b)
  where
    go : Dec (a ≡ b) → C
    go (yes e) = f e
    go (no n) = g n

module _ {T : Type 0} {A : Tolls T} (L : TollLaws A) {c : ℕ → ℕ → T} {x : ℕ} {S S' : Chart T} (P : Step A c x S S') where
  new : ℕ → T
  new u = A.join (c u x) (S.g x)

  case : {C : Type 0} (u : ℕ) → (Le A (S.g u) (A.join (c u x) (S.g x)) → C) → (Lt A (A.join (c u x) (S.g x)) (S.g u) → C) → C
  case u f g = split A (S.g u) (A.join (c u x) (S.g x)) f g

  lower : (u : ℕ) → Le A (S'.g u) (S.g u)
  lower u = case u (λ k. le_eq L (P.kept u k).0) (λ k. le_trans L (le_eq L (P.made u k).0) (L.total _ _ k))

  below : (u : ℕ) → Le A (S'.g u) (A.join (c u x) (S.g x))
  below u = case u (λ k. le_trans L (le_eq L (P.kept u k).0) k) (λ k. le_eq L (P.made u k).0)

  itself : S'.g x ≡ S.g x
  itself = (P.kept x (grows L _ _)).0

  module _ {t : ℕ} (I : SoundChart A c t S) (O : S.is_open x ≡ true) where
    target : S'.g t ≡ A.zero
    target = (P.kept t (rw I.target (L.least _))).0 ∙ I.target

    tree : (p : ℕ) → ¬ (p ≡ t) → InTree A S' p → Le A (A.join (c p (S'.next p)) (S'.g (S'.next p))) (S'.g p)
    tree p n i = case p
        (λ k. rw ((P.kept p k).0, (P.kept p k).1) (le_trans L (L.mono_right _ _ _ (lower (S.next p))) (I.tree p n (rw (P.kept p k).0 at i))))
        (λ k. rw ((P.made p k).0, (P.made p k).1, itself) (le_refl L _))

    closed : (y : ℕ) → S'.is_open y ≡ false → (u : ℕ) → Le A (S'.g u) (A.join (c u y) (S'.g y))
    closed y e u = case y
        (λ k. same y x
        (λ q. rw (q, itself) (below u))
        (λ n. rw (P.kept y k).0 (le_trans L (lower u) (I.closed y (sym (P.rest y k n) ∙ e) u))))
        (λ k. absurd (true≢false (sym (P.made y k).2 ∙ e)))

    -- what x climbs by is kept
    keep : (w : List ℕ) (p : ℕ) → Le A (S.g p) (S.g x) → InTree A S p → Follows S.next t p w → Follows S'.next t p w
    keep [] p m i f = f
    keep (q ∷ w) p m i f =
        let fall : Le A (S.g q) (S.g p) = rw (← f.1) at (le_trans L (grows L (c p (S.next p)) _) (I.tree p f.0 i)) in
        (f.0, f.1 ∙ sym (P.kept p (le_trans L m (grows L _ _))).1, keep w q (le_trans L fall m) (le_lt L fall i) f.2)

    from_x : Climbs S'.next t x
    from_x = let w = I.climbs x (I.opened x O) in (w.0, keep w.0 x (le_refl L _) (I.opened x O) w.1)

    join : (p : ℕ) → Lt A (A.join (c p x) (S.g x)) (S.g p) → ¬ (p ≡ t) → Climbs S'.next t p
    join p k n = (x ∷ from_x.0, (n, sym (P.made p k).1, from_x.1))

    climb : (w : List ℕ) (p : ℕ) → Follows S.next t p w → Climbs S'.next t p
    climb [] p f = ([], f)
    climb (q ∷ w) p f = let r = climb w q f.2 in case p
        (λ k. (q ∷ r.0, (f.0, f.1 ∙ sym (P.kept p k).1, r.1)))
        (λ k. join p k f.0)

    climbs : (p : ℕ) → InTree A S' p → Climbs S'.next t p
    climbs p i = case p
        (λ k. let w = I.climbs p (rw (P.kept p k).0 at i) in climb w.0 p w.1)
        (λ k. join p k (λ e. not_both L (L.least _) (rw (e, I.target) at k)))

    opened : (y : ℕ) → S'.is_open y ≡ true → InTree A S' y
    opened y e = case y
        (λ k. rw (P.kept y k).0 (same y x
        (λ q. rw q (I.opened x O))
        (λ n. I.opened y (sym (P.rest y k n) ∙ e))))
        (λ k. rw (P.made y k).0 (lt_le L k (L.greatest _)))

    -- kept by an expansion
    pub keeps : SoundChart A c t S'
    keeps = record { target = target; tree = tree; closed = closed; climbs = climbs; opened = opened }

  module _ {h : ℕ → ℕ → T} (E : Estimate A c h) (s : ℕ) (M : Least A (h s) S x) where
    ahead_new : (y : ℕ) → KeyLe A (key A (h s) S x) (record { far = A.join (h s y) (A.join (c y x) (S.g x)); near = A.join (c y x) (S.g x) })
    ahead_new y = record {
      far = rw (← L.assoc (h s y) (c y x) (S.g x)) (L.mono_left _ _ _ (E.step s y x));
      near = λ _. grows L _ _;
    }

    ahead : (y : ℕ) → S'.is_open y ≡ true → KeyLe A (key A (h s) S x) (key A (h s) S' y)
    ahead y e = case y
        (λ k. rw (P.kept y k).0 (same y x
        (λ q. absurd (true≢false (sym e ∙ (ap S'.is_open q ∙ P.closes))))
        (λ n. M.among y (sym (P.rest y k n) ∙ e))))
        (λ k. rw (P.made y k).0 (ahead_new y))

    module _ {K : Key T} {done : List ℕ} (F : Front A (h s) S K done) where
      -- keys never fall
      pub rises : KeyLe A K (key A (h s) S x)
      rises = F.ahead x M.itself

      -- a place is opened once
      pub once : ¬ (In x done)
      once d = true≢false (sym M.itself ∙ (F.behind x d).0)

      stays : (z : ℕ) → In z done → Le A (S.g z) (A.join (c z x) (S.g x))
      stays z d = case z (λ k. k)
          (λ k. (key_trans L (key_trans L (F.behind z d).1 rises) (ahead_new z)).near (L.mono_right _ _ _ (L.total _ _ k)))

      behind : (z : ℕ) → (z ≡ x) ⊎ In z done → (S'.is_open z ≡ false) × KeyLe A (key A (h s) S' z) (key A (h s) S x)
      behind z (inr d) = (
        P.rest z (stays z d) (λ e. once (rw e at d)) ∙ (F.behind z d).0,
        rw (P.kept z (stays z d)).0 (key_trans L (F.behind z d).1 rises),
      )
      behind z (inl e) = (ap S'.is_open e ∙ P.closes, rw (e, itself) (key_refl L (key A (h s) S x)))

      pub goes_on : Front A (h s) S' (key A (h s) S x) (x ∷ done)
      goes_on = record { ahead = ahead; behind = behind }
