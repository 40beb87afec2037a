-- What the laws of a toll give of its order.
use Rattle.std.proofs.Common.{◌≡◌, Bool, true, false, sym, refl, ◌∙◌, true≢false}
use Rattle.toll.specs.Tolls.{Tolls, TollLaws, Le, Lt}
use Rattle.astar.specs.Search.{key_le}
use Rattle.astar.specs.declared.key.Key.{Key}
use Rattle.astar.proofs.Charts.{KeyLe}

-- a test's two answers, each with what it says
pub split : {T : Type 0} (A : Tolls T) {C : Type 0} (a b : T) → (Le A a b → C) → (Lt A b a → C) → C
split {T} A {C} a b f g = go (A.le a b) refl
  where
    go : (v : Bool) → A.le a b ≡ v → C
    go true e = f e
    go false e = g e

module _ {T : Type 0} {A : Tolls T} (L : TollLaws A) where
  pub le_refl : (a : T) → Le A a a
  le_refl a = split A a a (λ e. e) (λ e. L.total a a e)

  pub le_eq : {a b : T} → a ≡ b → Le A a b
  le_eq {a} {b} e = rw e (le_refl b)

  pub le_trans : {a b c : T} → Le A a b → Le A b c → Le A a c
  le_trans e f = L.trans _ _ _ e f

  pub not_both : {a b : T} → Le A a b → Lt A b a → ⊥
  not_both e f = true≢false (sym e ∙ f)

  pub le_lt : {a b c : T} → Le A a b → Lt A b c → Lt A a c
  le_lt {a} {b} {c} e f = split A c a (λ k. absurd (not_both (le_trans k e) f)) (λ k. k)

  pub lt_le : {a b c : T} → Lt A a b → Le A b c → Lt A a c
  lt_le {a} {b} {c} e f = split A c a (λ k. absurd (not_both (le_trans f k) e)) (λ k. k)

  -- a sum is at least its last part
  pub grows : (a b : T) → Le A b (A.join a b)
  grows a b = rw (L.zero_left b) at (L.mono_left A.zero a b (L.least a))

  pub key_trans : {k m n : Key T} → KeyLe A k m → KeyLe A m n → KeyLe A k n
  key_trans p q = record {
    far = le_trans p.far q.far;
    near = λ e. le_trans (p.near (le_trans q.far e)) (q.near (le_trans e p.far));
  }

  pub key_refl : (k : Key T) → KeyLe A k k
  key_refl k = record { far = le_refl _; near = λ _. le_refl _ }

  pub key_true : (k m : Key T) → key_le A k m ≡ true → KeyLe A k m
  key_true k m e = split A k.far m.far
      (λ p. split A m.far k.far
      (λ q. record { far = p; near = λ _. rw (p, q) at e })
      (λ q. record { far = p; near = λ r. absurd (not_both r q) }))
      (λ p. absurd (true≢false (sym (rw p at e))))

  pub key_false : (k m : Key T) → key_le A k m ≡ false → KeyLe A m k
  key_false k m e = split A k.far m.far
      (λ p. split A m.far k.far
      (λ q. record { far = q; near = λ _. L.total _ _ (rw (p, q) at e) })
      (λ q. absurd (true≢false (rw (p, q) at e))))
      (λ p. record { far = L.total _ _ p; near = λ r. absurd (not_both r p) })

  pub key_le_lem : (k m : Key T) → KeyLe A k m → key_le A k m ≡ true
  key_le_lem k m p = split A m.far k.far
      (λ q. rw (p.far, q) (p.near q))
      (λ q. rw (p.far, q))

  -- n is below m, so it is not at or above what m is at most
  pub key_lt : (n k m : Key T) → KeyLe A k m → key_le A k n ≡ false → key_le A m n ≡ false
  key_lt n k m p e = go (key_le A m n) refl
    where
      go : (b : Bool) → key_le A m n ≡ b → b ≡ false
      go true q = absurd (true≢false (sym (key_le_lem k n (key_trans p (key_true m n q))) ∙ e))
      go false q = refl
