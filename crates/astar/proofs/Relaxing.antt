-- What an expansion does to each place.
use Rattle.std.proofs.Common.{◌≡◌, ℕ, ◌+◌, ◌<◌, Bool, true, false, cond, not, ◌&&◌, ◌⊎◌, List, [], ◌∷◌, length, set, is_some, Some, None, Option, unwrap_or, sym, refl, ap, ◌∙◌, subst, inl, inr, ⊎_elim, arith}
use Rattle.std.specs.List.{slice_get}
use Rattle.std.proofs.lemmas.Bool.{cases_eq}
use Rattle.toll.specs.Tolls.{Tolls, TollLaws, Le, Lt}
use Rattle.floor.specs.Rising.{Rises, In}
use Rattle.floor.specs.Meaning.{Lane, Meaning, then, lane_toll, into}
use Rattle.floor.specs.FloorLaws.{FloorLaws}
use Rattle.floor.proofs.FloorFacts.{nth_set_same, nth_set_other}
use Rattle.floor.proofs.RisingFacts.{in_above}
use Rattle.tree.specs.Ways.{lane_between}
use Rattle.tree.specs.Tree.{Entry, toll_at, next_at, close_at}
use Rattle.astar.specs.Search.{improves, offer, offer_lane, relaxed, relax_from, expand}
use Rattle.astar.specs.Sound.{chart_of, cost}
use Rattle.astar.proofs.Charts.{Step}
use Rattle.astar.proofs.Order.{split, not_both, lt_le}
use Rattle.astar.proofs.Lanes.{Leads, between_leads, leads_between, lane_toll_lem, leads_toll}
use Rattle.tree.proofs.Options.{there?}
use Rattle.tree.proofs.Items.{nth_there}

-- an offer to one entry
abbrev offer_entry : {T : Type 0} → Tolls T → ℕ → T → Option (Entry T) → Option (Entry T)
offer_entry A x r None = None
offer_entry A x r (Some e) = cond (improves A e.toll r) (Some (record { toll = Some r; next = Some x; is_open = true })) (Some e)

module _ {T : Type 0} (A : Tolls T) (E : List (Entry T)) where
  offer_here : (u x : ℕ) (r : T) → slice_get (offer A u x r E) u ≡ offer_entry A x r (slice_get E u)
  offer_here u x r = go (slice_get E u) refl
    where
      new : Entry T
      new = record { toll = Some r; next = Some x; is_open = true }

      past : (F : List (Entry T)) (k : ℕ) → slice_get F k ≡ None → slice_get (set F k new) k ≡ None
      past [] k e = refl
      past (f ∷ F) Prim.Native.Nat.zero e = absurd (let z : ◌≡◌ {A = ℕ} 0 1 = cc in omega arith)
      past (f ∷ F) (Prim.Native.Nat.suc k) e = past F k e

      either : (b : Bool) (o : Option (Entry T)) → slice_get E u ≡ None → slice_get (cond b (set E u new) E) u ≡ None
      either true o e = past E u e
      either false o e = e

      taken : (b : Bool) (e : Entry T) → slice_get E u ≡ Some e → slice_get (cond b (set E u new) E) u ≡ cond b (Some new) (Some e)
      taken true e q = nth_set_same E u new e q
      taken false e q = q

      go : (o : Option (Entry T)) → slice_get E u ≡ o → slice_get (offer A u x r E) u ≡ offer_entry A x r o
      go None e = either (improves A (toll_at E u) r) None e
      go (Some e) q = taken (improves A (toll_at E u) r) e q ∙ ap (λ o. cond (improves A (then o (λ f. f.toll)) r) (Some new) (Some e)) q

  offer_else : (v x u : ℕ) (r : T) → ¬ (u ≡ v) → slice_get (offer A v x r E) u ≡ slice_get E u
  offer_else v x u r ne = go (improves A (toll_at E v) r)
    where
      go : (b : Bool) → slice_get (cond b (set E v (record { toll = Some r; next = Some x; is_open = true })) E) u ≡ slice_get E u
      go true = nth_set_other E v u _ ne
      go false = refl

module _ {T : Type 0} (A : Tolls T) (m : Meaning T) (x : ℕ) (g : T) (u : ℕ) where
  -- no lane of the list leaves u
  Off : List ℕ → Type 0
  Off ls = (l : ℕ) (y : Lane) → In l ls → m.lane l ≡ Some y → ¬ (y.leaves ≡ u)

  lane_else : (l : ℕ) (E : List (Entry T)) → ((y : Lane) → m.lane l ≡ Some y → ¬ (y.leaves ≡ u)) → slice_get (offer_lane A x g (m.lane l) (lane_toll m l) E) u ≡ slice_get E u
  lane_else l E off = go (m.lane l) (lane_toll m l) refl
    where
      go : (o : Option Lane) (c : Option T) → m.lane l ≡ o → slice_get (offer_lane A x g o c E) u ≡ slice_get E u
      go None c e = refl
      go (Some y) None e = refl
      go (Some y) (Some c) e = offer_else A E y.leaves x u (A.join c g) (λ q. off y e (sym q))

  relax_off : (ls : List ℕ) (E : List (Entry T)) → Off ls → slice_get (relaxed A m x g ls E) u ≡ slice_get E u
  unfolding Off
  relax_off [] E off = refl
  relax_off (l ∷ ls) E off =
      relax_off ls (offer_lane A x g (m.lane l) (lane_toll m l) E) (λ k y i. off k y (inr i)) ∙ lane_else l E (λ y. off l y (inl refl))

  -- lane l of the list leaves u, and no other does
  relax_on : (ls : List ℕ) (E : List (Entry T)) (b l : ℕ) (y : Lane) (c : T) → Rises b ls → In l ls → m.lane l ≡ Some y → y.leaves ≡ u → lane_toll m l ≡ Some c →
      ((k : ℕ) (z : Lane) → In k ls → m.lane k ≡ Some z → z.leaves ≡ u → k ≡ l) → slice_get (relaxed A m x g ls E) u ≡ offer_entry A x (A.join c g) (slice_get E u)
  unfolding Off
  relax_on [] E b l y c r i e q t only = absurd i
  relax_on (k ∷ ls) E b l y c r (inl s) e q t only =
      relax_off ls (offer_lane A x g (m.lane k) (lane_toll m k) E) (λ j z i f p. let w = only j z (inr i) f p in let a = in_above (k + 1) j ls r.1 i in omega arith)
      ∙ ap (λ F. slice_get F u) (ap (λ o. offer_lane A x g o (lane_toll m k) E) (ap m.lane (sym s) ∙ e) ∙ ap (λ o. offer_lane A x g (Some y) o E) (ap (lane_toll m) (sym s) ∙ t))
      ∙ ap (λ v. slice_get (offer A v x (A.join c g) E) u) q ∙ offer_here A E u x (A.join c g)
  relax_on (k ∷ ls) E b l y c r (inr i) e q t only =
      relax_on ls (offer_lane A x g (m.lane k) (lane_toll m k) E) (k + 1) l y c r.1 i e q t (λ j z h. only j z (inr h))
      ∙ ap (offer_entry A x (A.join c g)) (lane_else k E (λ z f p. let w = only k z (inl refl) f p in let a = in_above (k + 1) l ls r.1 i in omega arith))

-- a chart reads each place's entry
abbrev g_of : {T : Type 0} → Tolls T → Option (Entry T) → T
g_of A o = unwrap_or (then o (λ e. e.toll)) A.shut

abbrev next_of : {T : Type 0} → Option (Entry T) → ℕ
next_of o = unwrap_or (then o (λ e. e.next)) 0

abbrev open_of : {T : Type 0} → Option (Entry T) → Bool
open_of o = is_some (then o (λ e. cond e.is_open e.toll None))

-- an offer that does not improve, and one that does
module _ {T : Type 0} {A : Tolls T} (L : TollLaws A) (x : ℕ) (r : T) where
  kept_by : (h : Option T) → Le A (unwrap_or h A.shut) r → improves A h r ≡ false
  kept_by None k = ap not k
  kept_by (Some t) k = ap (λ b. not (A.le A.shut r) && not b) k ∙ go (not (A.le A.shut r))
    where
      go : (b : Bool) → (b && false) ≡ false
      go true = refl
      go false = refl

  made_by : (h : Option T) → Lt A r (unwrap_or h A.shut) → improves A h r ≡ true
  made_by None k = ap not k
  made_by (Some t) k =
      let s : A.le A.shut r ≡ false = lt_le L k (L.greatest t) in
      ap (λ b. not b && not (A.le t r)) s ∙ ap not k

  entry_kept : (o : Option (Entry T)) → Le A (g_of A o) r → offer_entry A x r o ≡ o
  entry_kept None k = refl
  entry_kept (Some e) k = ap (λ b. cond b (Some (record { toll = Some r; next = Some x; is_open = true })) (Some e)) (kept_by e.toll k)

  entry_made : (e : Entry T) → Lt A r (g_of A (Some e)) → offer_entry A x r (Some e) ≡ Some (record { toll = Some r; next = Some x; is_open = true })
  entry_made e k = ap (λ b. cond b (Some (record { toll = Some r; next = Some x; is_open = true })) (Some e)) (made_by e.toll k)

module _ {T : Type 0} {A : Tolls T} (L : TollLaws A) {m : Meaning T} (F : FloorLaws A m) (E : List (Entry T)) (size : length E ≡ m.places)
    (x : ℕ) (e₀ : Entry T) (gx : T) (at : slice_get E x ≡ Some e₀) (toll : e₀.toll ≡ Some gx) where
  shutx : Entry T
  shutx = record { toll = e₀.toll; next = e₀.next; is_open = false }

  E₁ : List (Entry T)
  E₁ = set E x shutx

  E₂ : List (Entry T)
  E₂ = relaxed A m x gx (into m x) E₁

  expand_is : expand A m x E ≡ E₂
  unfolding E₁ E₂ shutx
  expand_is = ap (λ o. relax_from A m x o (close_at E x (slice_get E x))) (ap (λ o. then o (λ e. e.toll)) at ∙ toll) ∙ ap (λ o. relaxed A m x gx (into m x) (close_at E x o)) at

  -- where no lane leads to x, only x itself is touched
  off : (u : ℕ) → lane_between m u x ≡ None → slice_get E₂ u ≡ slice_get E₁ u
  unfolding E₂ Off
  off u none = relax_off A m x gx u (into m x) E₁ (λ l y i e q.
      let w = (F.into_listed x).only l i in
      let s : w.0 ≡ y = (let f : Some w.0 ≡ Some y = sym w.1 ∙ e in cc) in
      let d : Leads m u x l = record { lane = y; there = e; leaves = q; enters = ap (λ (z : Lane). z.enters) (sym s) ∙ w.2 } in
      let f : None ≡ Some l = sym none ∙ leads_between F u x l d in
      let z : ◌≡◌ {A = ℕ} 0 1 = cc in omega arith)

  -- where a lane leads to x, its toll joined with that of x is offered
  on : (u l : ℕ) (c : T) → Leads m u x l → lane_toll m l ≡ Some c → slice_get E₂ u ≡ offer_entry A x (A.join c gx) (slice_get E₁ u)
  unfolding E₂
  on u l c d t = relax_on A m x gx u (into m x) E₁ 0 l d.lane c (F.into_listed x).rising ((F.into_listed x).every l d.lane d.there d.enters) d.there d.leaves t
      (λ k z i e q.
      let w = (F.into_listed x).only k i in
      let s : w.0 ≡ z = (let f : Some w.0 ≡ Some z = sym w.1 ∙ e in cc) in
      F.single k l z d.lane e d.there (q ∙ sym d.leaves) (ap (λ (v : Lane). v.enters) (sym s) ∙ w.2 ∙ sym d.enters))

  apart : (u l : ℕ) → Leads m u x l → ¬ (u ≡ x)
  apart u l d q = F.ends_differ l d.lane d.there (d.leaves ∙ q ∙ sym d.enters)

  else : (u : ℕ) → ¬ (u ≡ x) → slice_get E₁ u ≡ slice_get E u
  unfolding E₁
  else u ne = nth_set_other E x u shutx ne

  here : slice_get E₁ x ≡ Some shutx
  unfolding E₁
  here = nth_set_same E x shutx e₀ at

  gx_is : (chart_of A E).g x ≡ gx
  gx_is = ap (λ o. g_of A o) at ∙ ap (λ o. unwrap_or o A.shut) toll

  -- a lane from u to x, or the toll shut
  lane_or : {C : Type 0} (u : ℕ) → (lane_between m u x ≡ None → cost A m u x ≡ A.shut → C) → ((l : ℕ) (c : T) → Leads m u x l → lane_toll m l ≡ Some c → cost A m u x ≡ c → C) → C
  lane_or u f g = ⊎_elim (λ (n : lane_between m u x ≡ None). f n (ap (λ o. unwrap_or (then o (λ l. lane_toll m l)) A.shut) n))
      (λ k. let d = between_leads F u x k.0 k.1 in let t = lane_toll_lem F k.0 d.lane d.there in
      g k.0 t.0 d t.1 (ap (λ o. unwrap_or o A.shut) (leads_toll F u x k.0 t.0 d t.1))) (there? (lane_between m u x))

  -- the toll that an expansion of x offers to u
  offered : (u : ℕ) (c : T) → cost A m u x ≡ c → A.join (cost A m u x) ((chart_of A E).g x) ≡ A.join c gx
  offered u c e = ap (λ v. A.join v ((chart_of A E).g x)) e ∙ ap (A.join c) gx_is

  same_toll_lem : (u : ℕ) → Le A ((chart_of A E).g u) (A.join (cost A m u x) ((chart_of A E).g x)) → (u ≡ x → ⊥) → slice_get E₂ u ≡ slice_get E u
  same_toll_lem u k ne = lane_or u (λ none _. off u none ∙ else u ne)
      (λ l c d t q. on u l c d t ∙ ap (offer_entry A x (A.join c gx)) (else u ne) ∙ entry_kept L x (A.join c gx) (slice_get E u) (subst (Le A ((chart_of A E).g u)) (offered u c q) k))

  at_x : slice_get E₂ x ≡ Some shutx
  at_x = lane_or x (λ none _. off x none ∙ here) (λ l c d t q. absurd (apart x l d refl))

  made_at : (u : ℕ) → Lt A (A.join (cost A m u x) ((chart_of A E).g x)) ((chart_of A E).g u) → slice_get E₂ u ≡ Some (record { toll = Some (A.join (cost A m u x) ((chart_of A E).g x)); next = Some x; is_open = true })
  made_at u k = lane_or u
      (λ none q. absurd (not_both L (L.greatest ((chart_of A E).g u)) (subst (λ v. Lt A v ((chart_of A E).g u)) (ap (λ v. A.join v ((chart_of A E).g x)) q ∙ L.shut_left _) k)))
      (λ l c d t q.
      let b : u < length E = subst (λ (n : ℕ). u < n) (sym size) (subst (λ (n : ℕ). n < m.places) d.leaves (F.leaves_place l d.lane d.there)) in
      let e = nth_there E u b in
      let k' : Lt A (A.join c gx) (g_of A (Some e.0)) = subst (λ o. Lt A (A.join c gx) (g_of A o)) e.1 (subst (λ v. Lt A v ((chart_of A E).g u)) (offered u c q) k) in
      on u l c d t ∙ ap (offer_entry A x (A.join c gx)) (else u (apart u l d) ∙ e.1) ∙ entry_made L x (A.join c gx) e.0 k'
      ∙ ap (λ v. Some (record { toll = Some v; next = Some x; is_open = true })) (sym (offered u c q)))

  kept_pair : (u : ℕ) → Le A ((chart_of A E).g u) (A.join (cost A m u x) ((chart_of A E).g x)) → ((chart_of A E₂).g u ≡ (chart_of A E).g u) × ((chart_of A E₂).next u ≡ (chart_of A E).next u)
  unfolding shutx
  kept_pair u k = ⊎_elim
      (λ (q : u ≡ x). let f : slice_get E₂ u ≡ Some shutx = ap (slice_get E₂) q ∙ at_x in let o : slice_get E u ≡ Some e₀ = ap (slice_get E) q ∙ at in
      (ap (λ v. g_of A v) f ∙ sym (ap (λ v. g_of A v) o), ap (λ v. next_of v) f ∙ sym (ap (λ v. next_of v) o)))
      (λ ne. let f = same_toll_lem u k ne in (ap (λ v. g_of A v) f, ap (λ v. next_of v) f)) (cases_eq u x)

  step₂ : Step A (cost A m) x (chart_of A E) (chart_of A E₂)
  unfolding shutx
  step₂ = record {
    kept = kept_pair;
    made = λ u k. let f = made_at u k in (ap (λ v. g_of A v) f, ap (λ v. next_of v) f, ap (λ v. open_of v) f);
    closes = ap (λ v. open_of v) at_x;
    rest = λ u k ne. ap (λ v. open_of v) (same_toll_lem u k ne);
  }

  -- the definition's expansion is an expansion of charts
  pub expands : Step A (cost A m) x (chart_of A E) (chart_of A (expand A m x E))
  expands = subst (λ G. Step A (cost A m) x (chart_of A E) (chart_of A G)) (sym expand_is) step₂

  -- what an expansion records of a place: what it had, or a smaller toll by way of x
  pub record Improved (u : ℕ) : Type 0 where
    pub toll_is : toll_at (expand A m x E) u ≡ Some (A.join (cost A m u x) ((chart_of A E).g x))
    pub next_is : next_at (expand A m x E) u ≡ Some x
    pub lower : Lt A (A.join (cost A m u x) ((chart_of A E).g x)) ((chart_of A E).g u)

  pub entry_after : (u : ℕ) → ((toll_at (expand A m x E) u ≡ toll_at E u) × (next_at (expand A m x E) u ≡ next_at E u)) ⊎ Improved u
  unfolding shutx
  entry_after u = split A ((chart_of A E).g u) (A.join (cost A m u x) ((chart_of A E).g x))
      (λ k. inl (⊎_elim
      (λ (q : u ≡ x). let f : slice_get (expand A m x E) u ≡ Some shutx = ap (λ G. slice_get G u) expand_is ∙ ap (slice_get E₂) q ∙ at_x in let o : slice_get E u ≡ Some e₀ = ap (slice_get E) q ∙ at in
      (ap (λ v. then v (λ e. e.toll)) f ∙ sym (ap (λ v. then v (λ e. e.toll)) o), ap (λ v. then v (λ e. e.next)) f ∙ sym (ap (λ v. then v (λ e. e.next)) o)))
      (λ ne. let f = ap (λ G. slice_get G u) expand_is ∙ same_toll_lem u k ne in (ap (λ v. then v (λ e. e.toll)) f, ap (λ v. then v (λ e. e.next)) f)) (cases_eq u x)))
      (λ k. let f = ap (λ G. slice_get G u) expand_is ∙ made_at u k in inr (record { toll_is = ap (λ v. then v (λ e. e.toll)) f; next_is = ap (λ v. then v (λ e. e.next)) f; lower = k }))

  -- the whole entry of a place but x: what it was, or a smaller toll by way of x, and open
  pub record Lowered (u : ℕ) : Type 0 where
    pub entry_is : slice_get (expand A m x E) u ≡ Some (record { toll = Some (A.join (cost A m u x) ((chart_of A E).g x)); next = Some x; is_open = true })
    pub lower : Lt A (A.join (cost A m u x) ((chart_of A E).g x)) ((chart_of A E).g u)

  pub entry_else : (u : ℕ) → ¬ (u ≡ x) → (slice_get (expand A m x E) u ≡ slice_get E u) ⊎ Lowered u
  entry_else u ne = split A ((chart_of A E).g u) (A.join (cost A m u x) ((chart_of A E).g x))
      (λ k. inl (ap (λ G. slice_get G u) expand_is ∙ same_toll_lem u k ne))
      (λ k. inr (record { entry_is = ap (λ G. slice_get G u) expand_is ∙ made_at u k; lower = k }))
