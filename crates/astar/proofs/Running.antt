-- Runs of A*: no place twice, and the definition's search is such a run.
use Rattle.std.proofs.Common.{◌≡◌, ℕ, zero, suc, ◌+◌, ◌-◌, ◌<◌, ◌≤◌, Bool, true, false, cond, List, [], ◌∷◌, ◌++◌, length, set, is_some, Some, None, Option, unwrap_or, sym, refl, ap, ◌∙◌, subst, inl, inr, ⊎_elim, true≢false, arith}
use Rattle.std.specs.Option.{option_map}
use Rattle.std.specs.List.{slice_get}
use Rattle.std.proofs.lemmas.List.{length-set, length_push}
use Rattle.std.proofs.lemmas.Bool.{cases_order}
use Rattle.toll.specs.Tolls.{Tolls, TollLaws}
use Rattle.floor.specs.Rising.{In}
use Rattle.floor.specs.Meaning.{Meaning, Lane, then, lane_toll, into}
use Rattle.floor.specs.FloorLaws.{FloorLaws}
use Rattle.astar.specs.declared.key.Key.{Key}
use Rattle.tree.specs.Tree.{Entry, toll_at, open_toll, close_at}
use Rattle.astar.specs.Search.{key, choice, settles, solved, improves, offer, offer_lane, relaxed, relax_from, expand, Searched, after, ended, seek}
use Rattle.astar.specs.Runs.{Once, Chosen, Expands, none, more}
use Rattle.astar.specs.Sound.{chart_of, cost}
use Rattle.astar.specs.declared.outcome.Outcome.{Outcome}
use Rattle.astar.specs.declared.outcome.Outcome.TheVariants.{Solved, NoWay}
use Rattle.astar.proofs.Charts.{KeyLe, Step, Least, Front}
use Rattle.astar.proofs.Charts as chart
use Rattle.astar.proofs.Order.{key_true}
use Rattle.astar.proofs.Opens.{once, goes_on}
use Rattle.astar.proofs.Count.{few}
use Rattle.tree.proofs.Options.{there?, is_some_is}
use Rattle.astar.proofs.Lanes.{guess, estimate_holds}
use Rattle.astar.proofs.Relaxing.{expands}
use Rattle.astar.proofs.Choosing.{open_toll_lem, open_below, chosen, none_open}

-- an expansion keeps the number of entries
module _ {T : Type 0} (A : Tolls T) (m : Meaning T) (x : ℕ) where
  offer_length : (u : ℕ) (r : T) (E : List (Entry T)) → length (offer A u x r E) ≡ length E
  offer_length u r E = go (improves A (toll_at E u) r)
    where
      go : (b : Bool) → length (cond b (set E u (record { toll = Some r; next = Some x; is_open = true })) E) ≡ length E
      go true = length-set E u _
      go false = refl

  relaxed_length : (g : T) (ls : List ℕ) (E : List (Entry T)) → length (relaxed A m x g ls E) ≡ length E
  relaxed_length g [] E = refl
  relaxed_length g (l ∷ ls) E = relaxed_length g ls _ ∙ go (m.lane l) (lane_toll m l)
    where
      go : (o : Option Lane) (c : Option T) → length (offer_lane A x g o c E) ≡ length E
      go None c = refl
      go (Some y) None = refl
      go (Some y) (Some c) = offer_length y.leaves (A.join c g) E

  pub expand_length : (E : List (Entry T)) → length (expand A m x E) ≡ length E
  expand_length E = all (toll_at E x) (close_at E x (slice_get E x)) ∙ shut (slice_get E x)
    where
      all : (o : Option T) (F : List (Entry T)) → length (relax_from A m x o F) ≡ length F
      all None F = refl
      all (Some g) F = relaxed_length g (into m x) F

      shut : (o : Option (Entry T)) → length (close_at E x o) ≡ length E
      shut None = refl
      shut (Some e) = length-set E x _

-- where the loop of the run stands
pub record Going {T : Type 0} (A : Tolls T) (m : Meaning T) (s : ℕ) (E₀ E : List (Entry T)) (count : ℕ) : Type 0 where
  pub xs : List ℕ
  pub run : Expands A m s E₀ xs E
  pub steps : length xs ≡ count

-- what holds of the places that a run expands
pub record Fresh (n : ℕ) (xs done : List ℕ) : Type 0 where
  pub once : Once xs
  pub apart : (z : ℕ) → In z xs → In z done → ⊥
  pub below : (z : ℕ) → In z xs → z < n

module _ {T : Type 0} {A : Tolls T} (L : TollLaws A) {m : Meaning T} (F : FloorLaws A m) (s : ℕ) where
  -- the recorded toll of an open place, in the chart
  open_chart : (E : List (Entry T)) (y : ℕ) (g : T) → open_toll E y ≡ Some g → (chart_of A E).g y ≡ g
  open_chart E y g o = let r = open_toll_lem E y g o in ap (λ v. unwrap_or (then v (λ e. e.toll)) A.shut) r.1 ∙ ap (λ v. unwrap_or v A.shut) r.2

  pub key_chart : (E : List (Entry T)) (y : ℕ) (g : T) → open_toll E y ≡ Some g → chart.key A (guess A m s) (chart_of A E) y ≡ key A m s y g
  key_chart E y g o = ap (λ v. record { far = A.join (guess A m s y) v; near = v }) (open_chart E y g o)

  -- a chosen place has the least key of the chart
  pub chosen_least : (E : List (Entry T)) (x : ℕ) → Chosen A m s E x → Least A (guess A m s) (chart_of A E) x
  chosen_least E x c = record {
    itself = ap is_some c.is_open;
    among = λ y o. let r = is_some_is (open_toll E y) o in
        subst (λ k. KeyLe A k (chart.key A (guess A m s) (chart_of A E) y)) (sym (key_chart E x c.toll c.is_open))
        (subst (KeyLe A (key A m s x c.toll)) (sym (key_chart E y r.0 r.1)) (key_true L _ _ (c.smallest y r.0 r.1)));
  }

  pub chosen_step : (E : List (Entry T)) (x : ℕ) → length E ≡ m.places → Chosen A m s E x → Step A (cost A m) x (chart_of A E) (chart_of A (expand A m x E))
  chosen_step E x size c = let r = open_toll_lem E x c.toll c.is_open in expands L F E size x r.0 c.toll r.1 r.2

  pub fresh : {E E' : List (Entry T)} {xs : List ℕ} (K : Key T) (done : List ℕ) → length E ≡ m.places → Front A (guess A m s) (chart_of A E) K done → Expands A m s E xs E' → Fresh m.places xs done
  fresh K done size f none = record { once = tt; apart = λ z i. absurd i; below = λ z i. absurd i }
  fresh {E} K done size f (more x u c r) =
      let st = chosen_step E x size c in
      let le = chosen_least E x c in
      let est = estimate_holds L F in
      let k = fresh _ (x ∷ done) (expand_length A m x E ∙ size) (goes_on L st est s le f) r in
      record {
        once = (λ i. k.apart x i (inl refl), k.once);
        apart = λ z i d. ⊎_elim (λ (q : z ≡ x). once L st est s le f (subst (λ (n : ℕ). In n done) q d)) (λ i'. k.apart z i' (inr d)) i;
        below = λ z i. ⊎_elim (λ (q : z ≡ x). subst (λ (n : ℕ). n < m.places) (sym q) (subst (λ (n : ℕ). x < n) size (open_below E x c.toll c.is_open))) (λ i'. k.below z i') i;
      }

  -- no place twice, on any tree
  pub run_once : {E E' : List (Entry T)} {xs : List ℕ} → length E ≡ m.places → Expands A m s E xs E' → Fresh m.places xs []
  run_once {E} size r = fresh (record { far = A.zero; near = A.zero }) [] size (record { ahead = λ y o. record { far = L.least _; near = λ _. L.least _ }; behind = λ z i. absurd i }) r

  -- so a run has at most as many steps as there are places
  pub run_few : {E E' : List (Entry T)} {xs : List ℕ} → length E ≡ m.places → Expands A m s E xs E' → length xs ≤ m.places
  run_few size r = let k = run_once size r in few m.places _ k.once k.below

  -- one step more at the end
  pub run_more : {E E' : List (Entry T)} {xs : List ℕ} (x : ℕ) → Expands A m s E xs E' → solved A m s E' ≡ false → Chosen A m s E' x → Expands A m s E (xs ++ x ∷ []) (expand A m x E')
  run_more x none u c = more x u c none
  run_more x (more y v d r) u c = more y v d (run_more x r u c)

  pub run_length : {E E' : List (Entry T)} {xs : List ℕ} → Expands A m s E xs E' → length E' ≡ length E
  run_length none = refl
  run_length {E} (more x u c r) = run_length r ∙ expand_length A m x E

  pub going_none : (E : List (Entry T)) → Going A m s E E 0
  going_none E = record { xs = []; run = none; steps = refl }

  pub going_more : {E₀ E E' : List (Entry T)} {count : ℕ} (x : ℕ) → Going A m s E₀ E count → solved A m s E ≡ false → Chosen A m s E x → E' ≡ expand A m x E → Going A m s E₀ E' (count + 1)
  going_more {E₀} x k u c e = record {
    xs = k.xs ++ x ∷ [];
    run = subst (Expands A m s E₀ (k.xs ++ x ∷ [])) (sym e) (run_more x k.run u c);
    steps = length_push k.xs x ∙ ap (λ (n : ℕ). n + 1) k.steps;
  }

  -- only one place can be chosen
  unique : (E : List (Entry T)) (x y : ℕ) → Chosen A m s E x → Chosen A m s E y → x ≡ y
  unique E x y c d = ⊎_elim (λ (q : x ≡ y). q) (⊎_elim
      (λ (h : x < y). absurd (true≢false (sym (c.smallest y d.toll d.is_open) ∙ d.first x c.toll c.is_open h)))
      (λ (h : y < x). absurd (true≢false (sym (d.smallest x c.toll c.is_open) ∙ c.first y d.toll d.is_open h)))) (cases_order x y)

  pub choice_is : (E : List (Entry T)) (x : ℕ) → Chosen A m s E x → (k : Key T) × (choice A m s E ≡ Some (x, k))
  choice_is E x c = ⊎_elim
      (λ (e : choice A m s E ≡ None). absurd (let f : None ≡ Some c.toll = sym (none_open L m s E e x) ∙ c.is_open in let z : ◌≡◌ {A = ℕ} 0 1 = cc in omega arith))
      (λ r. (r.0.1, r.1 ∙ ap (λ (n : ℕ). Some (n, r.0.1)) (unique E r.0.0 x (chosen L m s E r.0 r.1) c))) (there? (choice A m s E))

  -- the places xs, and then what the rest of the run gives
  before : List ℕ → Searched T → Searched T
  before [] r = r
  before (x ∷ xs) r = after x (before xs r)

  before_ended : (xs : List ℕ) (o : Outcome) (E : List (Entry T)) → before xs (ended o E) ≡ record { outcome = o; tree = E; expanded = xs }
  unfolding before
  before_ended [] o E = refl
  before_ended (x ∷ xs) o E = ap (after x) (before_ended xs o E)

  goes : (n : ℕ) (E : List (Entry T)) (x : ℕ) → solved A m s E ≡ false → Chosen A m s E x → seek A m s (suc n) E ≡ after x (seek A m s n (expand A m x E))
  goes n E x u c =
      let k = choice_is E x c in
      ap (λ b. cond b (ended Solved E) (elim (choice A m s E) [ None ↦ ended NoWay E | Some d ↦ after d.0 (seek A m s n (expand A m d.0 E)) ])) u
      ∙ ap (λ o. elim o [ None ↦ ended NoWay E | Some d ↦ after d.0 (seek A m s n (expand A m d.0 E)) ]) k.1

  seek_run : {E E' : List (Entry T)} {xs : List ℕ} → Expands A m s E xs E' → (N n : ℕ) → N ≡ length xs + n → seek A m s N E ≡ before xs (seek A m s n E')
  unfolding before
  seek_run {E} none N n e = ap (λ (k : ℕ). seek A m s k E) (omega arith)
  seek_run (more x u c r) zero n e = absurd (omega arith)
  seek_run {E} (more x u c r) (suc N) n e = goes N E x u c ∙ ap (after x) (seek_run r N n (omega arith))

  halt_solved : (n : ℕ) (E : List (Entry T)) → solved A m s E ≡ true → seek A m s n E ≡ ended Solved E
  halt_solved zero E e = ap (λ b. cond b (ended Solved E) (ended NoWay E)) e
  halt_solved (suc n) E e = ap (λ b. cond b (ended Solved E) (elim (choice A m s E) [ None ↦ ended NoWay E | Some d ↦ after d.0 (seek A m s n (expand A m d.0 E)) ])) e

  halt_none : (n : ℕ) (E : List (Entry T)) → solved A m s E ≡ false → choice A m s E ≡ None → seek A m s n E ≡ ended NoWay E
  halt_none zero E u e = ap (λ b. cond b (ended Solved E) (ended NoWay E)) u
  halt_none (suc n) E u e =
      ap (λ b. cond b (ended Solved E) (elim (choice A m s E) [ None ↦ ended NoWay E | Some d ↦ after d.0 (seek A m s n (expand A m d.0 E)) ])) u
      ∙ ap (λ o. elim o [ None ↦ ended NoWay E | Some d ↦ after d.0 (seek A m s n (expand A m d.0 E)) ]) e

  -- a run that ends is the definition's search
  pub found : {E E' : List (Entry T)} {count : ℕ} → length E ≡ m.places → (k : Going A m s E E' count) → solved A m s E' ≡ true → seek A m s (length E) E ≡ record { outcome = Solved; tree = E'; expanded = k.xs }
  found {E} {E'} size k e =
      let f = run_few size k.run in
      seek_run k.run (length E) (length E - length k.xs) (omega arith) ∙ ap (before k.xs) (halt_solved _ E' e) ∙ before_ended k.xs Solved E'

  pub spent : {E E' : List (Entry T)} {count : ℕ} → length E ≡ m.places → (k : Going A m s E E' count) → solved A m s E' ≡ false → choice A m s E' ≡ None → seek A m s (length E) E ≡ record { outcome = NoWay; tree = E'; expanded = k.xs }
  spent {E} {E'} size k u e =
      let f = run_few size k.run in
      seek_run k.run (length E) (length E - length k.xs) (omega arith) ∙ ap (before k.xs) (halt_none _ E' u e) ∙ before_ended k.xs NoWay E'

  -- one more step is left while a place is chosen
  pub going_few : {E₀ E : List (Entry T)} {count : ℕ} (x : ℕ) → length E₀ ≡ m.places → Going A m s E₀ E count → solved A m s E ≡ false → Chosen A m s E x → count < m.places
  going_few x size k u c = let f = run_few size (run_more x k.run u c) in omega (arith, length_push k.xs x, k.steps)

-- the code's test for the end of a run, and its choice
module _ {T : Type 0} {A : Tolls T} (L : TollLaws A) (m : Meaning T) (s : ℕ) (E : List (Entry T)) {b : Bool} {k : Option (Key T)} {t : Option T} {c : Option (ℕ × Key T)}
    (e : b ≡ settles A k c) (f : k ≡ option_map (key A m s s) t) (h : t ≡ toll_at E s) (q : c ≡ choice A m s E) where
  pub solved_is : b ≡ solved A m s E
  solved_is = e ∙ ap (λ o. settles A o c) (f ∙ ap (option_map (key A m s s)) h) ∙ ap (settles A (option_map (key A m s s) (toll_at E s))) q

  -- the run goes on with the chosen place
  pub turns : (x : ℕ) (j : Key T) → b ≡ false → c ≡ Some (x, j) → (solved A m s E ≡ false) × Chosen A m s E x
  turns x j u r = (sym solved_is ∙ u, chosen L m s E (x, j) (sym q ∙ r))
