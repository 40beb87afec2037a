-- Lists made place by place, tests on some item, and the entries of a repaired tree.
use Rattle.std.proofs.Common.{◌≡◌, ℕ, zero, suc, ◌+◌, Bool, true, false, cond, ◌&&◌, ◌⊎◌, List, [], ◌∷◌, length, is_some, Some, None, Option, sym, refl, ap, ◌∙◌, inl, inr, ⊎_elim, true≢false, arith}
use Rattle.std.specs.Option.{option_map}
use Rattle.std.specs.List.{slice_get}
use Rattle.std.proofs.lemmas.Bool.{or_cases, or_parts, or_left, or_right}
use Rattle.floor.specs.Rising.{In}
use Rattle.floor.specs.Meaning.{Meaning, then}
use Rattle.tree.specs.Tree.{Entry, toll_at, next_at, open_toll, blank_entry, marked, opened_if}
use Rattle.repair.specs.Cut.{some, by_place_from, by_place, beside_marked, cut_at}

module _ {X Y : Type 0} (f : ℕ → X → Y) where
  nth_from : (xs : List X) (n p : ℕ) → slice_get (by_place_from f n xs) p ≡ option_map (f (n + p)) (slice_get xs p)
  nth_from [] n p = refl
  nth_from (x ∷ xs) n zero = ap (λ (j : ℕ). Some (f j x)) (omega arith)
  nth_from (x ∷ xs) n (suc p) = nth_from xs (suc n) p ∙ ap (λ (j : ℕ). option_map (f j) (slice_get xs p)) (omega arith)

  -- an item, by its place number
  pub nth_by_place : (xs : List X) (p : ℕ) → slice_get (by_place f xs) p ≡ option_map (f p) (slice_get xs p)
  nth_by_place xs p = nth_from xs 0 p ∙ ap (λ (j : ℕ). option_map (f j) (slice_get xs p)) (omega arith)

  length_from : (xs : List X) (n : ℕ) → length (by_place_from f n xs) ≡ length xs
  length_from [] n = refl
  length_from (x ∷ xs) n = ap suc (length_from xs (suc n))

  pub length_by_place : (xs : List X) → length (by_place f xs) ≡ length xs
  length_by_place xs = length_from xs 0

  -- what follows from an item
  pub then_by_place : {Z : Type 0} (g : Y → Option Z) (xs : List X) (p : ℕ) → then (slice_get (by_place f xs) p) g ≡ then (slice_get xs p) (λ x. g (f p x))
  then_by_place {Z} g xs p = ap (λ o. then o g) (nth_by_place xs p) ∙ go (slice_get xs p)
    where
      go : (o : Option X) → then (option_map (f p) o) g ≡ then o (λ x. g (f p x))
      go None = refl
      go (Some x) = refl

module _ (f : ℕ → Bool) where
  pub some_none : (xs : List ℕ) → some f xs ≡ false → (x : ℕ) → In x xs → f x ≡ false
  some_none [] e x i = absurd i
  some_none (y ∷ xs) e x (inl q) = ap f q ∙ (or_parts (f y) (some f xs) e).0
  some_none (y ∷ xs) e x (inr i) = some_none xs (or_parts (f y) (some f xs) e).1 x i

  pub some_in : (xs : List ℕ) (x : ℕ) → In x xs → f x ≡ true → some f xs ≡ true
  some_in [] x i e = absurd i
  some_in (y ∷ xs) x (inl q) e = or_left (f y) (some f xs) (ap f (sym q) ∙ e)
  some_in (y ∷ xs) x (inr i) e = or_right (f y) (some f xs) (some_in xs x i e)

  pub some_is : (xs : List ℕ) → some f xs ≡ true → (x : ℕ) × In x xs × (f x ≡ true)
  some_is [] e = absurd (true≢false (sym e))
  some_is (y ∷ xs) e = ⊎_elim (λ h. (y, inl refl, h)) (λ h. let r = some_is xs h in (r.0, inr r.1, r.2)) (or_cases (f y) (some f xs) e)

-- R is E without the places of D, and with those of W opened, where they are in the tree
pub record Mended {T : Type 0} (D W : ℕ → Bool) (E R : List (Entry T)) : Type 0 where
  pub size : length R ≡ length E
  pub gone : (p : ℕ) → D p ≡ true → (toll_at R p ≡ None) × (open_toll R p ≡ None)
  pub kept : (p : ℕ) → D p ≡ false → (toll_at R p ≡ toll_at E p) × (next_at R p ≡ next_at E p)
  pub quiet : (p : ℕ) → D p ≡ false → is_some (open_toll R p) ≡ false → (is_some (open_toll E p) ≡ false) × ((toll_at E p ≡ None) ⊎ (W p ≡ false))

module _ {T : Type 0} where
  -- the toll of an open entry
  abbrev waits : Entry T → Option T
  waits e = cond e.is_open e.toll None

  opened_toll : (b : Bool) (e : Entry T) → (opened_if b e).toll ≡ e.toll
  opened_toll b e = go (b && is_some e.toll)
    where
      go : (c : Bool) → (cond c (record { toll = e.toll; next = e.next; is_open = true }) e).toll ≡ e.toll
      go true = refl
      go false = refl

  opened_next : (b : Bool) (e : Entry T) → (opened_if b e).next ≡ e.next
  opened_next b e = go (b && is_some e.toll)
    where
      go : (c : Bool) → (cond c (record { toll = e.toll; next = e.next; is_open = true }) e).next ≡ e.next
      go true = refl
      go false = refl

  -- an entry that is still closed was closed, and nothing asked for it to be opened
  opened_quiet : (b : Bool) (e : Entry T) → is_some (waits (opened_if b e)) ≡ false → (is_some (waits e) ≡ false) × ((e.toll ≡ None) ⊎ (b ≡ false))
  opened_quiet false e h = (h, inr refl)
  opened_quiet true e h = go e.toll refl
    where
      never : (c : Bool) (o : Option T) → o ≡ None → is_some (cond c o None) ≡ false
      never true o q = ap is_some q
      never false o q = refl

      go : (o : Option T) → e.toll ≡ o → (is_some (waits e) ≡ false) × ((e.toll ≡ None) ⊎ (true ≡ false))
      go None q = (never e.is_open e.toll q, inl q)
      go (Some g) q = absurd (true≢false (sym (ap (λ c. is_some (waits (cond c (record { toll = e.toll; next = e.next; is_open = true }) e))) (ap is_some q) ∙ ap is_some q) ∙ h))

  -- the same of what may be an entry
  each : {Z : Type 0} (f g : Entry T → Option Z) (o : Option (Entry T)) → ((e : Entry T) → f e ≡ g e) → then o f ≡ then o g
  each f g None k = refl
  each f g (Some e) k = k e

  quiet_at : (b : Bool) (o : Option (Entry T)) → is_some (then o (λ e. waits (opened_if b e))) ≡ false → (is_some (then o waits) ≡ false) × ((then o (λ e. e.toll) ≡ None) ⊎ (b ≡ false))
  quiet_at b None h = (refl, inl refl)
  quiet_at b (Some e) h = opened_quiet b e h

  -- marked places leave, and places beside them are opened
  pub cut_mended : (m : Meaning T) (ms : List Bool) (E : List (Entry T)) → Mended (marked ms) (beside_marked m ms) E (by_place (cut_at m ms) E)
  cut_mended m ms E = record {
    size = length_by_place (cut_at m ms) E;
    gone = λ p d. (at (λ e. e.toll) p ∙ none (λ e. e.toll) p d refl, at waits p ∙ none waits p d refl);
    kept = λ p d. (
      at (λ e. e.toll) p ∙ same (λ e. e.toll) p d (λ e. opened_toll (beside_marked m ms p) e),
      at (λ e. e.next) p ∙ same (λ e. e.next) p d (λ e. opened_next (beside_marked m ms p) e),
    );
    quiet = λ p d h. quiet_at (beside_marked m ms p) (slice_get E p) (ap is_some (sym (at waits p ∙ each (λ e. waits (cut_at m ms p e)) (λ e. waits (opened_if (beside_marked m ms p) e)) (slice_get E p) (λ e. ap (λ c. waits (cond c blank_entry (opened_if (beside_marked m ms p) e))) d))) ∙ h);
  }
    where
      at : {Z : Type 0} (g : Entry T → Option Z) (p : ℕ) → then (slice_get (by_place (cut_at m ms) E) p) g ≡ then (slice_get E p) (λ e. g (cut_at m ms p e))
      at g p = then_by_place (cut_at m ms) g E p

      none : {Z : Type 0} (g : Entry T → Option Z) (p : ℕ) → marked ms p ≡ true → g blank_entry ≡ None → then (slice_get E p) (λ e. g (cut_at m ms p e)) ≡ None
      none {Z} g p d z = go (slice_get E p)
        where
          go : (o : Option (Entry T)) → then o (λ e. g (cut_at m ms p e)) ≡ None
          go None = refl
          go (Some e) = ap (λ c. g (cond c blank_entry (opened_if (beside_marked m ms p) e))) d ∙ z

      same : {Z : Type 0} (g : Entry T → Option Z) (p : ℕ) → marked ms p ≡ false → ((e : Entry T) → g (opened_if (beside_marked m ms p) e) ≡ g e) → then (slice_get E p) (λ e. g (cut_at m ms p e)) ≡ then (slice_get E p) g
      same g p d k = each (λ e. g (cut_at m ms p e)) g (slice_get E p) (λ e. ap (λ c. g (cond c blank_entry (opened_if (beside_marked m ms p) e))) d ∙ k e)

  -- places that pass the test are opened
  pub opened_mended : (W : ℕ → Bool) (E : List (Entry T)) → Mended (λ _. false) W E (by_place (λ p e. opened_if (W p) e) E)
  opened_mended W E = record {
    size = length_by_place (λ p e. opened_if (W p) e) E;
    gone = λ p d. absurd (true≢false (sym d));
    kept = λ p d. (
      at (λ e. e.toll) p ∙ each (λ e. (opened_if (W p) e).toll) (λ e. e.toll) (slice_get E p) (λ e. opened_toll (W p) e),
      at (λ e. e.next) p ∙ each (λ e. (opened_if (W p) e).next) (λ e. e.next) (slice_get E p) (λ e. opened_next (W p) e),
    );
    quiet = λ p d h. quiet_at (W p) (slice_get E p) (ap is_some (sym (at waits p)) ∙ h);
  }
    where
      at : {Z : Type 0} (g : Entry T → Option Z) (p : ℕ) → then (slice_get (by_place (λ p e. opened_if (W p) e) E) p) g ≡ then (slice_get E p) (λ e. g (opened_if (W p) e))
      at g p = then_by_place (λ p e. opened_if (W p) e) g E p

  pub same_mended : (E : List (Entry T)) → Mended (λ _. false) (λ _. false) E E
  same_mended E = record {
    size = refl;
    gone = λ p d. absurd (true≢false (sym d));
    kept = λ p d. (refl, refl);
    quiet = λ p d h. (h, inr refl);
  }
