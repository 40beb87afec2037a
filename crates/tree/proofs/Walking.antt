-- The code's walk along next places against its definitions.
use Rattle.std.proofs.Common.{◌≡◌, ℕ, zero, suc, ◌+◌, ◌-◌, ◌<◌, ◌≤◌, Bool, true, false, cond, List, [], ◌∷◌, ◌++◌, length, take, drop, set, Some, None, Option, unwrap_or, sym, refl, ap, ◌∙◌, arith}
use Rattle.std.specs.Option.{option_map}
use Rattle.std.proofs.lemmas.List.{take_more_set, append_assoc, append-nil, take-append-drop, drop-set-lt, drop-drop}
use Rattle.std.proofs.lemmas.Bool.{eq-eqb, ne_eqb}
use Rattle.toll.specs.Tolls.{Tolls, TollLaws}
use Rattle.floor.specs.Meaning.{Meaning, then}
use Rattle.tree.specs.declared.record.Record.{Record}
use Rattle.tree.specs.Tree.{Entry, tree_of, toll_at, next_at}
use Rattle.tree.specs.Ways.{toll_between, way_toll, recorded, same_toll, borne_out, traced, walked, trail}
use Rattle.tree.specs.declared.trace.Trace.{Trace}
use Rattle.tree.proofs.Entries.{tree_length}

-- the same after one lane more
abbrev one_more : {T : Type 0} → Tolls T → T → Trace T → Trace T
one_more A c r = record { toll = A.join c r.toll; lanes = suc r.lanes }

-- a walk that goes on by one lane
module _ {T : Type 0} (A : Tolls T) (m : Meaning T) (E : List (Entry T)) (t : ℕ) where
  at_target : (n p : ℕ) → p ≡ t → walked A m E t n p ≡ Some (record { toll = A.zero; lanes = 0 })
  at_target zero p e = ap (λ b. then (cond b (Some []) None) (λ w. option_map (traced w) (way_toll A m p w))) (eq-eqb p t e)
  at_target (suc n) p e = ap (λ b. then (cond b (Some []) (then (next_at E p) (λ q. option_map (λ w. q ∷ w) (recorded E t n q)))) (λ w. option_map (traced w) (way_toll A m p w))) (eq-eqb p t e)

  spent : (p : ℕ) → (p ≡ t → ⊥) → walked A m E t 0 p ≡ None
  spent p ne = ap (λ b. then (cond b (Some []) None) (λ w. option_map (traced w) (way_toll A m p w))) (ne_eqb p t ne)

  on : (n p : ℕ) → (p ≡ t → ⊥) → walked A m E t (suc n) p ≡ then (then (next_at E p) (λ q. option_map (λ w. q ∷ w) (recorded E t n q))) (λ w. option_map (traced w) (way_toll A m p w))
  on n p ne = ap (λ b. then (cond b (Some []) (then (next_at E p) (λ q. option_map (λ w. q ∷ w) (recorded E t n q)))) (λ w. option_map (traced w) (way_toll A m p w))) (ne_eqb p t ne)

  no_next : (n p : ℕ) → (p ≡ t → ⊥) → next_at E p ≡ None → walked A m E t (suc n) p ≡ None
  no_next n p ne e = on n p ne ∙ ap (λ o. then (then o (λ q. option_map (λ w. q ∷ w) (recorded E t n q))) (λ w. option_map (traced w) (way_toll A m p w))) e

  further : (n p q : ℕ) → (p ≡ t → ⊥) → next_at E p ≡ Some q → walked A m E t (suc n) p ≡ then (option_map (λ w. q ∷ w) (recorded E t n q)) (λ w. option_map (traced w) (way_toll A m p w))
  further n p q ne e = on n p ne ∙ ap (λ o. then (then o (λ q. option_map (λ w. q ∷ w) (recorded E t n q))) (λ w. option_map (traced w) (way_toll A m p w))) e

  gap : (n p q : ℕ) → (p ≡ t → ⊥) → next_at E p ≡ Some q → toll_between m p q ≡ None → walked A m E t (suc n) p ≡ None
  gap n p q ne e f = further n p q ne e ∙ go (recorded E t n q)
    where
      go : (o : Option (List ℕ)) → then (option_map (λ w. q ∷ w) o) (λ w. option_map (traced w) (way_toll A m p w)) ≡ None
      go None = refl
      go (Some w) = ap (λ o. option_map (traced (q ∷ w)) (then o (λ c. option_map (λ d. A.join c d) (way_toll A m q w)))) f

  lane : (n p q : ℕ) (c : T) → (p ≡ t → ⊥) → next_at E p ≡ Some q → toll_between m p q ≡ Some c → walked A m E t (suc n) p ≡ option_map (one_more A c) (walked A m E t n q)
  lane n p q c ne e f = further n p q ne e ∙ go (recorded E t n q)
    where
      on_way : (w : List ℕ) (o : Option T) → option_map (traced (q ∷ w)) (option_map (λ d. A.join c d) o) ≡ option_map (one_more A c) (option_map (traced w) o)
      on_way w None = refl
      on_way w (Some d) = refl

      go : (o : Option (List ℕ)) → then (option_map (λ w. q ∷ w) o) (λ w. option_map (traced w) (way_toll A m p w)) ≡ option_map (one_more A c) (then o (λ w. option_map (traced w) (way_toll A m q w)))
      go None = refl
      go (Some w) = ap (λ o. option_map (traced (q ∷ w)) (then o (λ c. option_map (λ d. A.join c d) (way_toll A m q w)))) f ∙ on_way w (way_toll A m q w)

-- what a walk has come to, and what is still to come
abbrev pub so_far : {T : Type 0} → Tolls T → T → ℕ → Trace T → Trace T
so_far A c n r = record { toll = A.join c r.toll; lanes = n + r.lanes }

module _ {T : Type 0} {A : Tolls T} (L : TollLaws A) (m : Meaning T) (E : List (Entry T)) (t : ℕ) where
  pub walk_none : (n p : ℕ) (c : T) → c ≡ A.zero → option_map (so_far A c 0) (walked A m E t (n - 0) p) ≡ walked A m E t n p
  walk_none n p c e = let z : n - 0 ≡ n = omega arith in ap (λ (k : ℕ). option_map (so_far A c 0) (walked A m E t k p)) z ∙ go (walked A m E t n p)
    where
      go : (o : Option (Trace T)) → option_map (so_far A c 0) o ≡ o
      go None = refl
      go (Some r) = let a : A.join c r.toll ≡ r.toll = ap (λ v. A.join v r.toll) e ∙ L.zero_left r.toll in let b : 0 + r.lanes ≡ r.lanes = omega arith in λ i. Some (record { toll = a i; lanes = b i })

  module _ (N lanes p : ℕ) (c : T) (R : Option (Trace T)) (ne : p ≡ t → ⊥) (few : lanes < N) (inv : option_map (so_far A c lanes) (walked A m E t (N - lanes) p) ≡ R) where
    left : N - lanes ≡ suc (N - (lanes + 1))
    left = omega arith

    from : option_map (so_far A c lanes) (walked A m E t (suc (N - (lanes + 1))) p) ≡ R
    from = ap (λ (n : ℕ). option_map (so_far A c lanes) (walked A m E t n p)) (sym left) ∙ inv

    pub walk_no_next : next_at E p ≡ None → None ≡ R
    walk_no_next e = sym (ap (option_map (so_far A c lanes)) (no_next A m E t _ p ne e)) ∙ from

    pub walk_gap : (q : ℕ) → next_at E p ≡ Some q → toll_between m p q ≡ None → None ≡ R
    walk_gap q e f = sym (ap (option_map (so_far A c lanes)) (gap A m E t _ p q ne e f)) ∙ from

    pub walk_more : (q : ℕ) (d c' : T) → next_at E p ≡ Some q → toll_between m p q ≡ Some d → c' ≡ A.join c d → option_map (so_far A c' (lanes + 1)) (walked A m E t (N - (lanes + 1)) q) ≡ R
    walk_more q d c' e f j = ap (λ v. option_map (so_far A v (lanes + 1)) (walked A m E t (N - (lanes + 1)) q)) j ∙ sym (ap (option_map (so_far A c lanes)) (lane A m E t _ p q d ne e f) ∙ go (walked A m E t (N - (lanes + 1)) q)) ∙ from
      where
        go : (o : Option (Trace T)) → option_map (so_far A c lanes) (option_map (one_more A d) o) ≡ option_map (so_far A (A.join c d) (lanes + 1)) o
        go None = refl
        go (Some r) = let a : A.join c (A.join d r.toll) ≡ A.join (A.join c d) r.toll = sym (L.assoc c d r.toll) in let b : lanes + suc r.lanes ≡ (lanes + 1) + r.lanes = omega arith in λ i. Some (record { toll = a i; lanes = b i })

  pub walk_end : (n lanes p : ℕ) (c : T) (R : Option (Trace T)) → p ≡ t → option_map (so_far A c lanes) (walked A m E t n p) ≡ R → Some (record { toll = c; lanes = lanes }) ≡ R
  walk_end n lanes p c R e inv =
      let a : A.join c A.zero ≡ c = L.zero_right c in let b : lanes + 0 ≡ lanes = omega arith in
      sym (ap (option_map (so_far A c lanes)) (at_target A m E t n p e) ∙ (λ i. Some (record { toll = a i; lanes = b i }))) ∙ inv

-- where a walk stands: what it has come to, joined with what is still to come, is the whole way
pub record Walk {T : Type 0} (A : Tolls T) (m : Meaning T) (E : List (Entry T)) (t n from p : ℕ) (c : T) (lanes : ℕ) : Type 0 where
  pub few : lanes ≤ n
  pub rest : option_map (so_far A c lanes) (walked A m E t (n - lanes) p) ≡ walked A m E t n from

-- the recorded way that a floor bears out, by its walk
abbrev pub trace_of : {T : Type 0} → List ℕ × T → Trace T
trace_of p = traced p.0 p.1

abbrev pub judged : {T : Type 0} → Tolls T → Option T → Trace T → Option (Trace T)
judged A h r = cond (same_toll A r.toll h) (Some r) None

pub borne_walk : {T : Type 0} (A : Tolls T) (m : Meaning T) (E : List (Entry T)) (t s : ℕ) → option_map trace_of (borne_out A m E t s) ≡ then (walked A m E t (length E - 1) s) (judged A (toll_at E s))
borne_walk {T} A m E t s = go (recorded E t (length E - 1) s)
  where
    last : (w : List ℕ) (c : T) (b : Bool) → option_map trace_of (cond b (Some (w, c)) None) ≡ cond b (Some (traced w c)) None
    last w c true = refl
    last w c false = refl

    priced : (w : List ℕ) (o : Option T) → option_map trace_of (then o (λ c. cond (same_toll A c (toll_at E s)) (Some (w, c)) None)) ≡ then (option_map (traced w) o) (judged A (toll_at E s))
    priced w None = refl
    priced w (Some c) = last w c (same_toll A c (toll_at E s))

    go : (o : Option (List ℕ)) → option_map trace_of (then o (λ w. then (way_toll A m s w) (λ c. cond (same_toll A c (toll_at E s)) (Some (w, c)) None))) ≡ then (then o (λ w. option_map (traced w) (way_toll A m s w))) (judged A (toll_at E s))
    go None = refl
    go (Some w) = priced w (way_toll A m s w)

-- the places of a way that are written
module _ {T : Type 0} (E : List (Entry T)) where
  pub trail_more : (way R : List ℕ) (i n p q : ℕ) → i < length way → i < n → q ≡ unwrap_or (next_at E p) p → take i way ++ trail E (n - i) p ≡ R → take (i + 1) (set way i p) ++ trail E (n - (i + 1)) q ≡ R
  trail_more way R i n p q h l e inv =
      let s : n - i ≡ suc (n - (i + 1)) = omega arith in
      ap (λ t. t ++ trail E (n - (i + 1)) q) (take_more_set way i p h) ∙ append_assoc (take i way) (p ∷ []) (trail E (n - (i + 1)) q)
      ∙ ap (λ (v : ℕ). take i way ++ (p ∷ trail E (n - (i + 1)) v)) e ∙ ap (λ (k : ℕ). take i way ++ trail E k p) (sym s) ∙ inv

  pub trail_end : (way old R : List ℕ) (i n p : ℕ) → i ≡ n → take i way ++ trail E (n - i) p ≡ R → drop i way ≡ drop i old → way ≡ R ++ drop n old
  trail_end way old R i n p e inv d =
      let z : n - i ≡ 0 = omega arith in
      let c : take i way ≡ R = sym (append-nil (take i way)) ∙ ap (λ (k : ℕ). take i way ++ trail E k p) (sym z) ∙ inv in
      sym (take-append-drop i way) ∙ ap (λ t. t ++ drop i way) c ∙ ap (λ t. R ++ t) (d ∙ ap (λ (k : ℕ). drop k old) e)

pub drop_more : (way old : List ℕ) (i p : ℕ) → drop i way ≡ drop i old → drop (i + 1) (set way i p) ≡ drop (i + 1) old
drop_more way old i p e = drop-set-lt (i + 1) way i p (omega arith) ∙ sym (drop-drop 1 i way) ∙ ap (drop 1) e ∙ drop-drop 1 i old

-- the same for the code's table
module _ {T : Type 0} (A : Tolls T) (m : Meaning T) (rs : List (Record T)) (t s : ℕ) where
  by_walk : option_map trace_of (borne_out A m (tree_of rs) t s) ≡ then (walked A m (tree_of rs) t (length rs - 1) s) (judged A (toll_at (tree_of rs) s))
  by_walk = borne_walk A m (tree_of rs) t s ∙ ap (λ (n : ℕ). then (walked A m (tree_of rs) t (n - 1) s) (judged A (toll_at (tree_of rs) s))) (tree_length rs 0)

  module _ (r : Trace T) (e : Some r ≡ walked A m (tree_of rs) t (length rs - 1) s) (h : Option T) (q : h ≡ toll_at (tree_of rs) s) where
    after : option_map trace_of (borne_out A m (tree_of rs) t s) ≡ judged A h r
    after = by_walk ∙ sym (ap (λ o. then o (judged A (toll_at (tree_of rs) s))) e) ∙ ap (λ o. judged A o r) (sym q)
