-- The code's repair of the tree against its definition.
use Rattle.std.proofs.Common.{◌≡◌, ℕ, suc, ◌+◌, ◌-◌, ◌<◌, ◌≤◌, Bool, true, false, cond, ◌&&◌, ◌||◌, eqb, List, length, is_some, Some, None, Option, sym, ap, ◌∙◌, arith}
use Rattle.std.proofs.lemmas.Bool.{eq-eqb, ne_eqb}
use Rattle.floor.specs.Meaning.{Meaning}
use Rattle.tree.specs.Tree.{Entry, tree_of, toll_at, next_at, blank_entry, alter, marked, opened_if}
use Rattle.repair.specs.Cut.{joins, uses_spot, drops, beside_marked, entered_by, cut_at}
use Rattle.tree.specs.declared.record.Record.{Record}
use Rattle.tree.proofs.Entries.{tree_length}
use Rattle.tree.proofs.Altering.{alter_same}

-- the walk along next places; R is what the lanes from the i-th on give
module _ {T : Type 0} (m : Meaning T) (k : ℕ) (E : List (Entry T)) (t n i p : ℕ) (R : Bool) (few : i < n) (inv : uses_spot m k E t (n - i) p ≡ R) where
  abbrev further : Option ℕ → Bool
  further o = elim o [ None ↦ false | Some q ↦ joins m k p q || uses_spot m k E t (n - (i + 1)) q ]

  from : cond (eqb p t) false (further (next_at E p)) ≡ R
  from = let s : suc (n - (i + 1)) ≡ n - i = omega arith in ap (λ (j : ℕ). uses_spot m k E t j p) s ∙ inv

  pub uses_arrived : p ≡ t → false ≡ R
  uses_arrived e = sym (ap (λ b. cond b false (further (next_at E p))) (eq-eqb p t e)) ∙ from

  module _ (ne : p ≡ t → ⊥) where
    on : (o : Option ℕ) → next_at E p ≡ o → further o ≡ R
    on o e = sym (ap (λ b. cond b false (further (next_at E p))) (ne_eqb p t ne) ∙ ap further e) ∙ from

    pub uses_no_next : next_at E p ≡ None → false ≡ R
    uses_no_next e = on None e

    module _ (q : ℕ) (e : next_at E p ≡ Some q) (b : Bool) (j : b ≡ joins m k p q) where
      step : (b || uses_spot m k E t (n - (i + 1)) q) ≡ R
      step = ap (λ v. v || uses_spot m k E t (n - (i + 1)) q) j ∙ on (Some q) e

      pub uses_joined : b ≡ true → true ≡ R
      uses_joined h = sym (ap (λ v. v || uses_spot m k E t (n - (i + 1)) q) h) ∙ step

      pub uses_more : b ≡ false → uses_spot m k E t (n - (i + 1)) q ≡ R
      uses_more h = sym (ap (λ v. v || uses_spot m k E t (n - (i + 1)) q) h) ∙ step

pub uses_none : {T : Type 0} (m : Meaning T) (k : ℕ) (E : List (Entry T)) (t n p : ℕ) → uses_spot m k E t (n - 0) p ≡ uses_spot m k E t n p
uses_none m k E t n p = let z : n - 0 ≡ n = omega arith in ap (λ (j : ℕ). uses_spot m k E t j p) z

pub uses_end : {T : Type 0} (m : Meaning T) (k : ℕ) (E : List (Entry T)) (t n i p : ℕ) (R : Bool) → n ≤ i → uses_spot m k E t (n - i) p ≡ R → false ≡ R
uses_end m k E t n i p R h inv = let z : 0 ≡ n - i = omega arith in ap (λ (j : ℕ). uses_spot m k E t j p) z ∙ inv

-- a place that the repair leaves
module _ {T : Type 0} (m : Meaning T) (E : List (Entry T)) (p : ℕ) where
  pub not_reopened : (k : ℕ) → entered_by m k p ≡ false → E ≡ alter (opened_if (entered_by m k p)) E p
  not_reopened k e = alter_same E p ∙ ap (λ b. alter (opened_if b) E p) (sym e)

  pub not_cut : (ms : List Bool) → marked ms p ≡ false → beside_marked m ms p ≡ false → E ≡ alter (cut_at m ms p) E p
  not_cut ms e f =
      alter_same E p ∙ ap (λ b. alter (opened_if b) E p) (sym f)
      ∙ ap (λ b. alter (λ x. cond b blank_entry (opened_if (beside_marked m ms p) x)) E p) (sym e)
