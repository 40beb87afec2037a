-- The cleared table, and the start of the tree.
use Rattle.std.proofs.Common.{◌≡◌, ℕ, ◌+◌, ◌<◌, true, List, [], ◌∷◌, ◌++◌, length, take, set, replicate, Some, None, sym, ap, ◌∙◌, arith}
use Rattle.std.proofs.lemmas.List.{take_more_set, replicate_more, take_all}
use Rattle.toll.specs.Tolls.{Tolls}
use Rattle.tree.specs.Tree.{Entry, entry_of, tree_of, blank_entry, start_tree}
use Rattle.tree.specs.declared.record.Record.{Record}
use Rattle.tree.proofs.Entries.{tree_set, tree_length}

module _ {T : Type 0} (rs : List (Record T)) (i : ℕ) where
  pub clear_more : (r : Record T) → i < length rs → entry_of r ≡ blank_entry → take i (tree_of rs) ≡ replicate i blank_entry → take (i + 1) (tree_of (set rs i r)) ≡ replicate (i + 1) blank_entry
  clear_more r h e inv =
      ap (take (i + 1)) (tree_set rs i r) ∙ take_more_set (tree_of rs) i (entry_of r) (omega (arith, tree_length rs i))
      ∙ ap (λ xs. xs ++ entry_of r ∷ []) inv ∙ ap (λ x. replicate i blank_entry ++ x ∷ []) e ∙ replicate_more i blank_entry

  pub clear_all : (n : ℕ) → i ≡ n → length rs ≡ n → take i (tree_of rs) ≡ replicate i blank_entry → tree_of rs ≡ replicate n blank_entry
  clear_all n e f inv = sym (take_all i (tree_of rs) (omega (arith, tree_length rs i))) ∙ inv ∙ ap (λ (k : ℕ). replicate k blank_entry) e

-- a cleared table with the target open is the start
pub started : {T : Type 0} (A : Tolls T) (E E' : List (Entry T)) (n t : ℕ) (z : T) → z ≡ A.zero → E ≡ replicate n blank_entry → E' ≡ set E t (record { toll = Some z; next = None; is_open = true }) → E' ≡ start_tree A n t
started A E E' n t z e f h =
    h ∙ ap (λ F. set F t (record { toll = Some z; next = None; is_open = true })) f ∙ ap (λ v. set (replicate n blank_entry) t (record { toll = Some v; next = None; is_open = true })) e
