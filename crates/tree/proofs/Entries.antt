-- A table's records and the entries that they stand for.
use Rattle.std.proofs.Common.{◌≡◌, ℕ, ◌<◌, ◌≤◌, false, List, length, get_or, set, sym, ap, ◌∙◌}
use Rattle.std.specs.Option.{option_map}
use Rattle.std.specs.List.{slice_get}
use Rattle.std.proofs.lemmas.List.{map-set, length-map}
use Rattle.std.proofs.lemmas.Option.{slice_get-get_or, slice_get-map, slice_get_past}
use Rattle.tree.specs.Tree.{entry_of, tree_of, close_at}
use Rattle.tree.specs.declared.record.Record.{Record}

module _ {T : Type 0} (rs : List (Record T)) (p : ℕ) where
  -- a record that is written
  pub tree_set : (r : Record T) → tree_of (set rs p r) ≡ set (tree_of rs) p (entry_of r)
  tree_set r = map-set entry_of rs p r

  pub tree_length : length (tree_of rs) ≡ length rs
  tree_length = length-map rs entry_of

  -- a place that is closed
  pub closed_there : (d : Record T) → p < length rs →
      tree_of (set rs p (record { toll = (get_or rs p d).toll; next = (get_or rs p d).next; is_open = false; is_cut = (get_or rs p d).is_cut })) ≡ close_at (tree_of rs) p (slice_get (tree_of rs) p)
  closed_there d h = tree_set _ ∙ ap (close_at (tree_of rs) p) (sym (slice_get-map entry_of rs p ∙ ap (option_map entry_of) (slice_get-get_or rs p d h)))

  -- past the end there is none to close
  pub closed_past : length rs ≤ p → tree_of rs ≡ close_at (tree_of rs) p (slice_get (tree_of rs) p)
  closed_past h = ap (close_at (tree_of rs) p) (sym (slice_get-map entry_of rs p ∙ ap (option_map entry_of) (slice_get_past rs p h)))
