-- A table's marks.
use Rattle.std.proofs.Common.{◌≡◌, Bool, List, length, sym, ◌∙◌}
use Rattle.std.proofs.lemmas.List.{length-map}
use Rattle.tree.specs.Tree.{tree_of, marks_of}
use Rattle.tree.specs.declared.record.Record.{Record}

-- the mark of a record
abbrev pub mark_of : {T : Type 0} → Record T → Bool
mark_of r = r.is_cut

-- a table has as many marks as entries
pub marks_length : {T : Type 0} (rs : List (Record T)) → length (marks_of rs) ≡ length (tree_of rs)
marks_length rs = length-map rs mark_of ∙ sym (length-map rs _)
