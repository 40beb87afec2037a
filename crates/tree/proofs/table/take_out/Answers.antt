use Rattle.std.proofs.Common.{get_or, refl}
use Rattle.tree.specs.Tree.{entry_of, blank_entry}
use Rattle.tree.proofs.Altering.{map_alter, map_kept, map_past}
use Rattle.tree.proofs.Marks.{mark_of}
use Rattle.tree.proofs.table.take_out.Goals as goal

pub returns-then-at-table-clause-entries : goal.returns-then-at-table-clause-entries
returns-then-at-table-clause-entries g c = map_alter entry_of c.args.table.now c.args.place (λ _. blank_entry) c.index-table-at.result _ c.if-at-table.true c.blank.ensures

pub returns-then-at-table-clause-marks : goal.returns-then-at-table-clause-marks
returns-then-at-table-clause-marks g c = map_kept mark_of c.args.table.now c.args.place c.index-table-at.result (record { toll = c.blank.result.toll; next = c.blank.result.next; is_open = c.blank.result.is_open; is_cut = (get_or c.args.table.now c.args.place c.index-table-at.result).is_cut }) c.if-at-table.true refl

pub returns-else-at-table-clause-entries : goal.returns-else-at-table-clause-entries
returns-else-at-table-clause-entries g c = map_past entry_of c.args.table.now c.args.place (λ _. blank_entry) c.if-at-table.false
