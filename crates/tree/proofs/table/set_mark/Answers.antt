use Rattle.std.proofs.Common.{refl}
use Rattle.tree.specs.Tree.{entry_of}
use Rattle.tree.proofs.Altering.{map_alter, map_kept, map_past}
use Rattle.tree.proofs.Marks.{mark_of}
use Rattle.tree.proofs.table.set_mark.Goals as goal

pub returns-then-at-table-clause-entries : goal.returns-then-at-table-clause-entries
returns-then-at-table-clause-entries g c = map_kept entry_of c.args.table.now c.args.place c.index-table-at.result _ c.if-at-table.true refl

pub returns-then-at-table-clause-marks : goal.returns-then-at-table-clause-marks
returns-then-at-table-clause-marks g c = map_alter mark_of c.args.table.now c.args.place (λ _. c.args.mark) c.index-table-at.result _ c.if-at-table.true refl

pub returns-else-at-table-clause-marks : goal.returns-else-at-table-clause-marks
returns-else-at-table-clause-marks g c = map_past mark_of c.args.table.now c.args.place (λ _. c.args.mark) c.if-at-table.false
