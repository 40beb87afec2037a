use Rattle.tree.proofs.Entries.{closed_there}
use Rattle.tree.proofs.table.close.Goals as goal

pub returns-then-at-table : goal.returns-then-at-table
returns-then-at-table g c = closed_there c.args.table.now c.args.place c.index-table-at.result c.if-at-table.true
