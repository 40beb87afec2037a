use Rattle.tree.proofs.Entries.{tree_set}
use Rattle.tree.proofs.table.write.Goals as goal

pub returns-then-at-table : goal.returns-then-at-table
returns-then-at-table g c = tree_set c.args.table.now c.args.place c.args.written
