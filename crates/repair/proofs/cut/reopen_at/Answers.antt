use Rattle.std.proofs.Common.{sym, ◌∙◌}
use Rattle.tree.specs.Tree.{tree_of}
use Rattle.repair.proofs.Repairing.{not_reopened}
use Rattle.repair.proofs.cut.reopen_at.Goals as goal

pub returns-else-entered_by : goal.returns-else-entered_by
returns-else-entered_by g c = not_reopened (g.F.Floor.meaning c.args.floor.now) (tree_of c.args.table.now) c.args.place c.args.spot (sym c.entered_by.ensures ∙ c.if-entered_by.false)
