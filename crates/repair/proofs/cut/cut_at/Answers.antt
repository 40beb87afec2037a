use Rattle.std.proofs.Common.{sym, refl, ◌∙◌}
use Rattle.tree.specs.Tree.{tree_of, marks_of}
use Rattle.repair.proofs.Repairing.{not_cut}
use Rattle.repair.proofs.cut.cut_at.Goals as goal

pub returns-else-beside_marked : goal.returns-else-beside_marked
returns-else-beside_marked g c = record {
  entries = not_cut (g.F.Floor.meaning c.args.floor.now) (tree_of c.args.table.now) c.args.place (marks_of c.args.table.now) (sym c.is_marked.ensures ∙ c.if-is_marked.false) (sym c.beside_marked.ensures ∙ c.if-beside_marked.false);
  marks = refl;
}
