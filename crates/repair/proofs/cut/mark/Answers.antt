use Rattle.std.proofs.Common.{refl, ap, ◌∙◌, arith}
use Rattle.tree.specs.Tree.{tree_of, alter, marks_of}
use Rattle.repair.specs.Cut.{drops}
use Rattle.tree.proofs.Entries.{tree_length}
use Rattle.repair.proofs.Onward.{onward_more, onward_all, by_number}
use Rattle.tree.proofs.Marks.{marks_length}
use Rattle.repair.proofs.cut.mark.Goals as goal

pub loop-place-init : goal.loop-place-init
loop-place-init g c = (
  refl,
  by_number (drops (g.F.Floor.meaning c.args.floor.now) c.args.spot c.args.target (tree_of c.args.table.now)) 0 (marks_of c.args.table.now) (tree_of c.args.table.now) (marks_length c.args.table.now),
)

pub loop-place-preserved : goal.loop-place-preserved
loop-place-preserved g c =
    let d = drops (g.F.Floor.meaning c.args.floor.now) c.args.spot c.args.target in
    let p = c.loop-place.place in
    let ms = marks_of c.loop-place.table in (
      c.set_mark.ensures.entries ∙ c.loop-place.invariant.0,
      onward_more (λ q _. d (tree_of c.args.table.now) q) p ms _ c.loop-place.invariant.1 _ (c.set_mark.ensures.marks ∙ ap (λ b. alter (λ _. b) ms p) (c.drops-is_dropped.ensures ∙ ap (λ E. d E p) c.loop-place.invariant.0)),
    )

pub returns : goal.returns
returns g c = record {
  entries = c.loop-place.invariant.0;
  marks = onward_all (λ p _. drops (g.F.Floor.meaning c.args.floor.now) c.args.spot c.args.target (tree_of c.args.table.now) p) c.loop-place.place (marks_of c.loop-place.table) _ c.loop-place.invariant.1 (omega (arith, marks_length c.loop-place.table, tree_length c.loop-place.table 0));
}
