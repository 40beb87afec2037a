use Rattle.std.proofs.Common.{ap, ◌∙◌, arith}
use Rattle.tree.specs.Tree.{tree_of, alter, marks_of}
use Rattle.repair.specs.Cut.{cut_at}
use Rattle.tree.proofs.Entries.{tree_length}
use Rattle.repair.proofs.Onward.{onward_more, onward_all}
use Rattle.repair.proofs.cut.cut.Goals as goal

pub loop-place-preserved : goal.loop-place-preserved
loop-place-preserved g c =
    let m = g.F.Floor.meaning c.args.floor.now in
    let E = tree_of c.loop-place.table in (
      onward_more (cut_at m (marks_of c.args.table.now)) c.loop-place.place E _ c.loop-place.invariant.0 _ (c.cut_at.ensures.entries ∙ ap (λ ms. alter (cut_at m ms c.loop-place.place) E c.loop-place.place) c.loop-place.invariant.1),
      c.cut_at.ensures.marks ∙ c.loop-place.invariant.1,
    )

pub returns : goal.returns
returns g c = record {
  entries = onward_all (cut_at (g.F.Floor.meaning c.args.floor.now) (marks_of c.args.table.now)) c.loop-place.place (tree_of c.loop-place.table) _ c.loop-place.invariant.0 (omega (arith, tree_length c.loop-place.table 0));
  marks = c.loop-place.invariant.1;
}
