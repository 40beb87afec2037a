use Rattle.std.proofs.Common.{unwrap_or, ap, ◌∙◌, arith}
use Rattle.tree.specs.Tree.{tree_of}
use Rattle.tree.proofs.Walking.{trail_more, trail_end, drop_more}
use Rattle.tree.proofs.way.write_way.Goals as goal

pub loop-i-preserved : goal.loop-i-preserved
loop-i-preserved g c = (
  trail_more (tree_of c.args.table.now) c.loop-i.way _ c.loop-i.i c.args.count c.loop-i.place c.unwrap_or-place.result (omega arith) (omega arith) (c.unwrap_or-place.ensures ∙ ap (λ o. unwrap_or o c.loop-i.place) c.next_at.ensures) c.loop-i.invariant.0,
  drop_more c.loop-i.way c.args.way.now c.loop-i.i c.loop-i.place c.loop-i.invariant.1,
)
