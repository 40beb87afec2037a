use Rattle.std.proofs.Common.{length, arith}
use Rattle.tree.proofs.Clearing.{clear_more, clear_all}
use Rattle.tree.proofs.start.clear.Goals as goal

pub loop-i-preserved : goal.loop-i-preserved
loop-i-preserved g c = clear_more c.loop-i.table c.loop-i.i c.blank.result (omega arith) c.blank.ensures c.loop-i.invariant
