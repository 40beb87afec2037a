use Rattle.std.proofs.Common.{◌≡◌, take, replicate}
use Rattle.tree.specs.Tree.{tree_of, blank_entry}
use Rattle.tree.proofs.start.clear.Given as goal

abbrev pub invariant-loop-i : goal.invariant-loop-i
invariant-loop-i g l = take l.i (tree_of l.table) ≡ replicate l.i blank_entry
