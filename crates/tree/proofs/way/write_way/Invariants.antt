use Rattle.std.proofs.Common.{◌≡◌, ◌-◌, ◌++◌, take, drop}
use Rattle.tree.specs.Tree.{tree_of}
use Rattle.tree.specs.Ways.{trail}
use Rattle.tree.proofs.way.write_way.Given as goal

abbrev pub invariant-loop-i : goal.invariant-loop-i
invariant-loop-i g l =
    (take l.i l.way ++ trail (tree_of l.table) (l.count - l.i) l.place ≡ trail (tree_of l.table) l.count l.from)
    × (drop l.i l.way ≡ drop l.i l.initial.way)
