use Rattle.std.proofs.Common.{◌++◌, take, codes}
use Rattle.std.specs.List.{flat_map}
use Rattle.std.specs.Fmt.{HasWritten, IsPlainFormatter}
use Rattle.jobtext.specs.LineTexts.{spaced}
use Rattle.jobtext.proofs.text.write_route.Given as goal

abbrev pub invariant-loop-place : goal.invariant-loop-place
invariant-loop-place g l =
    IsPlainFormatter l.fn.f → HasWritten g.W.Write.write_str_gives l.fn.f (codes "ok" ++ (spaced l.fn.toll ++ (spaced l.fn.count ++ flat_map spaced (take l.place-index l.way)))) l.f
