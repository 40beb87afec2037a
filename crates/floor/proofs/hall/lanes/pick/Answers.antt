use Rattle.std.proofs.Common.{◌+◌, drop, sym, ap, ◌∙◌}
use Rattle.std.proofs.lemmas.List.{at_drop_all}
use Rattle.std.specs.List.{slice_get}
use Rattle.floor.specs.Rising.{present}
use Rattle.floor.proofs.PickFacts.{at_some, at_none, nth_later, nth_now}
use Rattle.floor.proofs.hall.lanes.pick.Goals as goal
use Rattle.floor.proofs.hall.lanes.pick.Goals.{in-Some+else-left-eq0, in_default}

pub returns-then-left-eq0 : goal.returns-then-left-eq0
returns-then-left-eq0 c =
    nth_now c.in-Some.lane c.loop-one.left _ c.if-left-eq0.true
    ∙ sym (at_some c.args.found.now c.loop-one.one-index c.loop-one.left c.loop-one-test.true c.in-Some.lane c.in-Some.is) ∙ c.loop-one.invariant

pub loop-one-preserved : goal.loop-one-preserved
loop-one-preserved c =
    let xs = c.args.found.now in let i = c.loop-one.one-index in
    elim c.match-one.branch [
      | in-Some+else-left-eq0 w ↦
          ap (slice_get (present (drop (i + 1) xs))) w.left-is
          ∙ sym (nth_later w.in-Some.lane c.loop-one.left _ w.if-left-eq0.false)
          ∙ sym (at_some xs i c.loop-one.left c.loop-one-test.true w.in-Some.lane w.in-Some.is) ∙ c.loop-one.invariant
      | in_default w ↦ ap (slice_get (present (drop (i + 1) xs))) w.left-is ∙ sym (at_none xs i c.loop-one.left c.loop-one-test.true w.in_default.is) ∙ c.loop-one.invariant
    ]

pub returns : goal.returns
returns c = sym (at_drop_all (λ ys. slice_get (present ys) c.loop-one.left) c.args.found.now c.loop-one.one-index c.loop-one-test.false) ∙ c.loop-one.invariant
