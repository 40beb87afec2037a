use Rattle.std.proofs.Common.{◌≡◌, ◌*◌, true, false, map, take, set, sym, ap, ◌∙◌, arith}
use Rattle.toll.specs.SecondsKind.{seconds, seconds_kind}
use Rattle.toll.specs.declared.refusal.Refusal.TheVariants.{BelowLeast}
use Rattle.floor.specs.Setting.{answer_at, if_enough}
use Rattle.floor.specs.Grid.{grid_meaning, hall_meaning}
use Rattle.floor.proofs.FloorFacts.{set_refused, set_taken}
use Rattle.floor.proofs.HallFacts.{spot_at, stored_meaning}
use Rattle.floor.proofs.hall.floored.HallFloor.set_toll.Goals as goal

pub returns-then-not-at_most : goal.returns-then-not-at_most
returns-then-not-at_most c =
    let h = c.args.self.now in
    let low : seconds_kind.le h.least c.args.toll ≡ false = sym c.at_most.ensures ∙ c.if-not-at_most.true in
    let e = ap (λ o. answer_at seconds_kind o c.args.toll) (spot_at h.rows h.columns h.least h.cells.tolls h.full h.few c.args.spot (omega arith)) ∙ ap if_enough low in
    let f = set_refused seconds_kind (hall_meaning h) c.args.spot c.args.toll BelowLeast e in
    record { answer = sym e; floor = f.0; only = f.1 }

pub returns : goal.returns
returns c =
    let h = c.args.self.now in
    let high : seconds_kind.le h.least c.args.toll ≡ true = sym c.at_most.ensures ∙ c.if-not-at_most.false in
    let e = ap (λ o. answer_at seconds_kind o c.args.toll) (spot_at h.rows h.columns h.least h.cells.tolls h.full h.few c.args.spot (omega arith)) ∙ ap if_enough high in
    let m = ap (λ ts. grid_meaning h.rows h.columns h.least (map seconds (take (h.rows * h.columns) ts))) (c.store.ensures ∙ ap (set h.cells.tolls c.args.spot) c.value.ensures)
    ∙ stored_meaning h.rows h.columns h.least h.cells.tolls c.args.spot c.args.toll h.full h.few (omega arith) in
    let f = set_taken seconds_kind (hall_meaning h) c.args.spot c.args.toll _ e m in
    record { answer = sym e; floor = f.0; only = f.1 }
