use Rattle.std.proofs.Common.{◌*◌, ◌<◌, ◌≤◌, ⊎_elim, rules}
use Rattle.std.proofs.lemmas.Bool.{cases_lt}
use Rattle.floor.proofs.HallFacts.{spot_at, spot_past}
use Rattle.floor.proofs.hall.floored.HallFloor.spot_toll.Goals as goal

pub returns : goal.returns
returns c =
    let h = c.args.self.now in
    ⊎_elim
    (λ (l : c.args.spot < h.rows * h.columns). let e = spot_at h.rows h.columns h.least h.cells.tolls h.full h.few c.args.spot l in search rules)
    (λ (l : h.rows * h.columns ≤ c.args.spot). let e = spot_past h.rows h.columns h.least h.cells.tolls h.full h.few c.args.spot l in search rules)
    (cases_lt c.args.spot (h.rows * h.columns))
