use Rattle.std.proofs.Common.{sym, ◌∙◌, arith}
use Rattle.floor.specs.Directions.{number}
use Rattle.floor.proofs.GridFacts.{next_below, number_below}
use Rattle.floor.proofs.hall.Hall.lane_back.Goals as goal

pub lane_of-requires : goal.lane_of-requires
lane_of-requires c =
    let h = c.args.self.now in
    let b = next_below h.rows h.columns c.args.cell (number c.args.side) c.in_ok-neighbour.neighbour c.requires (number_below c.args.side) (sym c.next.ensures ∙ c.in_ok-neighbour.was) in
    omega (arith, h.few)
