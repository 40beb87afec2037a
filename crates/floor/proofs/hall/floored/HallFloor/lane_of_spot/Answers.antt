use Rattle.std.proofs.Common.{ℕ, List, ap, ◌∙◌}
use Rattle.std.specs.List.{slice_get}
use Rattle.floor.proofs.HallFacts.{spot_into}
use Rattle.floor.proofs.hall.floored.HallFloor.lane_of_spot.Goals as goal

pub returns : goal.returns
returns c = c.lane_into.ensures ∙ ap (λ (xs : List ℕ). slice_get xs c.args.k) (spot_into c.args.self.now c.args.spot)
