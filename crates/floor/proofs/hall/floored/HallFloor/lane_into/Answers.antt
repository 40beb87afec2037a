use Rattle.std.proofs.Common.{ℕ, List, sym, ap, ◌∙◌, arith}
use Rattle.std.specs.List.{slice_get}
use Rattle.floor.proofs.HallFacts.{into_tried, lawful}
use Rattle.floor.proofs.hall.floored.HallFloor.lane_into.Goals as goal

pub returns-then-place-size : goal.returns-then-place-size
returns-then-place-size c = sym (ap (λ (xs : List ℕ). slice_get xs c.args.k) ((lawful c.args.self.now).into_nowhere c.args.place (omega arith)))

pub returns : goal.returns
returns c =
    let h = c.args.self.now in
    let e = into_tried h c.args.place (omega arith) _ _ _ _ c.lane_back.ensures c.lane_back-2.ensures c.lane_back-3.ensures c.lane_back-4.ensures in
    c.pick.ensures ∙ sym (ap (λ (xs : List ℕ). slice_get xs c.args.k) e)
