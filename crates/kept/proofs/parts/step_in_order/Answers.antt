use Rattle.kept.proofs.parts.step_in_order.Goals as goal

pub returns : goal.returns
returns g c = λ start calls r i e n f. (c.serve-carrier.ensures.promise start calls r).promise.ordered i e tt n f
