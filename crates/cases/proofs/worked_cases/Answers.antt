use Rattle.std.proofs.Common.{refl}
use Rattle.std.specs.Fmt.{digits}
use Rattle.floor.specs.Meaning.{lanes_by}
use Rattle.cases.proofs.worked_cases.Goals as goal

pub returns : goal.returns
unfolding lanes_by digits
returns c = (refl, (refl, ((refl, refl), (refl, ((refl, refl), (refl, (refl, (refl, ((refl, refl), (refl, tt))))))))))
