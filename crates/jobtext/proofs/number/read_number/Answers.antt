use Rattle.std.proofs.Common.{rules}
use Rattle.jobtext.proofs.DecimalFacts.{read_back}
use Rattle.jobtext.proofs.number.read_number.Goals as goal

pub returns-then-not-plain-clause-back : goal.returns-then-not-plain-clause-back
returns-then-not-plain-clause-back c = read_back _ _ (search rules)

pub returns-in_err-number-clause-back : goal.returns-in_err-number-clause-back
returns-in_err-number-clause-back c = read_back _ _ (search rules)

pub returns-clause-back : goal.returns-clause-back
returns-clause-back c = read_back _ _ (search rules)
