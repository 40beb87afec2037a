use Rattle.std.proofs.Common.{rules, arith}
use borrow.Author.Tests.{tests}
use Rattle.jobtext.proofs.NumberFacts.{callable, value_read}
use Rattle.jobtext.proofs.number.digits_value.Goals as goal

pub try_fold-requires-clause-callable : goal.try_fold-requires-clause-callable
try_fold-requires-clause-callable c = callable _ (λ n x v q k. search (rules, tests)) _ (search (rules, arith)) (λ n x h. search (rules, arith))

pub returns : goal.returns
returns c = let r = value_read _ (λ n x v q k. search (rules, tests)) _ _ _ c.try_fold.ensures.ran in cc
