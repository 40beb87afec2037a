use Rattle.std.proofs.Common.{ℕ, Some, All}
use Rattle.trial.proofs.counting.counted.Given as goal

abbrev pub invariant-loop-k : goal.invariant-loop-k
invariant-loop-k g l = All (λ x. (k : ℕ) × goal.F-post g l.nth k (Some x)) l.found.items
