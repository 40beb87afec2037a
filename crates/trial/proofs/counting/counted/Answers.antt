use Rattle.std.proofs.Common.{ℕ, Some}
use Rattle.std.proofs.lemmas.List.Elements.{All-same, All-push}
use Rattle.trial.proofs.counting.counted.Goals as goal

pub loop-k-preserved : goal.loop-k-preserved
loop-k-preserved g c =
    let Given = λ (x : ℕ). (k : ℕ) × goal.F-post g c.args.nth k (Some x) in
    All-same Given _ _ c.in_ok-push.ensures.items (All-push Given _ _ c.loop-k.invariant (c.loop-k.k, c.in-Some.ensures))
