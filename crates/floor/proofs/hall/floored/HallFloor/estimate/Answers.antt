use Rattle.std.proofs.Common.{◌≡◌, ℕ, ◌+◌, ◌*◌, min, true, ◌&&◌, ltb, Some, sym, ap, ◌∙◌, arith}
use Rattle.std.proofs.lemmas.Bool.Decides.{nat_tests}
use Rattle.toll.specs.declared.seconds.Seconds.{Seconds}
use Rattle.toll.specs.SecondsKind.{seconds, seconds_kind}
use Rattle.floor.specs.Grid.{given, away, repeated}
use Rattle.floor.proofs.HallFacts.{times_is}
use Rattle.floor.proofs.hall.floored.HallFloor.estimate.Goals as goal

pub returns : goal.returns
returns c =
    let h = c.args.self.now in
    let n = away h.columns c.args.from c.args.to in
    let t : (ltb c.args.from (h.rows * h.columns) && ltb c.args.to (h.rows * h.columns)) ≡ true = grind (arith, nat_tests) in
    let d : c.from.result + c.from-2.result ≡ n = omega arith in
    let p : c.saturating_mul.result ≡ min (h.least.value * n) 4294967295 = c.saturating_mul.ensures ∙ ap (λ (x : ℕ). min (x * (c.from.result + c.from-2.result)) 4294967295) c.value.ensures ∙ ap (λ (x : ℕ). min (h.least.value * x) 4294967295) d in
    ap (λ (s : Seconds). Some s) (c.new.ensures ∙ ap seconds p ∙ times_is h.least n) ∙ sym (ap (λ b. given b (repeated seconds_kind h.least n)) t)
