use Rattle.std.proofs.Common.{◌≡◌, ℕ, ◌<◌, ◌≤◌, length, sym, refl, ap, ◌∙◌, arith}
use Rattle.std.specs.Option.{option_map}
use Rattle.std.proofs.lemmas.Option.{slice_get-map, slice_get_past}
use Rattle.toll.specs.declared.refusal.Refusal.TheVariants.{UnknownSpot}
use Rattle.floor.specs.Setting.{answer_at, if_enough}
use Rattle.floor.proofs.FloorFacts.{set_refused, set_taken}
use Rattle.lanes.specs.Records.{all_fair}
use Rattle.lanes.specs.Plans.{spot_of, plan_meaning, retolled}
use Rattle.lanes.proofs.PlanFacts.{below_length}
use Rattle.lanes.proofs.StoreFacts.{retolled_length, retolled_past, retolled_fair, stored_meaning}
use Rattle.lanes.proofs.plan.floored.LanePlanFloor.set_toll.Goals as goal

pub returns-then-k-self : goal.returns-then-k-self
returns-then-k-self g c =
    let A = g.T.Toll.tolls in let rs = c.args.self.now.lanes.now in let k = c.args.spot in let t = c.args.toll in
    let past : length rs ≤ k = omega arith in
    let e = ap (λ o. answer_at A o t) (slice_get-map (spot_of A) rs k ∙ ap (option_map (spot_of A)) (slice_get_past rs k past)) in
    let f = set_refused A (plan_meaning A c.args.self.now) k t UnknownSpot e in
    record { answer = sym e; floor = f.0; only = f.1; lanes = sym (retolled_past rs k t past); lender = refl }

pub invariant_of-self : goal.invariant_of-self
invariant_of-self g c =
    let p = c.args.self.now in let rs = p.lanes.now in let after = c.rewrite.ensures in
    let same : length c.rewrite.new.lanes ≡ length rs = ap length after ∙ retolled_length rs _ _ in
    record { some = p.some; few = p.few; short = omega (arith, p.short); fair = ap (all_fair p.places) after ∙ retolled_fair p.places rs _ _ ∙ p.fair }

pub returns : goal.returns
returns g c =
    let A = g.T.Toll.tolls in let p = c.args.self.now in let rs = p.lanes.now in let k = c.args.spot in let t = c.args.toll in
    let below : k < length rs = omega arith in
    let stored : c.rewrite.new.lanes ≡ retolled rs k t = c.rewrite.ensures ∙ ap (λ (i : ℕ). retolled rs i t) c.from-k.ensures in
    let b = below_length rs k below in
    let there = slice_get-map (spot_of A) rs k ∙ ap (option_map (spot_of A)) b.1 in
    let e = ap (λ o. answer_at A o t) there ∙ ap if_enough (g.met.T.Toll.lawful.least t) in
    let f = set_taken A (plan_meaning A p) k t _ e (stored_meaning A p.places rs c.rewrite.new.lanes k t b.0 there stored) in
    record { answer = sym e; floor = f.0; only = f.1; lanes = stored; lender = refl }
