use Rattle.std.proofs.Common.{◌≡◌, ℕ, ◌-◌, [], length, take, sym, refl, ap, ◌∙◌, subst, arith}
use Rattle.std.proofs.lemmas.List.{length-take-le}
use Rattle.tree.specs.Tree.{start_tree}
use Rattle.planner.specs.Calls.{set_up_state}
use Rattle.astar.specs.Sound.{Sound}
use Rattle.planner.specs.Reachable.{Reachable, set_up}
use Rattle.astar.proofs.StartSound.{start_sound}
use Rattle.planner.proofs.Starting.{front_tree, front_behind, accepted}
use Rattle.planner.proofs.planner.Planner.make.Goals as goal

pub returns-in-Ok : goal.returns-in-Ok
returns-in-Ok g c =
    let m = g.F.Floor.meaning c.args.floor.now in
    let n = c.places-places.result in
    let rs = c.args.table.now in
    let z : n - 0 ≡ n = omega arith in
    let a = accepted (length rs) m.places c.args.target c.args.place c.in-Ok.ensures in
    let lent : length (take (n - 0) rs) ≡ n = length-take-le (n - 0) rs (omega (arith, c.places-places.ensures)) ∙ z in
    let size : length c.start.new.table ≡ n = c.start.auto.table ∙ lent in
    let tree = front_tree c.start.new.table rs n (n - 0) z size ∙ c.start.ensures ∙ ap (λ (k : ℕ). start_tree g.T.Toll.tolls k c.args.target) (lent ∙ c.places-places.ensures) in
    record {
      planner =
          ap (λ E. record { target = c.args.target; tree = E; tally = 0 }) tree
          ∙ ap (λ o. set_up_state g.T.Toll.tolls o m.places c.args.target) c.in-Ok.ensures;
      behind = front_behind c.start.new.table rs n (n - 0) z size;
      lender = refl;
      slip = refl;
      reachable = λ ok. subst (Reachable g.T.Toll.tolls (record { floor = m; records = length rs; target = c.args.target; place = c.args.place }) []) (ap (λ E. record { floor = m; planner = record { target = c.args.target; tree = E; tally = 0 } }) (sym tree)) (set_up c.laws_hold.ensures ok);
      sound = λ _. subst (Sound g.T.Toll.tolls m c.args.target) (sym tree) (start_sound g.met.T.Toll.lawful m c.args.target a.aim);
    }
