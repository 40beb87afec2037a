-- With slips in order a parked slip names a place, and a slip that is under way a place of the tree.
-- routed-refused, step-refused   why a route or a step with such a slip may still be refused
use Rattle.std.proofs.Common.{◌≡◌, ℕ, ◌<◌, Bool, true, false, cond, not, eqb, ltb, ◌⊎◌, List, length, Some, None, Ok, Err, Option, Result, unwrap_or, sym, refl, ap, ◌∙◌, subst, inl, inr, ⊎_elim, arith}
use Rattle.std.specs.Option.{option_map}
use Rattle.std.proofs.lemmas.Bool.{ltb-true, ltb-false, eqb-false, not-true}
use Rattle.toll.specs.Tolls.{Tolls, TollLaws, Lt}
use Rattle.toll.specs.declared.refusal.Refusal.{Refusal}
use Rattle.toll.specs.declared.refusal.Refusal.TheVariants.{UnknownPlace, NoWay, ShortBuffer, AtTarget, OtherFloor, BrokenWay}
use Rattle.floor.specs.Meaning.{Meaning, then}
use Rattle.floor.specs.Setting.{set_answer}
use Rattle.floor.specs.FloorLaws.{FloorLaws}
use Rattle.floor.proofs.FloorFacts.{only_toll}
use Rattle.planner.specs.declared.answers.Route.{Route}
use Rattle.planner.specs.declared.call.Call.{Call}
use Rattle.planner.specs.declared.call.Call.TheVariants.{Change, Put, Step, Halt, Read, Tally}
use Rattle.planner.specs.declared.call.Call.TheVariants as call
use Rattle.planner.specs.declared.carrier.Carrier.{Carrier}
use Rattle.planner.specs.declared.carrier.Carrier.TheVariants as carrier
use Rattle.astar.specs.declared.outcome.Outcome.{Outcome}
use Rattle.astar.specs.declared.outcome.Outcome.TheVariants.{Solved}
use Rattle.astar.specs.declared.outcome.Outcome.TheVariants as outcome
use Rattle.tree.specs.Tree.{toll_at, next_at}
use Rattle.tree.specs.Ways.{toll_between, next_step, borne_out}
use Rattle.astar.specs.Search.{Searched, seek}
use Rattle.astar.specs.Sound.{chart_of, InTree, Sound}
use Rattle.planner.specs.Calls.{State, Routed, way_answer, search_answer, route_refused, route_by, routed, change_by, step_to, step_answer}
use Rattle.planner.specs.Served.{World, parked_at, under_way_at, slip_by, served_with}
use Rattle.planner.specs.Reachable.{Start, Event, Reachable, set_up, and_then, last_slip, InOrder}
use Rattle.astar.proofs.Order.{le_lt}
use Rattle.tree.proofs.Options.{is_some_is, then_some, mapped_some}
use Rattle.planner.proofs.Starting.{accepted}
use Rattle.astar.proofs.Keeping.{recorded_chart, chart_recorded, lane_there, run_sound}
use Rattle.astar.proofs.Ending.{seek_run, seek_solved, own, toll_below, next_in}
use Rattle.planner.proofs.RouteProof.{route_laws}
use Rattle.planner.proofs.Reaching.{SoundIn, ChangeSound, reachable_sound}

-- before its run a route with a place of a planner for this floor is refused for its buffer alone
early_short : (places floor buffer place : ℕ) (why : Refusal) → places ≡ floor → place < places → route_refused places floor buffer place ≡ Some why → (why ≡ ShortBuffer) × (buffer < places)
early_short places floor buffer place why e h = go (not (eqb floor places)) (ltb buffer places) (ltb place places) refl refl refl
  where
    go : (a b c : Bool) → not (eqb floor places) ≡ a → ltb buffer places ≡ b → ltb place places ≡ c → cond a (Some OtherFloor) (cond b (Some ShortBuffer) (cond c None (Some UnknownPlace))) ≡ Some why → (why ≡ ShortBuffer) × (buffer < places)
    go true b c p q r f = absurd (eqb-false floor places (not-true (eqb floor places) p) (sym e))
    go false true c p q r f = (cc, ltb-true buffer places q)
    go false false true p q r f = absurd (let z : ◌≡◌ {A = ℕ} 0 1 = cc in omega arith)
    go false false false p q r f = absurd (let k = ltb-false place places r in omega arith)

module _ {T : Type 0} {A : Tolls T} (L : TollLaws A) {m : Meaning T} (F : FloorLaws A m) (S : State T) (s : ℕ) (buffer : List ℕ) (G : Sound A m S.target S.tree) where
  -- an answered route leaves its place in the tree
  routed_in : (o : Option Refusal) (a : Route T) → (route_by A m S s buffer o).answer ≡ Ok a → (g : T) × (toll_at (route_by A m S s buffer o).state.tree s ≡ Some g)
  routed_in (Some why) a e = absurd (let z : ◌≡◌ {A = ℕ} 0 1 = cc in omega arith)
  routed_in None a e = go (seek A m s (length S.tree) S.tree).outcome refl e
    where
      go : (o : Outcome) → (seek A m s (length S.tree) S.tree).outcome ≡ o → search_answer A m S.target s (seek A m s (length S.tree) S.tree) o ≡ Ok a → (g : T) × (toll_at (seek A m s (length S.tree) S.tree).tree s ≡ Some g)
      go outcome.NoWay q f = absurd (let z : ◌≡◌ {A = ℕ} 0 1 = cc in omega arith)
      go Solved q f = own L F s (seek A m s (length S.tree) S.tree).tree (run_sound L F (seek_run L F s S.tree G.size) G) (seek_solved L F s S.tree G.size q)

  way_refused : (count : ℕ) (o : Option (List ℕ × T)) (why : Refusal) → way_answer count o ≡ Err why → why ≡ BrokenWay
  way_refused count None why e = cc
  way_refused count (Some p) why e = absurd (let z : ◌≡◌ {A = ℕ} 0 1 = cc in omega arith)

  search_refused : (r : Searched T) (o : Outcome) (why : Refusal) → search_answer A m S.target s r o ≡ Err why → (why ≡ NoWay) ⊎ (why ≡ BrokenWay)
  search_refused r outcome.NoWay why e = inl (cc)
  search_refused r Solved why e = inr (way_refused (length r.expanded) (borne_out A m r.tree S.target s) why e)

  -- a route from a place is refused for its buffer or for want of a way
  pub routed_refused : (why : Refusal) → s < m.places → (routed A m S s buffer).answer ≡ Err why → ((why ≡ ShortBuffer) × (length buffer < m.places)) ⊎ (why ≡ NoWay)
  routed_refused why h e = go (route_refused (length S.tree) m.places (length buffer) s) refl e ((route_laws L F S s buffer).whole G)
    where
      go : (o : Option Refusal) → route_refused (length S.tree) m.places (length buffer) s ≡ o → (route_by A m S s buffer o).answer ≡ Err why → ¬ ((route_by A m S s buffer o).answer ≡ Err BrokenWay) → ((why ≡ ShortBuffer) × (length buffer < m.places)) ⊎ (why ≡ NoWay)
      go (Some x) q f w =
          let k = early_short (length S.tree) m.places (length buffer) s x G.size (omega (arith, G.size)) q in
          let r : why ≡ x = cc in
          inl (r ∙ k.0, omega (arith, k.1, G.size))
      go None q f w = ⊎_elim (λ k. inr k) (λ k. absurd (w (f ∙ ap (λ x. Err x) k))) (search_refused (seek A m s (length S.tree) S.tree) (seek A m s (length S.tree) S.tree).outcome why f)

-- an answered step
record Stepped {T : Type 0} (S : State T) (p q : ℕ) : Type 0 where
  away : ¬ (p ≡ S.target)
  toll : T
  recorded : toll_at S.tree p ≡ Some toll
  next : next_at S.tree p ≡ Some q

stepped : {T : Type 0} (m : Meaning T) (S : State T) (p q : ℕ) → step_answer m S p ≡ Ok q → Stepped S p q
stepped {T} m S p q = go (eqb m.places (length S.tree)) (ltb p (length S.tree)) (eqb p S.target) (next_step m S.tree p) refl refl
  where
    to : (o : Option ℕ) → step_to o ≡ Ok q → o ≡ Some q
    to None e = absurd (let z : ◌≡◌ {A = ℕ} 0 1 = cc in omega arith)
    to (Some x) e = cc

    go : (a b c : Bool) (o : Option ℕ) → eqb p S.target ≡ c → next_step m S.tree p ≡ o → cond a (cond b (cond c (Err AtTarget) (step_to o)) (Err UnknownPlace)) (Err OtherFloor) ≡ Ok q → Stepped S p q
    go false b c o k l e = absurd (let z : ◌≡◌ {A = ℕ} 0 1 = cc in omega arith)
    go true false c o k l e = absurd (let z : ◌≡◌ {A = ℕ} 0 1 = cc in omega arith)
    go true true true o k l e = absurd (let z : ◌≡◌ {A = ℕ} 0 1 = cc in omega arith)
    go true true false o k l e =
        let x = then_some (toll_at S.tree p) (λ g. then (next_at S.tree p) (λ r. option_map (λ c. r) (toll_between m p r))) q (l ∙ to o e) in
        let y = then_some (next_at S.tree p) (λ r. option_map (λ c. r) (toll_between m p r)) q x.2 in
        let z = mapped_some (toll_between m p y.0) (λ c. y.0) q y.2 in
        record { away = eqb-false p S.target k; toll = x.0; recorded = x.1; next = y.1 ∙ ap (λ (r : ℕ). Some r) z.2 }

module _ {T : Type 0} {A : Tolls T} (L : TollLaws A) {m : Meaning T} (F : FloorLaws A m) (S : State T) (G : Sound A m S.target S.tree) where
  recorded_in : (p : ℕ) (g : T) → toll_at S.tree p ≡ Some g → InTree A (chart_of A S.tree) p
  recorded_in p g e = subst (λ v. Lt A v A.shut) (sym (recorded_chart L S.tree p g e)) (G.below p g e)

  -- a step leads to a place of the tree
  step_in : (p q : ℕ) → step_answer m S p ≡ Ok q → (g : T) × (toll_at S.tree q ≡ Some g)
  step_in p q e =
      let k = stepped m S p q e in
      let i = next_in L F p S.tree G p q (recorded_in p k.toll k.recorded) k.away (sym (ap (λ o. unwrap_or o 0) k.next)) in
      ((chart_of A S.tree).g q, chart_recorded L S.tree q i)

  -- from a place of the tree that is not the target a lane leads on
  step_there : (p : ℕ) (g : T) → toll_at S.tree p ≡ Some g → ¬ (p ≡ S.target) → (q : ℕ) × (next_step m S.tree p ≡ Some q)
  step_there p g e ne =
      let i = recorded_in p g e in
      let l = is_some_is (next_at S.tree p) (G.linked p g e ne) in
      let n = (chart_of A S.tree).next p in
      let same : n ≡ l.0 = ap (λ o. unwrap_or o 0) l.1 in
      let c = lane_there L m p n ((chart_of A S.tree).g n) (le_lt L (G.chart.tree p ne i) i) in
      let lane : toll_between m p l.0 ≡ Some c.0 = ap (toll_between m p) (sym same) ∙ c.1 in (
        l.0,
        ap (λ o. then o (λ g. then (next_at S.tree p) (λ r. option_map (λ c. r) (toll_between m p r)))) e
            ∙ ap (λ o. then o (λ r. option_map (λ c. r) (toll_between m p r))) l.1
            ∙ ap (option_map (λ c. l.0)) lane,
      )

  -- so a step from a place of the tree is refused at the target alone
  pub step_refused : (p : ℕ) (g : T) (why : Refusal) → toll_at S.tree p ≡ Some g → step_answer m S p ≡ Err why → why ≡ AtTarget
  step_refused p g why e = go (eqb m.places (length S.tree)) (ltb p (length S.tree)) (eqb p S.target) (next_step m S.tree p) refl refl refl refl
    where
      go : (a b c : Bool) (o : Option ℕ) → eqb m.places (length S.tree) ≡ a → ltb p (length S.tree) ≡ b → eqb p S.target ≡ c → next_step m S.tree p ≡ o →
          cond a (cond b (cond c (Err AtTarget) (step_to o)) (Err UnknownPlace)) (Err OtherFloor) ≡ Err why → why ≡ AtTarget
      go false b c o h i j k f = absurd (eqb-false m.places (length S.tree) h (sym G.size))
      go true false c o h i j k f = absurd (let a = toll_below L F p S.tree p g e in let b = ltb-false p (length S.tree) i in omega arith)
      go true true true o h i j k f = cc
      go true true false (Some q) h i j k f = absurd (let z : ◌≡◌ {A = ℕ} 0 1 = cc in omega arith)
      go true true false None h i j k f = absurd (let r = step_there p g e (eqb-false p S.target j) in let x : None ≡ Some r.0 = sym k ∙ r.1 in let z : ◌≡◌ {A = ℕ} 0 1 = cc in omega arith)

-- a parked slip names a place, and one that is under way a place of the tree
abbrev pub Good : {T : Type 0} → World T → Carrier → Type 0
Good W (carrier.Parked p) = p.place < W.floor.places
Good {T} W (carrier.UnderWay p) = (g : T) × (toll_at W.planner.tree p.place ≡ Some g)

module _ {T : Type 0} {A : Tolls T} (L : TollLaws A) (W : World T) (F : FloorLaws A W.floor) (G : SoundIn A W) (buffer : List ℕ) where
  change_good : (k s : ℕ) (b : T) (r : Result (Unit {0}) Refusal) → s < W.floor.places → s < (change_by A W.floor W.planner k b r).floor.places
  change_good k s b (Ok u) h = omega (arith, (only_toll A W.floor k b).places_same)
  change_good k s b (Err why) h = h

  put_good : (s q : ℕ) (b : Bool) → ltb q (length W.planner.tree) ≡ b → s < W.floor.places → Good W (slip_by parked_at (parked_at s) (cond b (Ok q) (Err UnknownPlace)))
  put_good s q true e h = omega (arith, ltb-true q (length W.planner.tree) e, G.size)
  put_good s q false e h = h

  route_good : (s : ℕ) (r : Routed T) (a : Result (Route T) Refusal) → r.answer ≡ a → ((x : Route T) → r.answer ≡ Ok x → (g : T) × (toll_at r.state.tree s ≡ Some g)) → s < W.floor.places → Good (record { floor = W.floor; planner = r.state }) (slip_by (λ x. under_way_at s) (parked_at s) a)
  route_good s r (Ok x) e f h = f x e
  route_good s r (Err why) e f h = h

  step_good : (s : ℕ) (a : Result ℕ Refusal) → step_answer W.floor W.planner s ≡ a → Good W (under_way_at s) → Good W (slip_by under_way_at (under_way_at s) a)
  step_good s (Ok q) e g = step_in L F W.planner G s q e
  step_good s (Err why) e g = g

  good_by : (c : Carrier) (k : Call T) → Good W c → Good (served_with A W buffer c k).world (served_with A W buffer c k).slip
  good_by (carrier.Parked p) (Change k b) g = change_good k p.place b (cond (eqb W.floor.places (length W.planner.tree)) (set_answer A W.floor k b) (Err OtherFloor)) g
  good_by (carrier.Parked p) (Put q) g = put_good p.place q (ltb q (length W.planner.tree)) refl g
  good_by (carrier.Parked p) call.Route g =
      let s = p.place in
      let r = routed A W.floor W.planner s buffer in
      route_good s r r.answer refl (λ x e. routed_in L F W.planner s buffer G (route_refused (length W.planner.tree) W.floor.places (length buffer) s) x e) g
  good_by (carrier.Parked p) Step g = g
  good_by (carrier.Parked p) Halt g = g
  good_by (carrier.Parked p) (Read q) g = g
  good_by (carrier.Parked p) Tally g = g
  good_by (carrier.UnderWay p) (Change k b) g = g
  good_by (carrier.UnderWay p) (Put q) g = g
  good_by (carrier.UnderWay p) call.Route g = g
  good_by (carrier.UnderWay p) Step g = step_good p.place (step_answer W.floor W.planner p.place) refl g
  good_by (carrier.UnderWay p) Halt g = omega (arith, toll_below L F p.place W.planner.tree p.place g.0 g.1, G.size)
  good_by (carrier.UnderWay p) (Read q) g = g
  good_by (carrier.UnderWay p) Tally g = g

module _ {T : Type 0} {A : Tolls T} (L : TollLaws A) (change_sound : ChangeSound A) where
  -- with slips in order the slip at hand is good
  pub reachable_slip : {start : Start T} {calls : List (Event T)} {W : World T} → Reachable A start calls W → InOrder start calls → Good W (last_slip start calls)
  reachable_slip {start} (set_up F e) i = (accepted start.records start.floor.places start.target start.place (sym e)).begin
  reachable_slip (and_then {W = W} r turn F) i =
      let k = reachable_sound L change_sound r in
      good_by L W k.0 k.1 turn.buffer turn.slip turn.call (subst (Good W) (sym i.0) (reachable_slip r i.1))
