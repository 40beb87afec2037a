-- Every call keeps the promise.
use Rattle.std.proofs.Common.{◌≡◌, ℕ, ◌<◌, ◌≤◌, ◌⊎◌, List, [], ◌∷◌, length, Some, None, Ok, Err, Result, sym, refl, ap, ◌∙◌, subst, inl, inr, ⊎_elim, arith}
use Rattle.std.specs.Option.{option_map}
use Rattle.toll.specs.Tolls.{Tolls, TollLaws}
use Rattle.toll.specs.Refusals.{number_of}
use Rattle.toll.specs.declared.refusal.Refusal.{Refusal}
use Rattle.floor.specs.Meaning.{lane_toll}
use Rattle.floor.specs.FloorLaws.{FloorLaws}
use Rattle.planner.specs.declared.answers.Answer.{Answer}
use Rattle.planner.specs.declared.answers.Answer.TheVariants.{Place}
use Rattle.planner.specs.declared.answers.Answer.TheVariants as answer
use Rattle.planner.specs.declared.answers.Route.{Route}
use Rattle.planner.specs.declared.call.Call.{Call}
use Rattle.planner.specs.declared.call.Call.TheVariants.{Change, Put, Step, Halt, Read, Tally}
use Rattle.planner.specs.declared.call.Call.TheVariants as call
use Rattle.planner.specs.declared.carrier.Carrier.{Carrier}
use Rattle.planner.specs.declared.carrier.Carrier.TheVariants as carrier
use Rattle.tree.specs.Ways.{ends, lane_between, toll_between, way_toll}
use Rattle.planner.specs.Calls.{Routed, routed, step_answer}
use Rattle.planner.specs.Served.{World, Turn, parked_at, said, answer_by, served_route, served_with, served}
use Rattle.planner.specs.Reachable.{Start, Event, Reachable, and_then}
use Rattle.planner.specs.Promise.{PassableWay, CheapestAnswer, Answered, LeastStays, Moving, Promise, Keeps}
use Rattle.astar.proofs.Order.{le_eq, not_both}
use Rattle.astar.proofs.Lanes.{between_leads}
use Rattle.tree.proofs.Options.{then_some}
use Rattle.planner.proofs.RouteProof.{route_laws, answers_below_shut}
use Rattle.repair.proofs.Dropping.{change_sound, change_dropped}
use Rattle.planner.proofs.Serving.{route_expanded}
use Rattle.planner.proofs.Reaching.{SoundIn, ChangeSound, ChangeDropped, served_dropped, reachable_sound, reachable_tally}
use Rattle.planner.proofs.Slipping.{Good, routed_refused, step_refused, reachable_slip}

-- neither 7, 11 nor 12
abbrev Fine : ℕ → Type 0
Fine n = (¬ (n ≡ 7)) × (¬ (n ≡ 11)) × (¬ (n ≡ 12))

fine : (n k : ℕ) → n ≡ k → Fine k → Fine n
fine n k e f = (λ q. f.0 (sym e ∙ q), λ q. f.1 (sym e ∙ q), λ q. f.2 (sym e ∙ q))

module _ {T : Type 0} {A : Tolls T} (L : TollLaws A) (W : World T) (F : FloorLaws A W.floor) (G : SoundIn A W) where
  -- a way to the target starts at a place
  from_place : (s : ℕ) (w : List ℕ) (c : T) → ends s w ≡ W.planner.target → way_toll A W.floor s w ≡ Some c → s < W.floor.places
  from_place s [] c e f = omega (arith, G.aim)
  from_place s (q ∷ w) c e f =
      let a = then_some (toll_between W.floor s q) (λ d. option_map (λ x. A.join d x) (way_toll A W.floor q w)) c f in
      let b = then_some (lane_between W.floor s q) (λ l. lane_toll W.floor l) a.0 a.1 in
      let d = between_leads F s q b.0 b.1 in
      omega (arith, d.leaves, F.leaves_place b.0 d.lane d.there)

  -- a route with a parked slip at s
  module _ (s : ℕ) (turn : Turn T) where
    abbrev R : Routed T
    R = routed A W.floor W.planner s turn.buffer

    passable : W.floor.places ≤ length turn.buffer → PassableWay A W.floor W.planner.target s → (a : Result (Route T) Refusal) → R.answer ≡ a → (said (answer_by answer.Route a)).refusal ≡ None
    passable h w (Ok a) e = refl
    passable h w (Err why) e = absurd (⊎_elim (λ k. let l = k.1 in omega arith)
        (λ k. let q : w.toll ≡ A.shut = (route_laws L F W.planner s turn.buffer).shut G (e ∙ ap (λ x. Err x) k) w.way w.toll w.leads w.is in not_both L (le_eq L (sym q)) w.below)
        (routed_refused L F W.planner s turn.buffer G why (from_place s w.way w.toll w.leads w.is) e))

    found : (a : Result (Route T) Refusal) → R.answer ≡ a → (said (answer_by answer.Route a)).refusal ≡ None → CheapestAnswer A W s turn (served_route W s R)
    found (Err why) e n = absurd (let z : ◌≡◌ {A = ℕ} 0 1 = cc in omega arith)
    found (Ok a) e n =
        let k = (route_laws L F W.planner s turn.buffer).cheapest G a e in
        record {
          found = record { way = k.way; toll = a.toll; leads = k.leads; is = k.toll; below = answers_below_shut L F W.planner s turn.buffer G a e };
          toll = ap (λ r. (said (answer_by answer.Route r)).toll) e;
          long = ap (λ r. (said (answer_by answer.Route r)).length) e ∙ ap (λ (n : ℕ). Some n) k.long;
          written = k.written;
          least = k.least;
        }

    answered_parked : W.floor.places ≤ length turn.buffer → Answered A W s turn (served_route W s R)
    answered_parked h = record { if_passable = λ w. passable h w R.answer refl; cheapest = found R.answer refl }

  route_answered : (s : ℕ) (turn : Turn T) → turn.call ≡ call.Route → turn.slip ≡ parked_at s → W.floor.places ≤ length turn.buffer → Answered A W s turn (served A W turn)
  route_answered s turn e f h = subst (λ c. Answered A W s turn (served_with A W turn.buffer turn.slip c)) (sym e)
      (subst (λ c. Answered A W s turn (served_with A W turn.buffer c call.Route)) (sym f) (answered_parked s turn h))

  stays_by : (buffer : List ℕ) (c : Carrier) → LeastStays A W (served_with A W buffer c call.Route).world
  stays_by buffer (carrier.Parked p) = (route_laws L F W.planner p.place buffer).stays G
  stays_by buffer (carrier.UnderWay p) = λ q g e l. (e, refl)

  route_stays : (turn : Turn T) → turn.call ≡ call.Route → LeastStays A W (served A W turn).world
  route_stays turn e = subst (λ c. LeastStays A W (served_with A W turn.buffer turn.slip c).world) (sym e) (stays_by turn.buffer turn.slip)

  -- with a good slip
  module _ (buffer : List ℕ) (n : ℕ) where
    route_says : (s : ℕ) → s < W.floor.places → (a : Result (Route T) Refusal) → (routed A W.floor W.planner s buffer).answer ≡ a → (said (answer_by answer.Route a)).refusal ≡ Some n → Fine n
    route_says s h (Ok a) e f = absurd (let z : ◌≡◌ {A = ℕ} 0 1 = cc in omega arith)
    route_says s h (Err why) e f =
        let q : n ≡ number_of why = cc in
        ⊎_elim (λ k. fine n 9 (q ∙ ap number_of k.0) (λ x. omega arith, λ x. omega arith, λ x. omega arith))
        (λ k. fine n 8 (q ∙ ap number_of k) (λ x. omega arith, λ x. omega arith, λ x. omega arith)) (routed_refused L F W.planner s buffer G why h e)

    step_says : (s : ℕ) → Good W (carrier.UnderWay (record { place = s })) → (a : Result ℕ Refusal) → step_answer W.floor W.planner s ≡ a → (said {T = T} (answer_by Place a)).refusal ≡ Some n → Fine n
    step_says s g (Ok a) e f = absurd (let z : ◌≡◌ {A = ℕ} 0 1 = cc in omega arith)
    step_says s g (Err why) e f =
        let q : n ≡ number_of why = cc in
        fine n 10 (q ∙ ap number_of (step_refused L F W.planner G s g.0 why g.1 e)) (λ x. omega arith, λ x. omega arith, λ x. omega arith)

    not_now : Some 14 ≡ Some n → Fine n
    not_now e = fine n 14 (cc) (λ x. omega arith, λ x. omega arith, λ x. omega arith)

    route_ordered : (c : Carrier) → Good W c → (said (served_with A W buffer c call.Route).answer).refusal ≡ Some n → Fine n
    route_ordered (carrier.Parked p) g e = route_says p.place g (routed A W.floor W.planner p.place buffer).answer refl e
    route_ordered (carrier.UnderWay p) g e = not_now e

    step_ordered : (c : Carrier) → Good W c → (said (served_with A W buffer c Step).answer).refusal ≡ Some n → Fine n
    step_ordered (carrier.Parked p) g e = not_now e
    step_ordered (carrier.UnderWay p) g e = step_says p.place g (step_answer W.floor W.planner p.place) refl e

  ordered_by : (turn : Turn T) → Good W turn.slip → (turn.call ≡ call.Route) ⊎ (turn.call ≡ Step) → (n : ℕ) → (said (served A W turn).answer).refusal ≡ Some n → Fine n
  ordered_by turn g k n e = ⊎_elim
      (λ q. route_ordered turn.buffer n turn.slip g (subst (λ c. (said (served_with A W turn.buffer turn.slip c).answer).refusal ≡ Some n) q e))
      (λ q. step_ordered turn.buffer n turn.slip g (subst (λ c. (said (served_with A W turn.buffer turn.slip c).answer).refusal ≡ Some n) q e)) k

-- a route or a step is one of the two
moving : {T : Type 0} (c : Call T) → Moving c → (c ≡ call.Route) ⊎ (c ≡ Step)
moving (Change k b) h = absurd h
moving (Put p) h = absurd h
moving call.Route h = inl refl
moving Step h = inr refl
moving Halt h = absurd h
moving (Read p) h = absurd h
moving Tally h = absurd h

module _ {T : Type 0} {A : Tolls T} (L : TollLaws A) where
  sound : ChangeSound A
  sound m F t E S k sp known b = change_sound L F S k sp known b

  drops : ChangeDropped A
  drops m F t E S k sp known b = change_dropped L F S k sp known b

  pub promised : {start : Start T} {calls : List (Event T)} {W : World T} → Reachable A start calls W → (turn : Turn T) → Promise A start calls W turn (served A W turn)
  promised {W = W} r turn =
      let k = reachable_sound L sound r in
      record {
        answered = λ s e f h. route_answered L W k.0 k.1 s turn e f h;
        dropped = λ j b e n. served_dropped A W drops k.0 k.1 j b turn e n;
        expanded = λ e. (route_expanded L W k.0 (reachable_tally r) turn e, route_stays L W k.0 k.1 turn e);
        ordered = λ i e c n f. ordered_by L W k.0 k.1 turn (subst (Good W) (sym e) (reachable_slip L sound r i)) (moving turn.call c) n f;
      }

  pub keeps : {W : World T} (turn : Turn T) → FloorLaws A (served A W turn).world.floor → Keeps A W turn (served A W turn)
  keeps turn F start calls r = record { promise = promised r turn; reachable = and_then r turn F }

  -- the same of what the code hands back and leaves
  module _ (W : World T) (turn : Turn T) {a : Answer T} {slip : Carrier} {w : World T} {buffer : List ℕ} (e : a ≡ (served A W turn).answer) (f : slip ≡ (served A W turn).slip)
      (h : w ≡ (served A W turn).world) (k : buffer ≡ (served A W turn).buffer) where
    all : record { answer = a; slip = slip; world = w; buffer = buffer } ≡ served A W turn
    all i = record { answer = e i; slip = f i; world = h i; buffer = k i }

    pub keeps_as : FloorLaws A w.floor → Keeps A W turn (record { answer = a; slip = slip; world = w; buffer = buffer })
    keeps_as F = subst (Keeps A W turn) (sym all) (keeps turn (subst (λ (v : World T). FloorLaws A v.floor) h F))

    -- where the world stays, its floor is lawful, since it is reachable
    pub keeps_still : w.floor ≡ W.floor → Keeps A W turn (record { answer = a; slip = slip; world = w; buffer = buffer })
    keeps_still q start calls r = keeps_as (subst (FloorLaws A) (sym q) (reachable_sound L sound r).0) start calls r
