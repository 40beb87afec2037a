-- Each call of its own keeps the promise.
use Rattle.std.proofs.Common.{◌≡◌, ℕ, ◌≤◌, List, [], length, Result, sym, refl, ap, subst}
use Rattle.toll.specs.Tolls.{Tolls, TollLaws}
use Rattle.toll.specs.declared.refusal.Refusal.{Refusal}
use Rattle.floor.specs.Meaning.{Meaning}
use Rattle.floor.specs.FloorLaws.{FloorLaws}
use Rattle.planner.specs.declared.answers.Answer.TheVariants.{Place}
use Rattle.planner.specs.declared.answers.Answer.TheVariants as answer
use Rattle.planner.specs.declared.answers.Route.{Route}
use Rattle.planner.specs.declared.answers.Reading.{Reading}
use Rattle.planner.specs.declared.call.Call.TheVariants.{Change, Put, Step, Halt, Read, Tally}
use Rattle.planner.specs.declared.call.Call.TheVariants as call
use Rattle.planner.specs.declared.carrier.Carrier.{Carrier}
use Rattle.planner.specs.declared.carrier.Carrier.TheVariants as carrier
use Rattle.planner.specs.declared.planner.Planner.{Planner}
use Rattle.planner.specs.Calls.{State, state_of, read_answer, routed, changed, put_answer, step_answer}
use Rattle.planner.specs.Served.{world_of, turn_of, slip_by, parked_at, under_way_at}
use Rattle.planner.specs.Handed.{moved_done, place_done, route_done, change_done, read_done}
use Rattle.planner.specs.Promise.{Expanded, Keeps}
use Rattle.planner.proofs.Serving.{route_expanded}
use Rattle.planner.proofs.Promising.{keeps_as, keeps_still}

module _ {T : Type 0} {A : Tolls T} (L : TollLaws A) (m : Meaning T) (P : Planner T) where
  pub put_keeps : (s p : ℕ) {r : Result ℕ Refusal} {c : Carrier} → r ≡ put_answer (length (state_of P).tree) p → c ≡ slip_by parked_at (parked_at s) (put_answer (length (state_of P).tree) p) →
      Keeps A (world_of m P) (turn_of (parked_at s) (Put p) []) (record { answer = moved_done r; slip = c; world = world_of m P; buffer = [] })
  put_keeps s p e f = keeps_still L (world_of m P) (turn_of (parked_at s) (Put p) []) (ap moved_done e) f refl refl refl

  pub step_keeps : (s : ℕ) {r : Result ℕ Refusal} {c : Carrier} → r ≡ step_answer m (state_of P) s → c ≡ slip_by under_way_at (under_way_at s) (step_answer m (state_of P) s) →
      Keeps A (world_of m P) (turn_of (under_way_at s) Step []) (record { answer = place_done r; slip = c; world = world_of m P; buffer = [] })
  step_keeps s e f = keeps_still L (world_of m P) (turn_of (under_way_at s) Step []) (ap place_done e) f refl refl refl

  pub halt_keeps : (s : ℕ) → Keeps A (world_of m P) (turn_of (under_way_at s) Halt []) (record { answer = Place s; slip = parked_at s; world = world_of m P; buffer = [] })
  halt_keeps s = keeps_still L (world_of m P) (turn_of (under_way_at s) Halt []) refl refl refl refl refl

  pub read_keeps : (p : ℕ) {r : Result (Reading T) Refusal} → r ≡ read_answer (state_of P).tree p → (c : Carrier) → Keeps A (world_of m P) (turn_of c (Read p) []) (record { answer = read_done r; slip = c; world = world_of m P; buffer = [] })
  read_keeps p e (carrier.Parked s) = keeps_still L (world_of m P) (turn_of (carrier.Parked s) (Read p) []) (ap read_done e) refl refl refl refl
  read_keeps p e (carrier.UnderWay s) = keeps_still L (world_of m P) (turn_of (carrier.UnderWay s) (Read p) []) (ap read_done e) refl refl refl refl

  pub tally_keeps : (c : Carrier) → Keeps A (world_of m P) (turn_of c Tally []) (record { answer = answer.Tally P.tally; slip = c; world = world_of m P; buffer = [] })
  tally_keeps (carrier.Parked s) = keeps_still L (world_of m P) (turn_of (carrier.Parked s) Tally []) refl refl refl refl refl
  tally_keeps (carrier.UnderWay s) = keeps_still L (world_of m P) (turn_of (carrier.UnderWay s) Tally []) refl refl refl refl refl

  pub route_keeps : (s : ℕ) (buffer : List ℕ) (P' : Planner T) {r : Result (Route T) Refusal} {c : Carrier} {b : List ℕ} → r ≡ (routed A m (state_of P) s buffer).answer →
      c ≡ slip_by (λ a. under_way_at s) (parked_at s) (routed A m (state_of P) s buffer).answer → state_of P' ≡ (routed A m (state_of P) s buffer).state → b ≡ (routed A m (state_of P) s buffer).buffer →
      Keeps A (world_of m P) (turn_of (parked_at s) call.Route buffer) (record { answer = route_done r; slip = c; world = world_of m P'; buffer = b })
  route_keeps s buffer P' e f h k = keeps_still L (world_of m P) (turn_of (parked_at s) call.Route buffer) (ap route_done e) f (ap (λ (S : State T). record { floor = m; planner = S }) h) k refl

  -- which places it expands is told on every lawful floor
  pub route_expanded_as : (s : ℕ) (buffer : List ℕ) (P' : Planner T) {r : Result (Route T) Refusal} {c : Carrier} {b : List ℕ} → FloorLaws A m → P.tally ≤ 4294967295 → r ≡ (routed A m (state_of P) s buffer).answer →
      c ≡ slip_by (λ a. under_way_at s) (parked_at s) (routed A m (state_of P) s buffer).answer → state_of P' ≡ (routed A m (state_of P) s buffer).state → b ≡ (routed A m (state_of P) s buffer).buffer →
      Expanded A (world_of m P) (turn_of (parked_at s) call.Route buffer) (record { answer = route_done r; slip = c; world = world_of m P'; buffer = b })
  route_expanded_as s buffer P' F t e f h k = subst (Expanded A (world_of m P) (turn_of (parked_at s) call.Route buffer)) (sym (λ i. record { answer = route_done (e i); slip = f i; world = record { floor = m; planner = h i }; buffer = k i }))
      (route_expanded L (world_of m P) F t (turn_of (parked_at s) call.Route buffer) refl)

  pub change_keeps : (s k : ℕ) (b : T) (m' : Meaning T) (P' : Planner T) {r : Result (Unit {0}) Refusal} → FloorLaws A m' → r ≡ (changed A m (state_of P) k b).answer →
      m' ≡ (changed A m (state_of P) k b).floor → state_of P' ≡ (changed A m (state_of P) k b).state →
      Keeps A (world_of m P) (turn_of (parked_at s) (Change k b) []) (record { answer = change_done r; slip = parked_at s; world = world_of m' P'; buffer = [] })
  change_keeps s k b m' P' F e f h = keeps_as L (world_of m P) (turn_of (parked_at s) (Change k b) []) (ap change_done e) refl (λ i. record { floor = f i; planner = h i }) refl F
