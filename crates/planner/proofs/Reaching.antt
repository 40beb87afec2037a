-- In every world that calls lead to the floor is lawful, the tree is sound, and the tally is at most 4,294,967,295.
use Rattle.std.proofs.Common.{◌≡◌, ℕ, ◌≤◌, Bool, true, false, cond, eqb, List, length, is_ok, Some, None, Ok, Err, Option, Result, sym, refl, ap, ◌∙◌, subst, arith}
use Rattle.std.specs.List.{slice_get}
use Rattle.toll.specs.Tolls.{Tolls, TollLaws}
use Rattle.toll.specs.declared.refusal.Refusal.{Refusal}
use Rattle.toll.specs.declared.refusal.Refusal.TheVariants.{UnknownSpot, OtherFloor}
use Rattle.floor.specs.Meaning.{Meaning, Spot}
use Rattle.floor.specs.Setting.{answer_at, set_answer, with_toll, set_meaning}
use Rattle.floor.specs.FloorLaws.{FloorLaws}
use Rattle.planner.specs.declared.answers.Answer.TheVariants.{Done}
use Rattle.planner.specs.declared.call.Call.{Call}
use Rattle.planner.specs.declared.call.Call.TheVariants.{Change, Put, Step, Halt, Read, Tally}
use Rattle.planner.specs.declared.call.Call.TheVariants as call
use Rattle.planner.specs.declared.carrier.Carrier.{Carrier}
use Rattle.planner.specs.declared.carrier.Carrier.TheVariants as carrier
use Rattle.tree.specs.Tree.{Entry}
use Rattle.repair.specs.Cut.{shift_of, repaired}
use Rattle.astar.specs.Sound.{Sound}
use Rattle.repair.specs.Dropped.{Dropped}
use Rattle.planner.specs.Calls.{State, shift_at, change_by, route_refused, route_by, routed}
use Rattle.planner.specs.Served.{World, Turn, said, answer_by, served_with, served}
use Rattle.planner.specs.Reachable.{Start, Event, Reachable, set_up, and_then}
use Rattle.astar.proofs.StartSound.{start_sound}
use Rattle.planner.proofs.Starting.{accepted}
use Rattle.planner.proofs.RouteProof.{route_laws}

module _ {T : Type 0} (A : Tolls T) (m : Meaning T) (S : State T) (k : ℕ) (b : T) where
  -- an accepted change has its spot
  spot_there : (u : Unit {0}) → cond (eqb m.places (length S.tree)) (set_answer A m k b) (Err OtherFloor) ≡ Ok u → (sp : Spot T) × (slice_get m.spots k ≡ Some sp) × (is_ok (set_answer A m k b) ≡ true)
  spot_there u e = go (eqb m.places (length S.tree)) (set_answer A m k b) refl e
    where
      at : (o : Option (Spot T)) (u : Unit {0}) → slice_get m.spots k ≡ o → set_answer A m k b ≡ Ok u → (sp : Spot T) × (slice_get m.spots k ≡ Some sp) × (is_ok (set_answer A m k b) ≡ true)
      at None u q f = absurd (let g : Err UnknownSpot ≡ Ok u = sym (ap (λ o. answer_at A o b) q) ∙ f in let z : ◌≡◌ {A = ℕ} 0 1 = cc in omega arith)
      at (Some sp) u q f = (sp, q, ap is_ok f)

      go : (c : Bool) (r : Result (Unit {0}) Refusal) → set_answer A m k b ≡ r → cond c r (Err OtherFloor) ≡ Ok u → (sp : Spot T) × (slice_get m.spots k ≡ Some sp) × (is_ok (set_answer A m k b) ≡ true)
      go true r q f = at (slice_get m.spots k) u refl (q ∙ f)
      go false r q f = absurd (let z : ◌≡◌ {A = ℕ} 0 1 = cc in omega arith)

  -- what holds of the floor with the toll, and of the tree repaired on it, holds of what an accepted change leaves
  settled : (P : Meaning T → List (Entry T) → Type 0) (u : Unit {0}) → cond (eqb m.places (length S.tree)) (set_answer A m k b) (Err OtherFloor) ≡ Ok u →
      ((sp : Spot T) → slice_get m.spots k ≡ Some sp → P (with_toll m k (Some sp) b) (repaired (with_toll m k (Some sp) b) k S.target (shift_of A sp.toll b) S.tree)) →
      P (change_by A m S k b (Ok u)).floor (change_by A m S k b (Ok u)).state.tree
  settled P u e f =
      let r = spot_there u e in
      let is : set_meaning A m k b ≡ with_toll m k (slice_get m.spots k) b = ap (λ c. cond c (with_toll m k (slice_get m.spots k) b) m) r.2 in
      subst (λ n. P n (repaired n k S.target (shift_at A (slice_get m.spots k) b) S.tree)) (sym is)
      (subst (λ o. P (with_toll m k o b) (repaired (with_toll m k o b) k S.target (shift_at A o b) S.tree)) (sym r.1) (f r.0 r.1))

-- a tree is sound in a world
abbrev pub SoundIn : {T : Type 0} → Tolls T → World T → Type 0
SoundIn A W = Sound A W.floor W.planner.target W.planner.tree

-- what is shown elsewhere of a change
abbrev pub ChangeSound : {T : Type 0} → Tolls T → Type 0
ChangeSound {T} A = (m : Meaning T) (F : FloorLaws A m) (t : ℕ) (E : List (Entry T)) (S : Sound A m t E) (k : ℕ) (sp : Spot T) (at : slice_get m.spots k ≡ Some sp) (b : T) →
    Sound A (with_toll m k (Some sp) b) t (repaired (with_toll m k (Some sp) b) k t (shift_of A sp.toll b) E)

abbrev pub ChangeDropped : {T : Type 0} → Tolls T → Type 0
ChangeDropped {T} A = (m : Meaning T) (F : FloorLaws A m) (t : ℕ) (E : List (Entry T)) (S : Sound A m t E) (k : ℕ) (sp : Spot T) (at : slice_get m.spots k ≡ Some sp) (b : T) →
    Dropped A t m E (with_toll m k (Some sp) b) (repaired (with_toll m k (Some sp) b) k t (shift_of A sp.toll b) E)

module _ {T : Type 0} {A : Tolls T} (L : TollLaws A) (change_sound : ChangeSound A) where
  module _ (W : World T) (F : FloorLaws A W.floor) (S : SoundIn A W) where
    change_keeps : (k : ℕ) (b : T) (r : Result (Unit {0}) Refusal) → cond (eqb W.floor.places (length W.planner.tree)) (set_answer A W.floor k b) (Err OtherFloor) ≡ r →
        Sound A (change_by A W.floor W.planner k b r).floor W.planner.target (change_by A W.floor W.planner k b r).state.tree
    change_keeps k b (Ok u) e = settled A W.floor W.planner k b (λ m E. Sound A m W.planner.target E) u e (λ sp at. change_sound W.floor F W.planner.target W.planner.tree S k sp at b)
    change_keeps k b (Err why) e = S

    target_kept : (k : ℕ) (b : T) (r : Result (Unit {0}) Refusal) → (change_by A W.floor W.planner k b r).state.target ≡ W.planner.target
    target_kept k b (Ok u) = refl
    target_kept k b (Err why) = refl

    route_target : (s : ℕ) (buffer : List ℕ) (o : Option Refusal) → (route_by A W.floor W.planner s buffer o).state.target ≡ W.planner.target
    route_target s buffer None = refl
    route_target s buffer (Some why) = refl

    by_call : (buffer : List ℕ) (c : Carrier) (k : Call T) → SoundIn A (served_with A W buffer c k).world
    by_call buffer (carrier.Parked p) (Change k b) =
        let r = cond (eqb W.floor.places (length W.planner.tree)) (set_answer A W.floor k b) (Err OtherFloor) in
        subst (λ (t : ℕ). Sound A (change_by A W.floor W.planner k b r).floor t (change_by A W.floor W.planner k b r).state.tree) (sym (target_kept k b r)) (change_keeps k b r refl)
    by_call buffer (carrier.Parked p) (Put q) = S
    by_call buffer (carrier.Parked p) call.Route =
        let s = p.place in
        let r = routed A W.floor W.planner s buffer in
        subst (λ (t : ℕ). Sound A W.floor t r.state.tree) (sym (route_target s buffer (route_refused (length W.planner.tree) W.floor.places (length buffer) s))) ((route_laws L F W.planner s buffer).sound S)
    by_call buffer (carrier.Parked p) Step = S
    by_call buffer (carrier.Parked p) Halt = S
    by_call buffer (carrier.Parked p) (Read q) = S
    by_call buffer (carrier.Parked p) Tally = S
    by_call buffer (carrier.UnderWay p) (Change k b) = S
    by_call buffer (carrier.UnderWay p) (Put q) = S
    by_call buffer (carrier.UnderWay p) call.Route = S
    by_call buffer (carrier.UnderWay p) Step = S
    by_call buffer (carrier.UnderWay p) Halt = S
    by_call buffer (carrier.UnderWay p) (Read q) = S
    by_call buffer (carrier.UnderWay p) Tally = S

    -- every call keeps a tree sound
    pub served_sound : (turn : Turn T) → SoundIn A (served A W turn).world
    served_sound turn = by_call turn.buffer turn.slip turn.call

  -- reachable worlds are lawful and sound
  pub reachable_sound : {start : Start T} {calls : List (Event T)} {W : World T} → Reachable A start calls W → FloorLaws A W.floor × SoundIn A W
  reachable_sound {start} (set_up F e) = (F, start_sound L start.floor start.target (accepted start.records start.floor.places start.target start.place (sym e)).aim)
  reachable_sound (and_then {W = W} r turn F) = (F, let k = reachable_sound r in served_sound W k.0 k.1 turn)

-- an accepted change, and the tally
module _ {T : Type 0} (A : Tolls T) (W : World T) where
  module _ (change_dropped : ChangeDropped A) (F : FloorLaws A W.floor) (S : SoundIn A W) (k : ℕ) (b : T) where
    dropped_by_lem : (r : Result (Unit {0}) Refusal) → cond (eqb W.floor.places (length W.planner.tree)) (set_answer A W.floor k b) (Err OtherFloor) ≡ r →
        (said {T = T} (answer_by (λ u. Done) (change_by A W.floor W.planner k b r).answer)).refusal ≡ None →
        Dropped A W.planner.target W.floor W.planner.tree (change_by A W.floor W.planner k b r).floor (change_by A W.floor W.planner k b r).state.tree
    dropped_by_lem (Ok u) e n = settled A W.floor W.planner k b (λ m E. Dropped A W.planner.target W.floor W.planner.tree m E) u e (λ sp at. change_dropped W.floor F W.planner.target W.planner.tree S k sp at b)
    dropped_by_lem (Err why) e n = absurd (let z : ◌≡◌ {A = ℕ} 0 1 = cc in omega arith)

    dropped_with : (buffer : List ℕ) (c : Carrier) → (said (served_with A W buffer c (Change k b)).answer).refusal ≡ None →
        Dropped A W.planner.target W.floor W.planner.tree (served_with A W buffer c (Change k b)).world.floor (served_with A W buffer c (Change k b)).world.planner.tree
    dropped_with buffer (carrier.Parked p) n = dropped_by_lem (cond (eqb W.floor.places (length W.planner.tree)) (set_answer A W.floor k b) (Err OtherFloor)) refl n
    dropped_with buffer (carrier.UnderWay p) n = absurd (let z : ◌≡◌ {A = ℕ} 0 1 = cc in omega arith)

    pub served_dropped : (turn : Turn T) → turn.call ≡ Change k b → (said (served A W turn).answer).refusal ≡ None →
        Dropped A W.planner.target W.floor W.planner.tree (served A W turn).world.floor (served A W turn).world.planner.tree
    served_dropped turn e = subst (λ c. (said (served_with A W turn.buffer turn.slip c).answer).refusal ≡ None →
        Dropped A W.planner.target W.floor W.planner.tree (served_with A W turn.buffer turn.slip c).world.floor (served_with A W turn.buffer turn.slip c).world.planner.tree) (sym e) (dropped_with turn.buffer turn.slip)

  module _ (h : W.planner.tally ≤ 4294967295) where
    change_tally : (k : ℕ) (b : T) (r : Result (Unit {0}) Refusal) → (change_by A W.floor W.planner k b r).state.tally ≤ 4294967295
    change_tally k b (Ok u) = h
    change_tally k b (Err why) = h

    route_tally : (s : ℕ) (buffer : List ℕ) (o : Option Refusal) → (route_by A W.floor W.planner s buffer o).state.tally ≤ 4294967295
    route_tally s buffer None = omega arith
    route_tally s buffer (Some why) = h

    tally_by : (buffer : List ℕ) (c : Carrier) (k : Call T) → (served_with A W buffer c k).world.planner.tally ≤ 4294967295
    tally_by buffer (carrier.Parked p) (Change k b) = change_tally k b (cond (eqb W.floor.places (length W.planner.tree)) (set_answer A W.floor k b) (Err OtherFloor))
    tally_by buffer (carrier.Parked p) (Put q) = h
    tally_by buffer (carrier.Parked p) call.Route = route_tally p.place buffer (route_refused (length W.planner.tree) W.floor.places (length buffer) p.place)
    tally_by buffer (carrier.Parked p) Step = h
    tally_by buffer (carrier.Parked p) Halt = h
    tally_by buffer (carrier.Parked p) (Read q) = h
    tally_by buffer (carrier.Parked p) Tally = h
    tally_by buffer (carrier.UnderWay p) (Change k b) = h
    tally_by buffer (carrier.UnderWay p) (Put q) = h
    tally_by buffer (carrier.UnderWay p) call.Route = h
    tally_by buffer (carrier.UnderWay p) Step = h
    tally_by buffer (carrier.UnderWay p) Halt = h
    tally_by buffer (carrier.UnderWay p) (Read q) = h
    tally_by buffer (carrier.UnderWay p) Tally = h

pub reachable_tally : {T : Type 0} {A : Tolls T} {start : Start T} {calls : List (Event T)} {W : World T} → Reachable A start calls W → W.planner.tally ≤ 4294967295
reachable_tally (set_up F e) = omega arith
reachable_tally {A = A} (and_then {W = W} r turn F) = tally_by A W (reachable_tally r) turn.buffer turn.slip turn.call
