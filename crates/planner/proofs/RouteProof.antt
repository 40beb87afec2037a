-- The laws of a route.
use Rattle.std.proofs.Common.{◌≡◌, ℕ, suc, Bool, true, false, cond, not, eqb, ltb, ◌⊎◌, List, length, Some, None, Ok, Err, Option, sym, refl, ap, ◌∙◌, subst, inl, inr, ⊎_elim, arith}
use Rattle.std.proofs.lemmas.Bool.Decides.{nat_tests}
use Rattle.toll.specs.Tolls.{Tolls, TollLaws, Le, Lt}
use Rattle.toll.specs.declared.refusal.Refusal.{Refusal}
use Rattle.toll.specs.declared.refusal.Refusal.TheVariants.{UnknownPlace, NoWay, ShortBuffer, OtherFloor, BrokenWay}
use Rattle.floor.specs.Meaning.{Meaning}
use Rattle.floor.specs.FloorLaws.{FloorLaws}
use Rattle.planner.specs.declared.answers.Route.{Route}
use Rattle.astar.specs.declared.outcome.Outcome.{Outcome}
use Rattle.astar.specs.declared.outcome.Outcome.TheVariants.{Solved}
use Rattle.astar.specs.declared.outcome.Outcome.TheVariants as outcome
use Rattle.tree.specs.Tree.{toll_at, next_at}
use Rattle.tree.specs.Ways.{ends, way_toll, Least}
use Rattle.astar.specs.Search.{Searched, seek}
use Rattle.astar.specs.Runs.{Once, Expands, none}
use Rattle.astar.specs.Sound.{Sound}
use Rattle.planner.specs.Calls.{State, way_answer, way_buffer, search_answer, search_buffer, route_refused, route_by}
use Rattle.planner.specs.RouteLaws.{expanded_by, CheapestWay, AnswersBelowShut, RouteLaws}
use Rattle.astar.proofs.Running.{run_once}
use Rattle.astar.proofs.Keeping.{expand_sound, run_sound, run_stays}
use Rattle.astar.proofs.Ending.{seek_run, seek_solved, seek_spent, own, climb, solved_least, solved_toll, solved_leads, solved_borne, spent_shut}

-- before its run a route is refused with 11, 9 or 7 alone
pub early : (places floor buffer place : ℕ) (why : Refusal) → route_refused places floor buffer place ≡ Some why → (why ≡ OtherFloor) ⊎ ((why ≡ ShortBuffer) ⊎ (why ≡ UnknownPlace))
early places floor buffer place why = go (not (eqb floor places)) (ltb buffer places) (ltb place places)
  where
    go : (a b c : Bool) → cond a (Some OtherFloor) (cond b (Some ShortBuffer) (cond c None (Some UnknownPlace))) ≡ Some why → (why ≡ OtherFloor) ⊎ ((why ≡ ShortBuffer) ⊎ (why ≡ UnknownPlace))
    go true b c e = inl (cc)
    go false true c e = inr (inl (cc))
    go false false true e = absurd (let z : ◌≡◌ {A = ℕ} 0 1 = cc in omega arith)
    go false false false e = inr (inr (cc))

pub same_floor : (places floor buffer place : ℕ) → route_refused places floor buffer place ≡ None → places ≡ floor
same_floor places floor buffer place e = grind (arith, nat_tests)

module _ {T : Type 0} {A : Tolls T} (L : TollLaws A) {m : Meaning T} (F : FloorLaws A m) (S : State T) (s : ℕ) (buffer : List ℕ) where
  -- the laws of a route, by why it may be refused before its run
  record Laws (o : Option Refusal) : Type 0 where
    once : Once (expanded_by A m S s o)
    run : Expands A m s S.tree (expanded_by A m S s o) (route_by A m S s buffer o).state.tree
    sound : Sound A m S.target S.tree → Sound A m S.target (route_by A m S s buffer o).state.tree
    cheapest : Sound A m S.target S.tree → (a : Route T) → (route_by A m S s buffer o).answer ≡ Ok a → CheapestWay A m S.target s buffer (route_by A m S s buffer o).buffer a
    below : AnswersBelowShut A m S (route_by A m S s buffer o).answer
    shut : Sound A m S.target S.tree → (route_by A m S s buffer o).answer ≡ Err NoWay → (w : List ℕ) (c : T) → ends s w ≡ S.target → way_toll A m s w ≡ Some c → c ≡ A.shut
    whole : Sound A m S.target S.tree → (route_by A m S s buffer o).answer ≡ Err BrokenWay → ⊥
    stays : Sound A m S.target S.tree → (p : ℕ) (g : T) → toll_at S.tree p ≡ Some g → Least A m S.target p g →
        (toll_at (route_by A m S s buffer o).state.tree p ≡ Some g) × (next_at (route_by A m S s buffer o).state.tree p ≡ next_at S.tree p)

  refused : (why : Refusal) → (why ≡ OtherFloor) ⊎ ((why ≡ ShortBuffer) ⊎ (why ≡ UnknownPlace)) → Laws (Some why)
  refused why k = record {
    once = tt;
    run = none;
    sound = λ G. G;
    cheapest = λ G a e. absurd (let z : ◌≡◌ {A = ℕ} 0 1 = cc in omega arith);
    below = λ G a e. absurd (let z : ◌≡◌ {A = ℕ} 0 1 = cc in omega arith);
    shut = λ G e. absurd (other NoWay (λ q. let z : ◌≡◌ {A = ℕ} 0 1 = cc in omega arith) (λ q. let z : ◌≡◌ {A = ℕ} 0 1 = cc in omega arith) (λ q. let z : ◌≡◌ {A = ℕ} 0 1 = cc in omega arith) (let q : why ≡ NoWay = cc in q));
    whole = λ G e. other BrokenWay (λ q. let z : ◌≡◌ {A = ℕ} 0 1 = cc in omega arith) (λ q. let z : ◌≡◌ {A = ℕ} 0 1 = cc in omega arith) (λ q. let z : ◌≡◌ {A = ℕ} 0 1 = cc in omega arith) (let q : why ≡ BrokenWay = cc in q);
    stays = λ G p g e l. (e, refl);
  }
    where
      other : (r : Refusal) → (r ≡ OtherFloor → ⊥) → (r ≡ ShortBuffer → ⊥) → (r ≡ UnknownPlace → ⊥) → why ≡ r → ⊥
      other r a b c q = ⊎_elim (λ x. a (sym q ∙ x)) (⊎_elim (λ x. b (sym q ∙ x)) (λ x. c (sym q ∙ x))) k

  R : Searched T
  R = seek A m s (length S.tree) S.tree

  module _ (size : length S.tree ≡ m.places) where
    after_sound : Sound A m S.target S.tree → Sound A m S.target R.tree
    unfolding R
    after_sound G = run_sound L F (seek_run L F s S.tree size) G

    -- by how the run ended
    answered : (o : Outcome) → R.outcome ≡ o → Sound A m S.target S.tree → (a : Route T) → search_answer A m S.target s R o ≡ Ok a → CheapestWay A m S.target s buffer (search_buffer A m S.target s buffer R o) a
    unfolding R
    answered outcome.NoWay q G a e = absurd (let z : ◌≡◌ {A = ℕ} 0 1 = cc in omega arith)
    answered Solved q G a e =
        let E = R.tree in
        let H = after_sound G in
        let ok = seek_solved L F s S.tree size q in
        let b = solved_borne L F s E H ok in
        let r : record { toll = (own L F s E H ok).0; count = length R.expanded; length = suc (length (climb L F s E H ok).0) } ≡ a =
        (let f : Ok (record { toll = (own L F s E H ok).0; count = length R.expanded; length = suc (length (climb L F s E H ok).0) }) ≡ Ok a = sym (ap (way_answer (length R.expanded)) b) ∙ e in cc) in
        record {
          way = (climb L F s E H ok).0;
          leads = solved_leads L F s E H ok;
          toll = solved_toll L F s E H ok ∙ ap (λ (x : Route T). Some x.toll) r;
          least = λ w c f g. subst (λ (x : Route T). Le A x.toll c) r (solved_least L F s E H ok w c f g);
          long = sym (ap (λ (x : Route T). x.length) r);
          written = ap (way_buffer s buffer) b;
        }

    below_shut : (o : Outcome) → R.outcome ≡ o → AnswersBelowShut A m S (search_answer A m S.target s R o)
    unfolding R
    below_shut outcome.NoWay q G a e = absurd (let z : ◌≡◌ {A = ℕ} 0 1 = cc in omega arith)
    below_shut Solved q G a e =
        let E = R.tree in
        let H = after_sound G in
        let ok = seek_solved L F s S.tree size q in
        let b = solved_borne L F s E H ok in
        let r : (own L F s E H ok).0 ≡ a.toll =
        (let f : Ok (record { toll = (own L F s E H ok).0; count = length R.expanded; length = suc (length (climb L F s E H ok).0) }) ≡ Ok a = sym (ap (way_answer (length R.expanded)) b) ∙ e in cc) in
        subst (λ c. Lt A c A.shut) r (H.below s (own L F s E H ok).0 (own L F s E H ok).1)

    broken : (o : Outcome) → R.outcome ≡ o → Sound A m S.target S.tree → search_answer A m S.target s R o ≡ Err BrokenWay → ⊥
    unfolding R
    broken outcome.NoWay q G e = let z : ◌≡◌ {A = ℕ} 0 1 = cc in omega arith
    broken Solved q G e =
        let b = solved_borne L F s R.tree (after_sound G) (seek_solved L F s S.tree size q) in
        let f = sym (ap (way_answer (length R.expanded)) b) ∙ e in
        let z : ◌≡◌ {A = ℕ} 0 1 = cc in omega arith

    closed : (o : Outcome) → R.outcome ≡ o → Sound A m S.target S.tree → search_answer A m S.target s R o ≡ Err NoWay → (w : List ℕ) (c : T) → ends s w ≡ S.target → way_toll A m s w ≡ Some c → c ≡ A.shut
    unfolding R
    closed Solved q G e w c f g =
        let b = solved_borne L F s R.tree (after_sound G) (seek_solved L F s S.tree size q) in
        let h = sym (ap (way_answer (length R.expanded)) b) ∙ e in
        absurd (let z : ◌≡◌ {A = ℕ} 0 1 = cc in omega arith)
    closed outcome.NoWay q G e w c f g = let k = seek_spent L F s S.tree size q in spent_shut L F s R.tree (after_sound G) k.0 k.1 w c f g

    searched : Laws None
    unfolding R
    searched = record {
      once = (run_once L F s size (seek_run L F s S.tree size)).once;
      run = seek_run L F s S.tree size;
      sound = after_sound;
      cheapest = answered R.outcome refl;
      below = below_shut R.outcome refl;
      shut = closed R.outcome refl;
      whole = broken R.outcome refl;
      stays = λ G p g e l. run_stays L F p g (seek_run L F s S.tree size) G e l;
    }

  laws : (o : Option Refusal) → route_refused (length S.tree) m.places (length buffer) s ≡ o → Laws o
  laws None e = searched (same_floor (length S.tree) m.places (length buffer) s e)
  laws (Some why) e = refused why (early (length S.tree) m.places (length buffer) s why e)

  pub route_laws : RouteLaws A m S s buffer
  route_laws = let k = laws (route_refused (length S.tree) m.places (length buffer) s) refl in record { once = k.once; run = k.run; each = expand_sound L F; sound = k.sound; cheapest = k.cheapest; shut = k.shut; whole = k.whole; stays = k.stays }

  pub answers_below_shut : AnswersBelowShut A m S (route_by A m S s buffer (route_refused (length S.tree) m.places (length buffer) s)).answer
  answers_below_shut = (laws (route_refused (length S.tree) m.places (length buffer) s) refl).below
