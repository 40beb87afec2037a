-- What a route expands, told by the trees before and after it.
use Rattle.std.proofs.Common.{◌≡◌, ℕ, ◌+◌, ◌≤◌, min, true, ◌⊎◌, List, [], length, is_some, Some, None, Option, Result, sym, refl, ap, ◌∙◌, subst, inl, inr, ⊎_elim, true≢false, arith}
use Rattle.toll.specs.Tolls.{Tolls, TollLaws}
use Rattle.toll.specs.Refusals.{number_of}
use Rattle.toll.specs.declared.refusal.Refusal.{Refusal}
use Rattle.toll.specs.declared.refusal.Refusal.TheVariants.{UnknownPlace, ShortBuffer, OtherFloor}
use Rattle.floor.specs.Meaning.{Meaning}
use Rattle.floor.specs.FloorLaws.{FloorLaws}
use Rattle.planner.specs.declared.answers.Answer.TheVariants as answer
use Rattle.planner.specs.declared.answers.Route.{Route}
use Rattle.planner.specs.declared.call.Call.TheVariants as call
use Rattle.planner.specs.declared.carrier.Carrier.{Carrier}
use Rattle.planner.specs.declared.carrier.Carrier.TheVariants as carrier
use Rattle.astar.specs.declared.outcome.Outcome.{Outcome}
use Rattle.astar.specs.declared.outcome.Outcome.TheVariants.{Solved}
use Rattle.astar.specs.declared.outcome.Outcome.TheVariants as outcome
use Rattle.tree.specs.Tree.{Entry, open_toll}
use Rattle.tree.specs.Ways.{borne_out}
use Rattle.astar.specs.Search.{Searched, seek, solved}
use Rattle.astar.specs.Expanded.{ExpandedAt}
use Rattle.planner.specs.Calls.{way_answer, search_answer, route_refused, route_by}
use Rattle.planner.specs.Served.{World, Turn, parked_at, said, answer_by, served_route, served_with, served}
use Rattle.planner.specs.Promise.{Expanded}
use Rattle.astar.proofs.Choosing.{none_open}
use Rattle.astar.proofs.Running.{run_once}
use Rattle.astar.proofs.Ending.{seek_run, seek_solved, seek_spent}
use Rattle.astar.proofs.Telling.{run_expanded, expanded_run}
use Rattle.planner.proofs.RouteProof.{early, same_floor}

-- a tree by itself shows no place as expanded
unexpanded : {T : Type 0} (E : List (Entry T)) (p : ℕ) → ExpandedAt E E p → ⊥
unexpanded E p k = ⊎_elim (λ o. true≢false (sym o ∙ ap is_some k.closed)) (λ n. n k.recorded) k.fresh

-- what a runed route says of its count and its refusal
record Says {T : Type 0} (count : ℕ) (a : Result (Route T) Refusal) : Type 0 where
  counts : (n : ℕ) → (said (answer_by answer.Route a)).count ≡ Some n → n ≡ count
  refuses : (n : ℕ) → (said (answer_by answer.Route a)).refusal ≡ Some n → (n ≡ 8) ⊎ (n ≡ 12)

says_way : {T : Type 0} (count : ℕ) (o : Option (List ℕ × T)) → Says count (way_answer count o)
says_way count None = record { counts = λ n e. absurd (let z : ◌≡◌ {A = ℕ} 0 1 = cc in omega arith); refuses = λ n e. inr (cc) }
says_way count (Some p) = record { counts = λ n e. cc; refuses = λ n e. absurd (let z : ◌≡◌ {A = ℕ} 0 1 = cc in omega arith) }

says_ran : {T : Type 0} (A : Tolls T) (m : Meaning T) (t s : ℕ) (r : Searched T) (o : Outcome) → Says (length r.expanded) (search_answer A m t s r o)
says_ran A m t s r Solved = says_way (length r.expanded) (borne_out A m r.tree t s)
says_ran A m t s r outcome.NoWay = record { counts = λ n e. absurd (let z : ◌≡◌ {A = ℕ} 0 1 = cc in omega arith); refuses = λ n e. inl (cc) }

-- a route that is refused before its run does not say that it ran
says_early : (why : Refusal) → (why ≡ OtherFloor) ⊎ ((why ≡ ShortBuffer) ⊎ (why ≡ UnknownPlace)) → (number_of why ≡ 8) ⊎ (number_of why ≡ 12) → ⊥
says_early why k e = ⊎_elim (λ q. let h : number_of why ≡ 11 = ap number_of q in omega arith)
    (⊎_elim (λ q. let h : number_of why ≡ 9 = ap number_of q in omega arith) (λ q. let h : number_of why ≡ 7 = ap number_of q in omega arith)) k

-- the tally stops at 4,294,967,295, and so it stays there
untold : (n : ℕ) → n ≤ 4294967295 → n ≡ min (n + 0) 4294967295
untold n h = omega arith

module _ {T : Type 0} {A : Tolls T} (L : TollLaws A) (W : World T) (F : FloorLaws A W.floor) (h : W.planner.tally ≤ 4294967295) (turn : Turn T) where
  -- a route that does not search
  nothing : (slip : Carrier) (buffer : List ℕ) (why : Refusal) → ¬ ((number_of why ≡ 8) ⊎ (number_of why ≡ 12)) → Expanded A W turn (record { answer = answer.Refused why; slip = slip; world = W; buffer = buffer })
  nothing slip buffer why ne = record {
    places = [];
    once = tt;
    all = λ p k. unexpanded W.planner.tree p k;
    only = λ p i. absurd i;
    tally = untold W.planner.tally h;
    count = λ n e. absurd (let z : ◌≡◌ {A = ℕ} 0 1 = cc in omega arith);
    ran = λ k. absurd (⊎_elim (λ e. let z : ◌≡◌ {A = ℕ} 0 1 = cc in omega arith) (⊎_elim (λ e. ne (inl (cc))) (λ e. ne (inr (cc)))) k);
    idle = λ n e a b. refl;
  }

  module _ (s : ℕ) (is : turn.slip ≡ parked_at s) where
    R : Searched T
    R = seek A W.floor s (length W.planner.tree) W.planner.tree

    ended : length W.planner.tree ≡ W.floor.places → (o : Outcome) → R.outcome ≡ o → (solved A W.floor s R.tree ≡ true) ⊎ ((p : ℕ) → open_toll R.tree p ≡ None)
    unfolding R
    ended size Solved e = inl (seek_solved L F s W.planner.tree size e)
    ended size outcome.NoWay e = inr (none_open L W.floor s R.tree (seek_spent L F s W.planner.tree size e).1)

    -- a route with a parked slip, by why it may be refused before its run
    parked : (o : Option Refusal) → route_refused (length W.planner.tree) W.floor.places (length turn.buffer) s ≡ o → Expanded A W turn (served_route W s (route_by A W.floor W.planner s turn.buffer o))
    unfolding R
    parked (Some why) e = nothing _ _ why (says_early why (early (length W.planner.tree) W.floor.places (length turn.buffer) s why e))
    parked None e =
        let size = same_floor (length W.planner.tree) W.floor.places (length turn.buffer) s e in
        let run = seek_run L F s W.planner.tree size in
        let k = says_ran A W.floor W.planner.target s R R.outcome in
        record {
          places = R.expanded;
          once = (run_once L F s size run).once;
          all = λ p x. expanded_run L F s size run p x;
          only = λ p i. run_expanded L F s size run p i;
          tally = refl;
          count = k.counts;
          ran = λ _. (s, is, record { run = run; ended = ended size R.outcome refl });
          idle = λ n x a b. absurd (⊎_elim a b (k.refuses n x));
        }

  by_slip : (c : Carrier) → turn.slip ≡ c → Expanded A W turn (served_with A W turn.buffer c call.Route)
  by_slip (carrier.Parked p) e = parked p.place e (route_refused (length W.planner.tree) W.floor.places (length turn.buffer) p.place) refl
  by_slip (carrier.UnderWay p) e = nothing _ _ _ (λ k. omega arith)

  pub route_expanded : turn.call ≡ call.Route → Expanded A W turn (served A W turn)
  route_expanded e = subst (λ c. Expanded A W turn (served_with A W turn.buffer turn.slip c)) (sym e) (by_slip turn.slip refl)
