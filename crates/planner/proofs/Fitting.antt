-- An answered route's way fits its buffer, since the buffer keeps its length.
use Rattle.std.proofs.Common.{◌≡◌, ℕ, suc, ◌≤◌, List, ◌∷◌, length, drop, Some, None, Ok, Option, ap, arith, length-append, length-drop}
use Rattle.toll.specs.Tolls.{Tolls}
use Rattle.toll.specs.declared.refusal.Refusal.{Refusal}
use Rattle.floor.specs.Meaning.{Meaning}
use Rattle.planner.specs.declared.answers.Route.{Route}
use Rattle.astar.specs.declared.outcome.Outcome.{Outcome}
use Rattle.astar.specs.declared.outcome.Outcome.TheVariants.{Solved, NoWay}
use Rattle.tree.specs.Ways.{borne_out}
use Rattle.astar.specs.Search.{Searched, seek}
use Rattle.planner.specs.Calls.{State, way_answer, way_buffer, search_answer, search_buffer, route_refused, route_by, routed}

module _ {T : Type 0} (A : Tolls T) (m : Meaning T) (S : State T) (s : ℕ) (buffer : List ℕ) (a : Route T) where
  by_way : (count : ℕ) (o : Option (List ℕ × T)) → way_answer count o ≡ Ok a → length (way_buffer s buffer o) ≡ length buffer → a.length ≤ length buffer
  by_way count None e f = absurd (let z : ◌≡◌ {A = ℕ} 0 1 = cc in omega arith)
  by_way count (Some p) e f =
      let r : record { toll = p.1; count = count; length = suc (length p.0) } ≡ a = cc in
      let n : suc (length p.0) ≡ a.length = ap (λ (q : Route T). q.length) r in
      omega (arith, length-append (s ∷ p.0) (drop (suc (length p.0)) buffer), length-drop (suc (length p.0)) buffer)

  by_search : (r : Searched T) (o : Outcome) → search_answer A m S.target s r o ≡ Ok a → length (search_buffer A m S.target s buffer r o) ≡ length buffer → a.length ≤ length buffer
  by_search r Solved e f = by_way (length r.expanded) (borne_out A m r.tree S.target s) e f
  by_search r NoWay e f = absurd (let z : ◌≡◌ {A = ℕ} 0 1 = cc in omega arith)

  by_refusal : (o : Option Refusal) → (route_by A m S s buffer o).answer ≡ Ok a → length (route_by A m S s buffer o).buffer ≡ length buffer → a.length ≤ length buffer
  by_refusal (Some why) e f = absurd (let z : ◌≡◌ {A = ℕ} 0 1 = cc in omega arith)
  by_refusal None e f = by_search (seek A m s (length S.tree) S.tree) (seek A m s (length S.tree) S.tree).outcome e f

  pub way_fits : (routed A m S s buffer).answer ≡ Ok a → length (routed A m S s buffer).buffer ≡ length buffer → a.length ≤ length buffer
  way_fits e f = by_refusal (route_refused (length S.tree) m.places (length buffer) s) e f
