-- The search: keys, the choice of the next place, its expansion, and the search until it is solved or no place is open.
-- Key, key, key_le             a place's two tolls in the search order
-- choice A m s E               the open place with the smallest key, ties to the smaller number
-- solved A m s E               the carrier's place is in the tree and no open place has smaller tolls in its key
-- expand A m x E               the tree after expanding place x
-- seek A m s n E               the search with at most n expansions
use Rattle.std.specs.Prelude.{ℕ, zero, suc, Bool, true, false, cond, not, ◌&&◌, List, [], ◌∷◌, length, Some, None, Option, slice_set}
use Rattle.std.specs.Option.{option_map, unwrap_or}
use Rattle.std.specs.List.{slice_get}
use Rattle.toll.specs.Tolls.{Tolls}
use Rattle.floor.specs.Meaning.{Meaning, Lane, lane_toll, into}
use Rattle.tree.specs.Tree.{Entry, toll_at, open_toll, close_at}
use Rattle.astar.specs.declared.outcome.Outcome.{Outcome}
use Rattle.astar.specs.declared.outcome.Outcome.TheVariants.{Solved, NoWay}
use Rattle.astar.specs.declared.key.Key.{Key}

-- the key of place p with recorded toll g, seen from s: the estimate joined with the recorded toll, then the recorded toll
abbrev pub key : {T : Type 0} → Tolls T → Meaning T → (s p : ℕ) → T → Key T
key A m s p g = record { far = A.join (unwrap_or (m.estimate s p) A.zero) g; near = g }

-- whether key k comes before key j or has the same tolls
abbrev pub key_le : {T : Type 0} → Tolls T → Key T → Key T → Bool
key_le A k j = cond (A.le k.far j.far) (cond (A.le j.far k.far) (A.le k.near j.near) true) false

-- the better of the best so far and place n, if that has a key; the best so far stays where the tolls are the same
abbrev pub better : {T : Type 0} → Tolls T → Option (ℕ × Key T) → ℕ → Option (Key T) → Option (ℕ × Key T)
better A b n None = b
better A None n (Some k) = Some (n, k)
better A (Some c) n (Some k) = cond (key_le A c.1 k) (Some c) (Some (n, k))

-- the best open place below n, with its key
abbrev pub best : {T : Type 0} → Tolls T → Meaning T → ℕ → List (Entry T) → ℕ → Option (ℕ × Key T)
best A m s E zero = None
best A m s E (suc n) = better A (best A m s E n) n (option_map (key A m s n) (open_toll E n))

-- the open place with the smallest key
abbrev pub choice : {T : Type 0} → Tolls T → Meaning T → ℕ → List (Entry T) → Option (ℕ × Key T)
choice A m s E = best A m s E (length E)

-- whether the key of the carrier's place, if it has one, is at most that of the chosen place
abbrev pub settles : {T : Type 0} → Tolls T → Option (Key T) → Option (ℕ × Key T) → Bool
settles A None c = false
settles A (Some k) None = true
settles A (Some k) (Some c) = key_le A k c.1

-- the search from s is solved
abbrev pub solved : {T : Type 0} → Tolls T → Meaning T → ℕ → List (Entry T) → Bool
solved A m s E = settles A (option_map (key A m s s) (toll_at E s)) (choice A m s E)

-- whether toll r is below shut, and below the toll that may be held
abbrev pub improves : {T : Type 0} → Tolls T → Option T → T → Bool
improves A None r = not (A.le A.shut r)
improves A (Some g) r = not (A.le A.shut r) && not (A.le g r)

-- place u records toll r and next place x and is open, if that improves it
abbrev pub offer : {T : Type 0} → Tolls T → (u x : ℕ) → T → List (Entry T) → List (Entry T)
offer A u x r E = cond (improves A (toll_at E u) r) (slice_set E u (record { toll = Some r; next = Some x; is_open = true })) E

-- a lane into x, if it is there with a toll, is tried: its toll joined with that of x is offered to the place it leaves
abbrev pub offer_lane : {T : Type 0} → Tolls T → (x : ℕ) → T → Option Lane → Option T → List (Entry T) → List (Entry T)
offer_lane A x g None c E = E
offer_lane A x g (Some l) None E = E
offer_lane A x g (Some l) (Some c) E = offer A l.leaves x (A.join c g) E

-- the lanes into x are tried one after the other
abbrev pub relaxed : {T : Type 0} → Tolls T → Meaning T → (x : ℕ) → T → List ℕ → List (Entry T) → List (Entry T)
relaxed A m x g [] E = E
relaxed A m x g (l ∷ ls) E = relaxed A m x g ls (offer_lane A x g (m.lane l) (lane_toll m l) E)

-- the lanes into x are tried, if x has a toll
abbrev pub relax_from : {T : Type 0} → Tolls T → Meaning T → (x : ℕ) → Option T → List (Entry T) → List (Entry T)
relax_from A m x None E = E
relax_from A m x (Some g) E = relaxed A m x g (into m x) E

-- place x is expanded: it is no longer open, and all lanes into it are tried
abbrev pub expand : {T : Type 0} → Tolls T → Meaning T → (x : ℕ) → List (Entry T) → List (Entry T)
expand A m x E = relax_from A m x (toll_at E x) (close_at E x (slice_get E x))

-- how a search ended, the tree it left, and the places that it expanded in their order
pub record Searched (T : Type 0) : Type 0 where
  pub outcome : Outcome
  pub tree : List (Entry T)
  pub expanded : List ℕ

-- the same with one more place in front
abbrev pub after : {T : Type 0} → ℕ → Searched T → Searched T
after x r = record { outcome = r.outcome; tree = r.tree; expanded = x ∷ r.expanded }

abbrev pub ended : {T : Type 0} → Outcome → List (Entry T) → Searched T
ended o E = record { outcome = o; tree = E; expanded = [] }

-- the search from s with at most n expansions: stop where it is solved, or where no place is open, else expand the choice
abbrev pub seek : {T : Type 0} → Tolls T → Meaning T → ℕ → ℕ → List (Entry T) → Searched T
seek A m s zero E = cond (solved A m s E) (ended Solved E) (ended NoWay E)
seek A m s (suc n) E =
    cond (solved A m s E) (ended Solved E) (elim (choice A m s E) [ None ↦ ended NoWay E | Some c ↦ after c.0 (seek A m s n (expand A m c.0 E)) ])
