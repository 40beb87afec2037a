-- Ways over a floor, their tolls, and the recorded way.
-- lane_between, toll_between    the lane from one place to another, and its toll
-- ends p w                      where the way from p over the places w leads
-- way_toll A m p w              its toll, if each place is joined to the following by a lane
-- Least A m t p g               no way from p to t is cheaper than g
-- recorded E t n p              the places after p on its recorded way, within n lanes of the target
-- next_step m E p               the next place of p, if a lane leads there
use Rattle.std.specs.Prelude.{◌≡◌, ℕ, zero, suc, ◌-◌, Bool, false, cond, ◌&&◌, List, [], ◌∷◌, length, Some, None, Option, ◌==◌}
use Rattle.std.specs.Option.{option_map, unwrap_or}
use Rattle.std.specs.List.{find}
use Rattle.toll.specs.Tolls.{Tolls, Le}
use Rattle.floor.specs.Meaning.{Meaning, then, has, lane_toll, out_of}
use Rattle.tree.specs.declared.trace.Trace.{Trace}
use Rattle.tree.specs.Tree.{Entry, toll_at, next_at}

-- the first of some lanes that enters q
abbrev pub entering : {T : Type 0} → Meaning T → ℕ → List ℕ → Option ℕ
entering m q ls = find (λ l. has (λ x. x.enters) q (m.lane l)) ls

-- the lane from p to q
abbrev pub lane_between : {T : Type 0} → Meaning T → (p q : ℕ) → Option ℕ
lane_between m p q = entering m q (out_of m p)

-- the toll of the lane from p to q
abbrev pub toll_between : {T : Type 0} → Meaning T → (p q : ℕ) → Option T
toll_between m p q = then (lane_between m p q) (λ l. lane_toll m l)

-- the last place of the way from p over the places w
abbrev pub ends : ℕ → List ℕ → ℕ
ends p [] = p
ends p (q ∷ w) = ends q w

-- the toll of the way from p over the places w: its lanes' tolls joined in order; none where a lane is missing
abbrev pub way_toll : {T : Type 0} → Tolls T → Meaning T → ℕ → List ℕ → Option T
way_toll A m p [] = Some A.zero
way_toll A m p (q ∷ w) = then (toll_between m p q) (λ c. option_map (λ d. A.join c d) (way_toll A m q w))

-- no way from p to t has a smaller toll than g
abbrev pub Least : {T : Type 0} → Tolls T → Meaning T → (t p : ℕ) → T → Type 0
Least {T} A m t p g = (w : List ℕ) (c : T) → ends p w ≡ t → way_toll A m p w ≡ Some c → Le A g c

-- the places after p on its recorded way to the target t, which follows next places, if it gets there within n lanes
abbrev pub recorded : {T : Type 0} → List (Entry T) → (t n p : ℕ) → Option (List ℕ)
recorded E t zero p = cond (p == t) (Some []) None
recorded E t (suc n) p = cond (p == t) (Some []) (then (next_at E p) (λ q. option_map (λ w. q ∷ w) (recorded E t n q)))

-- the next place of a place in the tree, if a lane leads there
abbrev pub next_step : {T : Type 0} → Meaning T → List (Entry T) → ℕ → Option ℕ
next_step m E p = then (toll_at E p) (λ g. then (next_at E p) (λ q. option_map (λ c. q) (toll_between m p q)))

-- whether a toll is the one that may be recorded
abbrev pub same_toll : {T : Type 0} → Tolls T → T → Option T → Bool
same_toll A c None = false
same_toll A c (Some g) = A.le c g && A.le g c

-- the places after s on its recorded way, and its toll, where the floor bears it out: it reaches the target within places − 1 lanes,
-- has a lane at each step, and its toll is the one recorded
abbrev pub borne_out : {T : Type 0} → Tolls T → Meaning T → List (Entry T) → (t s : ℕ) → Option (List ℕ × T)
borne_out A m E t s =
    then (recorded E t (length E - 1) s) (λ w. then (way_toll A m s w) (λ c. cond (same_toll A c (toll_at E s)) (Some (w, c)) None))

-- a way's toll and the number of its lanes
abbrev pub traced : {T : Type 0} → List ℕ → T → Trace T
traced w c = record { toll = c; lanes = length w }

-- the toll of the recorded way from p and the number of its lanes, if it gets to the target within n lanes and no lane is missing
abbrev pub walked : {T : Type 0} → Tolls T → Meaning T → List (Entry T) → (t n p : ℕ) → Option (Trace T)
walked A m E t n p = then (recorded E t n p) (λ w. option_map (traced w) (way_toll A m p w))

-- n places from p on, each followed by its next place
abbrev pub trail : {T : Type 0} → List (Entry T) → (n p : ℕ) → List ℕ
trail E zero p = []
trail E (suc n) p = p ∷ trail E n (unwrap_or (next_at E p) p)
