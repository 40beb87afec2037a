-- The search tree: for each place a recorded toll, a next place towards the target, and whether it is open.
-- Entry T, tree_of               what the table's records say, place by place
-- toll_at, next_at, open_toll    of a place: its recorded toll, its next place, its toll if it is open
-- start_tree                     the tree at set-up
-- close_at, opened_if            a place is closed, or opened
-- alter f E p                    a list with one item changed
-- marks_of, marked               the marks in a table's records
use Rattle.std.specs.Prelude.{ℕ, zero, suc, Bool, true, false, cond, ◌&&◌, List, [], ◌∷◌, map, replicate, is_some, Some, None, Option, slice_set}
use Rattle.std.specs.Option.{unwrap_or}
use Rattle.std.specs.List.{slice_get}
use Rattle.toll.specs.Tolls.{Tolls}
use Rattle.floor.specs.Meaning.{then}
use Rattle.tree.specs.declared.record.Record.{Record}

-- what is recorded of a place; with no toll it is outside the tree
pub record Entry (T : Type 0) : Type 0 where
  -- the recorded toll from here to the target
  pub toll : Option T
  -- the place after this one on the recorded way
  pub next : Option ℕ
  -- whether the place waits to be expanded
  pub is_open : Bool

-- what a record of the table says
abbrev pub entry_of : {T : Type 0} → Record T → Entry T
entry_of r = record { toll = r.toll; next = r.next; is_open = r.is_open }

-- what a table says
abbrev pub tree_of : {T : Type 0} → List (Record T) → List (Entry T)
tree_of rs = map entry_of rs

-- the recorded toll of a place in the tree
abbrev pub toll_at : {T : Type 0} → List (Entry T) → ℕ → Option T
toll_at E p = then (slice_get E p) (λ e. e.toll)

-- the next place of a place
abbrev pub next_at : {T : Type 0} → List (Entry T) → ℕ → Option ℕ
next_at E p = then (slice_get E p) (λ e. e.next)

-- the recorded toll of an open place
abbrev pub open_toll : {T : Type 0} → List (Entry T) → ℕ → Option T
open_toll E p = then (slice_get E p) (λ e. cond e.is_open e.toll None)

-- outside the tree
abbrev pub blank_entry : {T : Type 0} → Entry T
blank_entry = record { toll = None; next = None; is_open = false }

-- at set-up the target alone is in the tree, at zero, and open
abbrev pub start_tree : {T : Type 0} → Tolls T → (places target : ℕ) → List (Entry T)
start_tree A places target = slice_set (replicate places blank_entry) target (record { toll = Some A.zero; next = None; is_open = true })

-- place x, if it is there, is no longer open
abbrev pub close_at : {T : Type 0} → List (Entry T) → ℕ → Option (Entry T) → List (Entry T)
close_at E x None = E
close_at E x (Some e) = slice_set E x (record { toll = e.toll; next = e.next; is_open = false })

-- the item at one place changed
abbrev pub alter : {X : Type 0} → (X → X) → List X → ℕ → List X
alter f [] p = []
alter f (x ∷ xs) zero = f x ∷ xs
alter f (x ∷ xs) (suc p) = x ∷ alter f xs p

-- a place in the tree is opened, if that is asked for
abbrev pub opened_if : {T : Type 0} → Bool → Entry T → Entry T
opened_if b e = cond (b && is_some e.toll) (record { toll = e.toll; next = e.next; is_open = true }) e

-- the marks in a table's records
abbrev pub marks_of : {T : Type 0} → List (Record T) → List Bool
marks_of rs = map (λ r. r.is_cut) rs

-- whether place p is marked
abbrev pub marked : List Bool → ℕ → Bool
marked ms p = unwrap_or (slice_get ms p) false
