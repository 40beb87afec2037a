-- Repairing the tree after a spot's toll has changed: which places leave it, and which are opened again.
-- shift_of A old new           what became of a toll
-- by_place f E                 a list made of another, each item by its place number
-- joins m k p q                whether a lane of spot k leads from p to q
-- uses_spot m k E t n p        whether the recorded way from p uses a lane of spot k within its first n lanes
-- drops m k t E p              whether place p is dropped
-- repaired m k t shift E       the tree afterwards
use Rattle.std.specs.Prelude.{ℕ, zero, suc, Bool, false, cond, ◌&&◌, ◌||◌, List, [], ◌∷◌, length, is_some, Some, None, Option, ◌==◌}
use Rattle.std.specs.List.{list_any}
use Rattle.toll.specs.Tolls.{Tolls}
use Rattle.floor.specs.Meaning.{Meaning, Lane, has, into, of_spot}
use Rattle.tree.specs.Tree.{Entry, toll_at, next_at, blank_entry, marked, opened_if}
use Rattle.repair.specs.declared.shift.Shift.{Shift}
use Rattle.repair.specs.declared.shift.Shift.TheVariants.{Dearer, Cheaper, Same}

-- a toll became dearer if the new one is not at most the old one, cheaper if the old one is not at most the new one
abbrev pub shift_of : {T : Type 0} → Tolls T → (old new : T) → Shift
shift_of A old new = cond (A.le new old) (cond (A.le old new) Same Cheaper) Dearer

-- whether some item passes the test
abbrev pub some : {X : Type 0} → (X → Bool) → List X → Bool
some f xs = list_any f xs

-- each item by its place number, the first of which is n
abbrev pub by_place_from : {X Y : Type 0} → (ℕ → X → Y) → ℕ → List X → List Y
by_place_from f n [] = []
by_place_from f n (x ∷ xs) = f n x ∷ by_place_from f (suc n) xs

abbrev pub by_place : {X Y : Type 0} → (ℕ → X → Y) → List X → List Y
by_place f xs = by_place_from f 0 xs

-- whether there is a lane, and it leads from p to q
abbrev pub leads : (p q : ℕ) → Option Lane → Bool
leads p q None = false
leads p q (Some x) = x.leaves == p && x.enters == q

-- whether a lane of spot k leads from p to q
abbrev pub joins : {T : Type 0} → Meaning T → (k p q : ℕ) → Bool
joins m k p q = some (λ l. leads p q (m.lane l)) (of_spot m k)

-- whether the recorded way from p uses a lane of spot k within its first n lanes; it follows next places as far as the target t
abbrev pub uses_spot : {T : Type 0} → Meaning T → ℕ → List (Entry T) → (t n p : ℕ) → Bool
uses_spot m k E t zero p = false
uses_spot m k E t (suc n) p = cond (p == t) false (elim (next_at E p) [ None ↦ false | Some q ↦ joins m k p q || uses_spot m k E t n q ])

-- place p is dropped if it is in the tree and its recorded way uses a lane of spot k
abbrev pub drops : {T : Type 0} → Meaning T → (k t : ℕ) → List (Entry T) → ℕ → Bool
drops m k t E p = is_some (toll_at E p) && uses_spot m k E t (length E) p

-- for each place whether it is dropped
abbrev pub marks : {T : Type 0} → Meaning T → (k t : ℕ) → List (Entry T) → List Bool
marks m k t E = by_place (λ p e. drops m k t E p) E

-- whether there is a lane, and it leaves a marked place
abbrev pub leaves_marked : List Bool → Option Lane → Bool
leaves_marked ms None = false
leaves_marked ms (Some x) = marked ms x.leaves

-- whether a lane from a marked place, shut or not, enters p
abbrev pub beside_marked : {T : Type 0} → Meaning T → List Bool → ℕ → Bool
beside_marked m ms p = some (λ l. leaves_marked ms (m.lane l)) (into m p)

-- whether a lane of spot k, shut or not, enters p
abbrev pub entered_by : {T : Type 0} → Meaning T → (k p : ℕ) → Bool
entered_by m k p = some (λ l. has (λ x. x.enters) p (m.lane l)) (of_spot m k)

-- a marked place is dropped; a tree place beside a marked one is opened
abbrev pub cut_at : {T : Type 0} → Meaning T → List Bool → ℕ → Entry T → Entry T
cut_at m ms p e = cond (marked ms p) blank_entry (opened_if (beside_marked m ms p) e)

-- the tree after spot k has become dearer, cheaper, or stayed the same
abbrev pub repaired : {T : Type 0} → Meaning T → (k t : ℕ) → Shift → List (Entry T) → List (Entry T)
repaired m k t Dearer E = by_place (cut_at m (marks m k t E)) E
repaired m k t Cheaper E = by_place (λ p e. opened_if (entered_by m k p) e) E
repaired m k t Same E = E
