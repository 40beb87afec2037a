-- When a tree is sound for the tolls that stand: the invariant that every expansion keeps.
-- Here shut stands for absence: a place outside the tree has the toll shut, and so has a lane that is not there.
-- Chart, chart_of              the tree as functions of the place
-- cost A m u v                 the toll of the lane from u to v
-- Follows, Climbs              next places lead from p to t, over the places w
-- SoundChart, Sound A m t E    the invariant
use Rattle.std.specs.Prelude.{◌≡◌, ℕ, ◌<◌, Bool, true, false, List, [], ◌∷◌, length, is_some, Some}
use Rattle.std.specs.Option.{unwrap_or}
use Rattle.toll.specs.Tolls.{Tolls, Le, Lt}
use Rattle.floor.specs.Meaning.{Meaning}
use Rattle.tree.specs.Tree.{Entry, toll_at, next_at, open_toll}
use Rattle.tree.specs.Ways.{toll_between}

-- a tree as functions of the place
pub record Chart (T : Type 0) : Type 0 where
  pub g : ℕ → T
  pub next : ℕ → ℕ
  pub is_open : ℕ → Bool

abbrev pub chart_of : {T : Type 0} → Tolls T → List (Entry T) → Chart T
chart_of A E = record {
  g = λ p. unwrap_or (toll_at E p) A.shut;
  next = λ p. unwrap_or (next_at E p) 0;
  is_open = λ p. is_some (open_toll E p);
}

-- the toll of the lane from u to v
abbrev pub cost : {T : Type 0} → Tolls T → Meaning T → ℕ → ℕ → T
cost A m u v = unwrap_or (toll_between m u v) A.shut

-- p is in the tree
abbrev pub InTree : {T : Type 0} → Tolls T → Chart T → ℕ → Type 0
InTree A S p = Lt A (S.g p) A.shut

-- w are the places after p as next places give them, as far as t
abbrev pub Follows : (ℕ → ℕ) → ℕ → ℕ → List ℕ → Type 0
Follows next t p [] = p ≡ t
Follows next t p (q ∷ w) = (¬ (p ≡ t)) × (q ≡ next p) × Follows next t q w

abbrev pub Climbs : (ℕ → ℕ) → ℕ → ℕ → Type 0
Climbs next t p = (w : List ℕ) × Follows next t p w

-- a chart is sound for lane tolls c and target t
pub record SoundChart {T : Type 0} (A : Tolls T) (c : ℕ → ℕ → T) (t : ℕ) (S : Chart T) : Type 0 where
  -- the target has toll zero
  pub target : S.g t ≡ A.zero
  -- a place in the tree has at least the toll of the lane to its next place joined with the toll recorded there
  pub tree : (p : ℕ) → ¬ (p ≡ t) → InTree A S p → Le A (A.join (c p (S.next p)) (S.g (S.next p))) (S.g p)
  -- no lane into a closed place would improve the place that it leaves
  pub closed : (x : ℕ) → S.is_open x ≡ false → (u : ℕ) → Le A (S.g u) (A.join (c u x) (S.g x))
  -- next places lead from every place in the tree to the target
  pub climbs : (p : ℕ) → InTree A S p → Climbs S.next t p
  -- an open place is in the tree
  pub opened : (x : ℕ) → S.is_open x ≡ true → InTree A S x

-- the tree is sound on the floor
pub record Sound {T : Type 0} (A : Tolls T) (m : Meaning T) (t : ℕ) (E : List (Entry T)) : Type 0 where
  -- there is an entry for each place, and the target is a place
  pub size : length E ≡ m.places
  pub aim : t < m.places
  -- recorded tolls are below shut
  pub below : (p : ℕ) (g : T) → toll_at E p ≡ Some g → Lt A g A.shut
  -- every place in the tree but the target has a next place
  pub linked : (p : ℕ) (g : T) → toll_at E p ≡ Some g → ¬ (p ≡ t) → is_some (next_at E p) ≡ true
  pub chart : SoundChart A (cost A m) t (chart_of A E)
