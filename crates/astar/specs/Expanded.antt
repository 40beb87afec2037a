-- Which places a run expanded, read off the trees before and after it.
-- ExpandedAt E E' p            place p is in the tree and closed in E', and was open in E or had another toll or none there
use Rattle.std.specs.Prelude.{◌≡◌, ℕ, true, ◌⊎◌, List, is_some, Some, None}
use Rattle.tree.specs.Tree.{Entry, toll_at, open_toll}

-- place p was expanded between the trees E and E'
pub record ExpandedAt {T : Type 0} (E E' : List (Entry T)) (p : ℕ) : Type 0 where
  -- it has a toll in E', and is not open
  pub toll : T
  pub recorded : toll_at E' p ≡ Some toll
  pub closed : open_toll E' p ≡ None
  -- in E it was open, or had not this toll
  pub fresh : (is_some (open_toll E p) ≡ true) ⊎ (¬ (toll_at E p ≡ Some toll))
