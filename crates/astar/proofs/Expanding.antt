-- What is offered to a place.
use Rattle.std.proofs.Common.{◌≡◌, ℕ, true, cond, List, set, Some, sym, ap, ◌∙◌}
use Rattle.toll.specs.Tolls.{Tolls}
use Rattle.tree.specs.Tree.{Entry, toll_at}
use Rattle.astar.specs.Search.{improves, offer}

-- what is offered and taken
pub offer_taken : {T : Type 0} (A : Tolls T) (p x : ℕ) (t : T) (E E' : List (Entry T)) → improves A (toll_at E p) t ≡ true → E' ≡ set E p (record { toll = Some t; next = Some x; is_open = true }) → E' ≡ offer A p x t E
offer_taken A p x t E E' e h = h ∙ sym (ap (λ b. cond b (set E p (record { toll = Some t; next = Some x; is_open = true })) E) e)
