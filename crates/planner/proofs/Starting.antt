-- Set-up: the front part of the table, which is lent to the start of the tree, and when it is accepted.
use Rattle.std.proofs.Common.{◌≡◌, ℕ, ◌<◌, ◌≤◌, List, ◌++◌, length, take, drop, Ok, ap, ◌∙◌, arith}
use Rattle.std.proofs.lemmas.List.{take_at, drop_at}
use Rattle.std.proofs.lemmas.Bool.Decides.{nat_tests}
use Rattle.planner.specs.Calls.{set_up_answer}
use Rattle.tree.specs.Tree.{tree_of}
use Rattle.tree.specs.declared.record.Record.{Record}

-- a table whose front part was lent out and written
module _ {T : Type 0} (front old : List (Record T)) (n k : ℕ) (e : k ≡ n) (f : length front ≡ n) where
  pub front_tree : tree_of (take n (front ++ drop k old)) ≡ tree_of front
  front_tree = ap tree_of (take_at front (drop k old) n f)

  pub front_behind : drop n (front ++ drop k old) ≡ drop n old
  front_behind = drop_at front (drop k old) n f ∙ ap (λ (j : ℕ). drop j old) e

-- an accepted set-up
pub record Accepted (records places target place : ℕ) : Type 0 where
  pub room : places ≤ records
  pub aim : target < places
  pub begin : place < places

pub accepted : (records places target place : ℕ) → Ok tt ≡ set_up_answer records places target place → Accepted records places target place
accepted r p t s e = record { room = grind (arith, nat_tests); aim = grind (arith, nat_tests); begin = grind (arith, nat_tests) }
