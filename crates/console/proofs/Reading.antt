-- What is read of a source that is cut short.
use Rattle.std.proofs.Common.{◌≡◌, ℕ, List, [], ◌++◌, take, Some, None, Option}
use Rattle.std.specs.Option.{IfSome, option_map}

pub cut_short : (new : List ℕ) (o : Option (List ℕ)) → IfSome (option_map (take 65537) o) (λ bytes. new ≡ [] ++ bytes) → IfSome o (λ bytes. new ≡ take 65537 bytes)
cut_short new None h = h
cut_short new (Some bytes) h = h
