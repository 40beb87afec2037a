-- What a kind of toll is, and the laws that every kind owes.
-- Tolls T      the order, the joining, zero and shut of a kind
-- Le, Lt       a is at most b; a is below b
-- TollLaws     the laws
use Rattle.std.specs.Prelude.{◌≡◌, Bool, true, false}

-- the operations of a kind of toll
pub record Tolls (T : Type 0) : Type 0 where
  -- whether the first toll is at most the second
  pub le : T → T → Bool
  -- the first toll and then the second
  pub join : T → T → T
  -- the least toll
  pub zero : T
  -- the greatest toll: closed to every carrier
  pub shut : T

-- a is at most b
abbrev pub Le : {T : Type 0} → Tolls T → T → T → Type 0
Le A a b = A.le a b ≡ true

-- a is below b: b is not at most a
abbrev pub Lt : {T : Type 0} → Tolls T → T → T → Type 0
Lt A a b = A.le b a ≡ false

-- what every kind of toll owes
pub record TollLaws {T : Type 0} (A : Tolls T) : Type 0 where
  -- the order is reflexive, transitive, antisymmetric and total
  pub itself : (a : T) → Le A a a
  pub trans : (a b c : T) → Le A a b → Le A b c → Le A a c
  pub antisym : (a b : T) → Le A a b → Le A b a → a ≡ b
  pub total : (a b : T) → Lt A a b → Le A a b
  -- zero is the least toll and shut the greatest, and they differ
  pub least : (a : T) → Le A A.zero a
  pub greatest : (a : T) → Le A a A.shut
  pub differ : Lt A A.zero A.shut
  -- joining is associative; zero alters nothing, and shut gives shut, on either side
  pub assoc : (a b c : T) → A.join (A.join a b) c ≡ A.join a (A.join b c)
  pub zero_left : (a : T) → A.join A.zero a ≡ a
  pub zero_right : (a : T) → A.join a A.zero ≡ a
  pub shut_left : (a : T) → A.join A.shut a ≡ A.shut
  pub shut_right : (a : T) → A.join a A.shut ≡ A.shut
  -- joining the same toll to both, on either side, keeps the order
  pub mono_left : (a b c : T) → Le A a b → Le A (A.join a c) (A.join b c)
  pub mono_right : (a b c : T) → Le A a b → Le A (A.join c a) (A.join c b)
