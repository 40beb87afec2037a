-- Gates are a lawful kind of toll.
use Rattle.std.specs.Prelude.{◌≡◌, suc, ◌+◌, ◌<◌, ◌≤◌, min, ◌⊎◌, refl}
use Rattle.std.proofs.Common.{inl, inr, ⊎_elim, arith}
use mathlib.Core.HLevel.{is_prop→PathP, Π_prop}
use Rattle.std.proofs.Math.Bridge.{le_prop}
use Rattle.std.proofs.Math.Nat.{ℕ_set}
use Rattle.std.proofs.lemmas.Bool.Decides.{nat_tests}
use Rattle.std.proofs.lemmas.Bool.{cases_lt}
use Rattle.toll.specs.Tolls.{Le, Lt, TollLaws}
use Rattle.toll.specs.GatesKind.{beside_cases, gates_kind}
use Rattle.toll.specs.declared.gates.Gates.{Gates}

pub gates_same : (a b : Gates) → a.gates ≡ b.gates → a.seconds ≡ b.seconds → a ≡ b
gates_same a b p q = λ i. record {
  gates = p i;
  seconds = q i;
  narrow = is_prop→PathP (λ j. suc (p j) ≤ 65536) (λ j. le_prop {n = suc (p j)} {m = 65536}) a.narrow b.narrow i;
  fits = is_prop→PathP (λ j. suc (q j) ≤ 4294967296) (λ j. le_prop {n = suc (q j)} {m = 4294967296}) a.fits b.fits i;
  single = is_prop→PathP (λ j. p j ≡ 65535 → q j ≡ 0) (λ j. Π_prop (λ _. ℕ_set (q j) 0)) a.single b.single i;
}

-- the order as plain facts about numbers
abbrev Before : Gates → Gates → Type 0
Before a b = (a.gates < b.gates) ⊎ ((a.gates ≡ b.gates) × (a.seconds ≤ b.seconds))

le_before : (a b : Gates) → Le gates_kind a b → Before a b
le_before a b p = ⊎_elim (λ (h : a.gates < b.gates). inl h) (λ (h : b.gates ≤ a.gates). inr (grind (arith, nat_tests), grind (arith, nat_tests))) (cases_lt a.gates b.gates)

before_le : (a b : Gates) → a.gates ≤ b.gates → (a.gates ≡ b.gates → a.seconds ≤ b.seconds) → Le gates_kind a b
before_le a b h k = grind (arith, nat_tests)

lt_before : (a b : Gates) → Lt gates_kind a b → Before a b
lt_before a b p = ⊎_elim (λ (h : a.gates < b.gates). inl h) (λ (h : b.gates ≤ a.gates). inr (grind (arith, nat_tests), grind (arith, nat_tests))) (cases_lt a.gates b.gates)

-- a sum of two, by cases
both : (a b : Gates) → ((a.gates + b.gates < 65535) × ((gates_kind.join a b).seconds ≡ min (a.seconds + b.seconds) 4294967295)) ⊎ ((65535 ≤ a.gates + b.gates) × ((gates_kind.join a b).seconds ≡ 0))
both a b = beside_cases (a.gates + b.gates) (a.seconds + b.seconds)

shut_none : (a : Gates) → (a.gates < 65535) ⊎ (a.seconds ≡ 0)
shut_none a = ⊎_elim (λ h. inl h) (λ h. inr (a.single (omega (arith, a.narrow)))) (cases_lt a.gates 65535)

assoc : (a b c : Gates) → gates_kind.join (gates_kind.join a b) c ≡ gates_kind.join a (gates_kind.join b c)
assoc a b c =
    let p = both a b in
    let q = both b c in
    let r = both (gates_kind.join a b) c in
    let s = both a (gates_kind.join b c) in
    gates_same _ _ (omega arith) (omega arith)

mono_left : (a b c : Gates) → Le gates_kind a b → Le gates_kind (gates_kind.join a c) (gates_kind.join b c)
mono_left a b c p =
    let h = le_before a b p in
    let q = both a c in
    let r = both b c in
    before_le (gates_kind.join a c) (gates_kind.join b c) (omega arith) (λ e. omega arith)

mono_right : (a b c : Gates) → Le gates_kind a b → Le gates_kind (gates_kind.join c a) (gates_kind.join c b)
mono_right a b c p =
    let h = le_before a b p in
    let q = both c a in
    let r = both c b in
    before_le (gates_kind.join c a) (gates_kind.join c b) (omega arith) (λ e. omega arith)

pub gates_lawful : TollLaws gates_kind
gates_lawful = record {
  itself = λ a. before_le a a (omega arith) (λ e. omega arith);
  trans = λ a b c p q. let h = le_before a b p in let k = le_before b c q in before_le a c (omega arith) (λ e. omega arith);
  antisym = λ a b p q. let h = le_before a b p in let k = le_before b a q in gates_same a b (omega arith) (omega arith);
  total = λ a b p. let h = lt_before a b p in before_le a b (omega arith) (λ e. omega arith);
  least = λ a. before_le gates_kind.zero a (omega arith) (λ e. omega arith);
  greatest = λ a. let h = shut_none a in before_le a gates_kind.shut (omega (arith, a.narrow)) (λ e. omega arith);
  differ = refl;
  assoc = assoc;
  zero_left = λ a. let h = shut_none a in let k = both gates_kind.zero a in gates_same _ _ (omega (arith, a.narrow)) (omega (arith, a.narrow, a.fits));
  zero_right = λ a. let h = shut_none a in let k = both a gates_kind.zero in gates_same _ _ (omega (arith, a.narrow)) (omega (arith, a.narrow, a.fits));
  shut_left = λ a. let k = both gates_kind.shut a in gates_same _ _ (omega arith) (omega arith);
  shut_right = λ a. let k = both a gates_kind.shut in gates_same _ _ (omega arith) (omega arith);
  mono_left = mono_left;
  mono_right = mono_right;
}
