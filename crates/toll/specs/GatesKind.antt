-- Tolls in gates: fewer gates come first, then fewer seconds; gate count 65,535 is shut.
use Rattle.std.specs.Prelude.{◌≡◌, ℕ, ◌+◌, ◌<◌, ◌≤◌, min, cond, ◌⊎◌, ◌==◌, nat_le, nat_lt, refl}
use Rattle.std.proofs.Common.{sym, inl, inr, ⊎_elim, arith}
use Rattle.std.proofs.lemmas.Bool.{cases_lt, cond_below, cond_above}
use Rattle.toll.specs.Tolls.{Tolls}
use Rattle.toll.specs.declared.gates.Gates.{Gates}

-- the seconds beside n gates, of s: none where n is shut, and at most 4,294,967,295
abbrev pub beside : ℕ → ℕ → ℕ
beside n s = cond (nat_lt n 65535) (min s 4294967295) 0

-- below the shut gate count all seconds count, from there on none
pub beside_cases : (n s : ℕ) → ((n < 65535) × (beside n s ≡ min s 4294967295)) ⊎ ((65535 ≤ n) × (beside n s ≡ 0))
beside_cases n s =
    ⊎_elim (λ h. inl (h, sym (cond_below n 65535 (min s 4294967295) 0 h))) (λ h. inr (h, sym (cond_above n 65535 (min s 4294967295) 0 0 h refl))) (cases_lt n 65535)

pub gates_stop : (n : ℕ) → min n 65535 < 65536
gates_stop n = omega arith

pub beside_stops : (n s : ℕ) → beside n s < 4294967296
beside_stops n s = omega (arith, beside_cases n s)

pub beside_shut : (n s : ℕ) → min n 65535 ≡ 65535 → beside n s ≡ 0
beside_shut n s e = omega (arith, beside_cases n s)

-- n gates and s seconds, stopping at 65,535 gates with none, and at 4,294,967,295 seconds
abbrev pub gates_of : ℕ → ℕ → Gates
gates_of n s = record { gates = min n 65535; seconds = beside n s; narrow = gates_stop n; fits = beside_stops n s; single = beside_shut n s }

-- by gates, and among equal gates by seconds; joining adds both
abbrev pub gates_kind : Tolls Gates
gates_kind = record {
  le = λ a b. cond (a.gates == b.gates) (nat_le a.seconds b.seconds) (nat_lt a.gates b.gates);
  join = λ a b. gates_of (a.gates + b.gates) (a.seconds + b.seconds);
  zero = gates_of 0 0;
  shut = gates_of 65535 0;
}
