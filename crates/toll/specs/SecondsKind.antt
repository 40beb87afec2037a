-- Tolls in seconds: whole numbers that stop at 4,294,967,295, which is shut.
use Rattle.std.specs.Prelude.{ℕ, ◌+◌, ◌<◌, min, nat_le}
use Rattle.std.proofs.Common.{arith}
use Rattle.toll.specs.Tolls.{Tolls}
use Rattle.toll.specs.declared.seconds.Seconds.{Seconds}

pub stops : (n : ℕ) → min n 4294967295 < 4294967296
stops n = omega arith

-- n seconds, stopping at 4,294,967,295
abbrev pub seconds : ℕ → Seconds
seconds n = record { value = min n 4294967295; fits = stops n }

-- the order of numbers; joining adds
abbrev pub seconds_kind : Tolls Seconds
seconds_kind = record {
  le = λ a b. nat_le a.value b.value;
  join = λ a b. seconds (a.value + b.value);
  zero = seconds 0;
  shut = seconds 4294967295;
}
