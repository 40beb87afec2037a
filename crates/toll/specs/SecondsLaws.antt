-- Seconds are a lawful kind of toll.
use Rattle.std.specs.Prelude.{◌≡◌, suc, ◌≤◌, refl}
use mathlib.Core.HLevel.{is_prop→PathP}
use Rattle.std.proofs.Common.{arith, leb-true, leb-false, le-leb}
use Rattle.std.proofs.Math.Bridge.{le_prop}
use Rattle.std.proofs.lemmas.Bool.{lt-leb}
use Rattle.toll.specs.Tolls.{TollLaws}
use Rattle.toll.specs.SecondsKind.{seconds, seconds_kind}
use Rattle.toll.specs.declared.seconds.Seconds.{Seconds}

pub seconds_same : (a b : Seconds) → a.value ≡ b.value → a ≡ b
seconds_same a b e = λ i. record { value = e i; fits = is_prop→PathP (λ j. suc (e j) ≤ 4294967296) (λ j. le_prop {n = suc (e j)} {m = 4294967296}) a.fits b.fits i }

-- a number that fits is its own seconds
pub seconds_value : (a : Seconds) → seconds a.value ≡ a
seconds_value a = seconds_same _ _ (omega (arith, a.fits))

ruleset tests = (arith, leb-true, leb-false, le-leb, lt-leb)

pub seconds_lawful : TollLaws seconds_kind
seconds_lawful = record {
  itself = λ a. omega tests;
  trans = λ a b c p q. omega tests;
  antisym = λ a b p q. seconds_same a b (omega tests);
  total = λ a b p. omega tests;
  least = λ a. omega tests;
  greatest = λ a. omega (tests, a.fits);
  differ = refl;
  assoc = λ a b c. seconds_same _ _ (omega tests);
  zero_left = λ a. seconds_same _ _ (omega (tests, a.fits));
  zero_right = λ a. seconds_same _ _ (omega (tests, a.fits));
  shut_left = λ a. seconds_same _ _ (omega tests);
  shut_right = λ a. seconds_same _ _ (omega tests);
  mono_left = λ a b c p. omega tests;
  mono_right = λ a b c p. omega tests;
}
