-- Numbers as words: which bytes write a number of 32 bits, and which number.
--     digits bs         each byte is a decimal digit
--     value n bs        the number that the digits n and then bs write
--     plain bs          1 to 10 bytes, with no 0 in front but in "0" itself
--     number_in bs       the number that bs writes, if it writes one
use Rattle.std.specs.Prelude.{ℕ, ◌+◌, ◌-◌, ◌*◌, Bool, true, cond, not, ◌&&◌, List, [], ◌∷◌, length, Some, None, Option, ◌==◌, nat_le, nat_lt, slice_index}

-- A byte from 0 to 9.
abbrev pub digit : ℕ → Bool
digit b = nat_le 48 b && nat_le b 57

-- Each byte is a digit.
abbrev pub digits : List ℕ → Bool
digits [] = true
digits (b ∷ bs) = digit b && digits bs

-- The number that the digits of n and then bs write; at n = 0, the value of bs.
abbrev pub value : ℕ → List ℕ → ℕ
value n [] = n
value n (b ∷ bs) = value (10 * n + (b - 48)) bs

-- 1 to 10 bytes, with no 0 in front but in "0" itself.
abbrev pub plain : List ℕ → Bool
plain bs = nat_lt 0 (length bs) && (nat_le (length bs) 10 && not (slice_index bs 0 == 48 && nat_lt 1 (length bs)))

-- The number that a word writes: plain, all digits, and at most 4,294,967,295.
abbrev pub number_in : List ℕ → Option ℕ
number_in bs = cond (plain bs && (digits bs && nat_le (value 0 bs) 4294967295)) (Some (value 0 bs)) None
