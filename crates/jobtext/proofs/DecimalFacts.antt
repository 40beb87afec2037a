-- The words that are numbers are exactly the decimals of the numbers of 32 bits.
use Rattle.std.proofs.Common.{◌≡◌, ℕ, ◌^◌, ◌<◌, ◌≤◌, true, List, length, get_or, Some, None, Ok, Err, decimal, Option, Result, sym, ap, ◌∙◌, ⊎_elim, arith, rules}
use Rattle.std.specs.Result.{MatchResult, result_ok}
use Rattle.std.specs.Str.{IsUtf8}
use Rattle.std.specs.Str.Parse.{ParsesUnsigned}
use Rattle.std.proofs.lemmas.Str.{IsUtf8-from_ascii}
use Rattle.std.proofs.lemmas.Fmt.{IsAscii-from_digits, digits_decimal, digits_value-decimal, length-decimal-le, decimal_nonempty, first_decimal, decimal_digit, decimal-digits_value}
use Rattle.std.proofs.lemmas.Str.Parse.{IsNumeralModel, numerals_by_fold, parse_digits}
use Rattle.std.proofs.lemmas.Bool.{cases_lt}
use Rattle.std.proofs.lemmas.Bool.Decides.{nat_tests}
use Rattle.jobtext.specs.Numbers.{plain, digits, value, number_in}

numerals : IsNumeralModel (λ ds. digits ds ≡ true) (value 0)
numerals = numerals_by_fold _ (search rules) value (search rules)

pub decimal_digits : (n : ℕ) → n < 4294967296 → digits (decimal n) ≡ true
decimal_digits n h = digits_decimal numerals n (omega arith)

decimal_plain : (n : ℕ) → n < 4294967296 → plain (decimal n) ≡ true
decimal_plain n h =
    let some = decimal_nonempty n (omega arith) in
    let short = length-decimal-le 10 n (omega arith) (omega arith) (omega arith) in
    ⊎_elim (λ (p : 0 < n). let first = first_decimal n p (omega arith) in grind (arith, nat_tests))
    (λ (p : n ≤ 0). let zero_is : n ≡ 0 = omega arith in let one : length (decimal n) ≡ 1 = rw (zero_is, decimal_digit 0 (omega arith)) in grind (arith, nat_tests))
    (cases_lt 0 n)

-- A number's decimal is read as the number.
pub reads_back : (n : ℕ) → n < 4294967296 → number_in (decimal n) ≡ Some n
reads_back n h = rw (decimal_plain n h, decimal_digits n h, digits_value-decimal numerals n (omega arith)) (grind (arith, nat_tests))

wide : (m n : ℕ) → m ≡ n → n < 4294967296 → m < 2 ^ 64
wide m n e h = omega arith

-- What is read as a number is its decimal.
pub reads_only : (w : List ℕ) (n : ℕ) → number_in w ≡ Some n → (w ≡ decimal n) × (n < 4294967296)
reads_only w n e =
    let ds : digits w ≡ true = grind (arith, nat_tests) in
    let t : plain w ≡ true = grind (arith, nat_tests) in
    let v : value 0 w ≡ n = grind (arith, nat_tests) in
    let small : n < 4294967296 = grind (arith, nat_tests) in
    let some : 0 < length w = grind (arith, nat_tests) in
    let zero_alone : get_or w 0 0 ≡ 48 → length w ≡ 1 = λ q. grind (arith, nat_tests) in
    (sym (decimal-digits_value numerals w ds some zero_alone (wide _ n v small)) ∙ ap decimal v, small)

-- What reads as the word does, reads a number's decimal as the number.
pub read_back : (w : List ℕ) (r : Option ℕ) → r ≡ number_in w → (n : ℕ) → n < 4294967296 → w ≡ decimal n → r ≡ Some n
read_back w r e n h k = e ∙ ap number_in k ∙ reads_back n h

-- Digits are text.
pub digits_text : (w : List ℕ) → digits w ≡ true → IsUtf8 w
digits_text w d = IsUtf8-from_ascii w (IsAscii-from_digits w (numerals.to w d))

-- What the library reads of a plain word of digits.
pub parsed : {E : Type 0} (w : List ℕ) (r : Result ℕ E) → ParsesUnsigned 32 10 w r → plain w ≡ true → digits w ≡ true → result_ok r ≡ number_in w
parsed {E} w (Ok x) h p d = let o = parse_digits numerals {E = E} 32 w (Ok x) h d in grind (arith, nat_tests)
parsed {E} w (Err e) h p d = let o = parse_digits numerals {E = E} 32 w (Err e) h d in grind (arith, nat_tests)

-- Text is read as text.
pub text_read : {T E : Type 0} (P : T → Type 0) (Q : E → Type 0) (w : List ℕ) (r : Result T E) → MatchResult r P (λ e. ¬ (IsUtf8 w) × Q e) → IsUtf8 w → result_ok r ≡ None → ⊥
text_read P Q w (Ok x) h t e = cc
text_read P Q w (Err x) h t e = h.0 t
