-- The number that digits write, digit by digit.
use Rattle.std.proofs.Common.{◌≡◌, ◌≤◌, ◌<◌, ◌-◌, ◌^◌, ℕ, List, take, arith}
use Rattle.std.specs.Char.{digit_value, IsAsciiDigit}
use Rattle.std.specs.Str.Parse.{AllDigits, digits_value}
use Rattle.std.proofs.lemmas.Bool.Decides.{nat_tests}
use Rattle.std.proofs.lemmas.List.{length-take}
use Rattle.std.proofs.lemmas.Str.Parse.{digits_value_short, numerals_by_value, tells_digits}

pub digit_is : (c : ℕ) → IsAsciiDigit c → digit_value c ≡ c - 48
digit_is c h = grind (arith, nat_tests)

-- the value of the first digits is small
pub taken_small : (ds : List ℕ) (i k : ℕ) → AllDigits 10 (take i ds) → i ≤ k
    → digits_value 10 (take i ds) < 10 ^ k
taken_small ds i k all few =
    digits_value_short (numerals_by_value (AllDigits 10) tells_digits) (take i ds) k all
    (omega (arith, length-take i ds))
