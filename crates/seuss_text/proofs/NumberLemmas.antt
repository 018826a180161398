-- What rows of decimal digits stand for.
use Rattle.std.proofs.Common.{◌≡◌, ℕ, ◌+◌, ◌-◌, ◌*◌, ◌<◌, ◌≤◌, true, List, length, take, get_or, sym, ◌∙◌}
use Rattle.std.proofs.Common.{arith}
use Rattle.std.specs.Char.{is_ascii_digit, digit_value}
use Rattle.std.proofs.lemmas.Bool.Decides.{nat_tests}
use Rattle.std.proofs.lemmas.Int.Digits.{digits_value_more}
use Rattle.std.proofs.lemmas.Str.Parse.{digits_value-take-le}
use Rattle.seuss_text.specs.Limits.{decimal_value}

pub digit_from : (c : ℕ) → is_ascii_digit c ≡ true → 48 ≤ c
digit_from c h = grind (arith, nat_tests)

digit_is : (c : ℕ) → is_ascii_digit c ≡ true → c - 48 ≡ digit_value c
digit_is c h = grind (arith, nat_tests)

-- one digit more
pub value_more : (ds : List ℕ) (i v : ℕ) → i < length ds → is_ascii_digit (get_or ds i 0) ≡ true →
    v ≡ decimal_value (take i ds) →
    v * 10 + (get_or ds i 0 - 48) ≡ decimal_value (take (i + 1) ds)
value_more ds i v within digit e =
    (λ j. e j * 10 + digit_is (get_or ds i 0) digit j) ∙ sym (digits_value_more 10 ds i within)

-- the first digits stand for no more than all of them
pub value_front : (ds : List ℕ) (i : ℕ) → decimal_value (take i ds) ≤ decimal_value ds
value_front ds i = digits_value-take-le 10 ds i (omega arith)
