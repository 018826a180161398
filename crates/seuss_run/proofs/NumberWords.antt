-- Which number a word is.
use Rattle.std.proofs.Common.{◌≡◌, ℕ, ◌^◌, ◌<◌, ◌≤◌, Bool, true, false, List, refl, sym, ap, ◌∙◌, arith}
use Rattle.std.specs.Prelude.{decimal, Some, None, nat_le, bytes_eq, ◌&&◌, if◌then◌else◌}
use Rattle.std.specs.Str.Parse.{digits_value}
use Rattle.std.proofs.lemmas.Fmt.{decimal_is_IsNumeral}
use Rattle.std.proofs.lemmas.Slice.Eq.{bytes_eq-Decides}
use Rattle.std.proofs.lemmas.Bool.Decides.{nat_tests}
use Rattle.seuss_run.specs.Commands.{number_in}

-- where not all tests hold there is no number
none_by : (b c d : Bool) (n : ℕ) → (b ≡ true → c ≡ true → d ≡ true → ⊥) →
    (if b && (c && d) then Some n else None) ≡ None
none_by false c d n not = refl
none_by true false d n not = refl
none_by true true false n not = refl
none_by true true true n not = absurd (not refl refl refl)

-- a word that isn't the text of a number within the limits
pub no_number : (least most : ℕ) (word : List ℕ) →
    ((n : ℕ) → least ≤ n → n ≤ most → word ≡ decimal n → ⊥) → number_in least most word ≡ None
no_number least most word none =
    let n = digits_value 10 word in
    none_by (bytes_eq (decimal n) word) (nat_le least n) (nat_le n most) n (λ same high low.
    none n (grind (arith, nat_tests)) (grind (arith, nat_tests))
    (sym ((bytes_eq-Decides (decimal n) word).0 same)))

-- a word that is the text of a number within the limits
pub is_number : (least most n : ℕ) (word : List ℕ) → n < 2 ^ 64 → word ≡ decimal n → least ≤ n → n ≤ most →
    number_in least most word ≡ Some n
is_number least most n word small is high low =
    let value : digits_value 10 word ≡ n = ap (digits_value 10) is ∙ (decimal_is_IsNumeral n small).1 in
    let same : bytes_eq (decimal n) word ≡ true = (bytes_eq-Decides (decimal n) word).1 (sym is) in
    let first : nat_le least n ≡ true = grind (arith, nat_tests) in
    let last : nat_le n most ≡ true = grind (arith, nat_tests) in
    rw (value, same, first, last) refl
