-- What the tests of a first word test.
use Rattle.std.proofs.Common.{◌≡◌, Bool, true, false, refl, Option, Some, None}
use Rattle.std.specs.Prelude.{is_some, not}
use Rattle.seuss_parser.specs.Fronts.{begins_as, begins_with, begins_without, begins_with_one_of}
use Rattle.seuss_parser.specs.Fronts.{begins_with_name}
use Rattle.seuss_parser.specs.Fronts.{begins_with_number, begins_statement, begins_procedure, is_name}
use Rattle.seuss_parser.specs.Fronts.{is_number}
use Rattle.seuss_parser.specs.Fronts.{opens_statement, opens_procedure, starts_statement, starts_procedure}
use Rattle.seuss_parser.specs.Words.{is_symbol, meaning_of, marked_as}
use Rattle.seuss_parser.specs.declared.symbol.Symbol.{Symbol}
use Rattle.seuss_parser.specs.declared.word.Sort.{Sort}
use Rattle.seuss_parser.specs.declared.word.Sort.TheVariants.{Fixed, Name as Named, Number}
use Rattle.seuss_parser.proofs.Sets.{Sorts, has, the_symbol, the_names, the_numbers, others}
use Rattle.seuss_parser.proofs.FirstSets.{the_table}
use Rattle.seuss_parser.proofs.ChoiceReads.{TestsFirst}

tests-as : (test : Sort → Bool) (set : Sorts) → ((sort : Sort) → test sort ≡ has set sort) →
    TestsFirst (begins_as test) set
tests-as test set same = record { none = refl; some = λ word words. same word.sort }

pub tests-symbol : (symbol : Symbol) → TestsFirst (begins_with symbol) (the_symbol symbol)
tests-symbol symbol = tests-as (λ sort. is_symbol symbol sort) (the_symbol symbol) (λ sort. by_sort sort)
  where
    by_sort : (sort : Sort) → is_symbol symbol sort ≡ has (the_symbol symbol) sort
    by_sort (Fixed found) = refl
    by_sort (Named text) = refl
    by_sort (Number value) = refl

pub tests-without : (symbol : Symbol) → TestsFirst (begins_without symbol) (others (the_symbol symbol))
tests-without symbol =
    tests-as (λ sort. not (is_symbol symbol sort)) (others (the_symbol symbol)) (λ sort. by_sort sort)
  where
    by_sort : (sort : Sort) → not (is_symbol symbol sort) ≡ has (others (the_symbol symbol)) sort
    by_sort (Fixed found) = refl
    by_sort (Named text) = refl
    by_sort (Number value) = refl

pub tests-table : {A : Type 0} (table : Symbol → Option A) →
    TestsFirst (begins_with_one_of table) (the_table table)
tests-table {A} table = tests-as (λ sort. is_some (meaning_of table 0 sort)) (the_table table)
    (λ sort. by_sort sort)
  where
    by_found : (o : Option A) → is_some (marked_as 0 o) ≡ is_some o
    by_found None = refl
    by_found (Some a) = refl

    by_sort : (sort : Sort) → is_some (meaning_of table 0 sort) ≡ has (the_table table) sort
    by_sort (Fixed found) = by_found (table found)
    by_sort (Named text) = refl
    by_sort (Number value) = refl

pub tests-name : TestsFirst begins_with_name the_names
tests-name = tests-as is_name the_names (λ sort. by_sort sort)
  where
    by_sort : (sort : Sort) → is_name sort ≡ has the_names sort
    by_sort (Fixed found) = refl
    by_sort (Named text) = refl
    by_sort (Number value) = refl

pub tests-number : TestsFirst begins_with_number the_numbers
tests-number = tests-as is_number the_numbers (λ sort. by_sort sort)
  where
    by_sort : (sort : Sort) → is_number sort ≡ has the_numbers sort
    by_sort (Fixed found) = refl
    by_sort (Named text) = refl
    by_sort (Number value) = refl

-- the words that statements begin with, and procedures
abbrev pub the_statements : Sorts
the_statements = record { symbols = opens_statement; names = true; numbers = false }

abbrev pub the_procedures : Sorts
the_procedures = record { symbols = opens_procedure; names = false; numbers = false }

pub tests-statement : TestsFirst begins_statement the_statements
tests-statement = tests-as starts_statement the_statements (λ sort. by_sort sort)
  where
    by_sort : (sort : Sort) → starts_statement sort ≡ has the_statements sort
    by_sort (Fixed found) = refl
    by_sort (Named text) = refl
    by_sort (Number value) = refl

pub tests-procedure : TestsFirst begins_procedure the_procedures
tests-procedure = tests-as starts_procedure the_procedures (λ sort. by_sort sort)
  where
    by_sort : (sort : Sort) → starts_procedure sort ≡ has the_procedures sort
    by_sort (Fixed found) = refl
    by_sort (Named text) = refl
    by_sort (Number value) = refl
