-- How words begin: the tests by which a reader chooses, which look at two words at most.
use Rattle.std.specs.Prelude.{Bool, true, false, not, cond, List, [], ◌∷◌, Option, is_some}
use Rattle.seuss_parser.specs.Words.{is_symbol, meaning_of}
use Rattle.seuss_parser.specs.declared.symbol.Symbol.{Symbol}
use Rattle.seuss_parser.specs.declared.symbol.Symbol.TheVariants as S
use Rattle.seuss_parser.specs.declared.word.Sort.{Sort}
use Rattle.seuss_parser.specs.declared.word.Sort.TheVariants.{Fixed, Name as Named, Number}
use Rattle.seuss_parser.specs.declared.word.Word.{Word}

-- the sort is a name, and a number
abbrev pub is_name : Sort → Bool
is_name (Fixed symbol) = false
is_name (Named text) = true
is_name (Number value) = false

abbrev pub is_number : Sort → Bool
is_number (Fixed symbol) = false
is_number (Named text) = false
is_number (Number value) = true

-- the symbols that statements begin with, and procedures
abbrev pub opens_statement : Symbol → Bool
opens_statement S.Let = true
opens_statement S.If = true
opens_statement S.While = true
opens_statement symbol = false

abbrev pub opens_procedure : Symbol → Bool
opens_procedure S.Total = true
opens_procedure S.Partial = true
opens_procedure S.Action = true
opens_procedure symbol = false

-- a sort that a statement begins with, and a procedure
abbrev pub starts_statement : Sort → Bool
starts_statement (Fixed symbol) = opens_statement symbol
starts_statement (Named text) = true
starts_statement (Number value) = false

abbrev pub starts_procedure : Sort → Bool
starts_procedure (Fixed symbol) = opens_procedure symbol
starts_procedure (Named text) = false
starts_procedure (Number value) = false

-- there is a first word, and its sort passes the test
abbrev pub begins_as : (Sort → Bool) → List Word → Bool
begins_as test [] = false
begins_as test (word ∷ words) = test word.sort

-- the words begin with this symbol, with another word than this symbol, and with one of a table
abbrev pub begins_with : Symbol → List Word → Bool
begins_with symbol words = begins_as (λ sort. is_symbol symbol sort) words

abbrev pub begins_without : Symbol → List Word → Bool
begins_without symbol words = begins_as (λ sort. not (is_symbol symbol sort)) words

abbrev pub begins_with_one_of : {A : Type 0} → (Symbol → Option A) → List Word → Bool
begins_with_one_of table words = begins_as (λ sort. is_some (meaning_of table 0 sort)) words

-- the words begin with a name, and with a number
abbrev pub begins_with_name : List Word → Bool
begins_with_name words = begins_as is_name words

abbrev pub begins_with_number : List Word → Bool
begins_with_number words = begins_as is_number words

-- the words begin as a statement does, and as a procedure does
abbrev pub begins_statement : List Word → Bool
begins_statement words = begins_as starts_statement words

abbrev pub begins_procedure : List Word → Bool
begins_procedure words = begins_as starts_procedure words

-- NAME "."
abbrev pub begins_call : List Word → Bool
begins_call [] = false
begins_call (word ∷ words) = cond (is_name word.sort) (begins_with S.Dot words) false
