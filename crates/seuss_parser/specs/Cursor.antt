-- What a call on the words that are left does.
use Rattle.std.specs.Prelude.{◌<◌, ◌≤◌, ℕ, Bool, cond, List, [], ◌∷◌, length, Option, Some, None}
use Rattle.std.specs.Prelude.{Result, OnOk, false, is_some}
use Rattle.seuss_parser.specs.Words.{as_version}
use Rattle.seuss_parser.specs.Readings.{Reading, Gives, read_as, many}
use Rattle.seuss_parser.specs.CommonReading.{read_next}
use Rattle.seuss_parser.specs.Fronts.{begins_with}
use Rattle.seuss_parser.specs.Trees.{with_first}
use Rattle.seuss_parser.specs.declared.stop.Stop.{Stop}
use Rattle.seuss_parser.specs.declared.symbol.Symbol.{Symbol}
use Rattle.seuss_parser.specs.declared.symbol.Symbol.TheVariants as S
use Rattle.seuss_parser.specs.declared.word.Sort.{Sort}
use Rattle.seuss_parser.specs.declared.word.Sort.TheVariants.{Fixed, Name as Named, Number}
use Rattle.seuss_parser.specs.declared.word.Word.{Word}
use Rattle.seuss_parser.specs.declared.words.Words.{Words}

-- the call answered what this reading gives, and left what it leaves
abbrev pub Reads : {A : Type 0} → Result A Stop → Words → Words → Reading A → Type 0
Reads result before after one = Gives result after.room after.left.items (one before.room before.left.items)

-- where the call answered a value, it took at least one word, and it put none back
abbrev pub Takes : {A : Type 0} → Result A Stop → Words → Words → Type 0
Takes result before after = OnOk result (length after.left.items < length before.left.items)

abbrev pub Keeps : {A : Type 0} → Result A Stop → Words → Words → Type 0
Keeps result before after = OnOk result (length after.left.items ≤ length before.left.items)

-- the symbol that a sort is, and that the words begin with
abbrev pub symbol_in : Sort → Symbol
symbol_in (Fixed symbol) = symbol
symbol_in (Named text) = S.Other
symbol_in (Number value) = S.Other

abbrev pub front_symbol : List Word → Symbol
front_symbol [] = S.Other
front_symbol (word ∷ words) = symbol_in word.sort

-- the line of a word that is right here
abbrev pub line_if : Bool → Word → Option ℕ
line_if right word = cond right (Some word.line) None

-- the words begin with the number 1
abbrev pub begins_as_version : List Word → Bool
begins_as_version [] = false
begins_as_version (word ∷ words) = is_some (as_version word)

-- an item that was read, and those that stand after it
abbrev pub read_items_behind : {A : Type 0} → A → (List Word → Bool) → Reading A → Reading (List A)
read_items_behind first starts one room words = read_as (with_first first) (many starts one room words)

-- the same, where they stand after commas
abbrev pub read_others : {A : Type 0} → A → Reading A → Reading (List A)
read_others first one = read_items_behind first (begins_with S.Comma) (read_next one)
