-- Reading single words, and the lists that many productions share.
use Rattle.std.specs.Prelude.{ℕ, ℤ, false, List, Option}
use Rattle.seuss_parser.specs.Readings.{Reading, one_word, one_mark, ends, optional, many, ◌>>=◌, ◌>>◌}
use Rattle.seuss_parser.specs.Words.{as_symbol, as_name, as_numeral, as_one_of}
use Rattle.seuss_parser.specs.Fronts.{begins_with, begins_without}
use Rattle.seuss_parser.specs.Trees.{signed, with_first, listed}
use Rattle.seuss_parser.specs.declared.word.Numeral.{Numeral}
use Rattle.seuss_parser.specs.declared.word.Marked.{Marked}
use Rattle.seuss_parser.specs.declared.symbol.Symbol.{Symbol}
use Rattle.seuss_parser.specs.declared.symbol.Symbol.TheVariants as S
use Rattle.seuss_program.specs.declared.tree.Name.{Name}

-- a keyword or a sign, by its line, and one that counts as a mark
abbrev pub read_symbol : Symbol → Reading ℕ
read_symbol symbol = one_word (as_symbol symbol) false

abbrev pub read_mark : Symbol → Reading ℕ
read_mark symbol = one_mark (as_symbol symbol)

-- one of the symbols of a table, and one that counts as a mark
abbrev pub read_one_of : {A : Type 0} → (Symbol → Option A) → Reading (Marked A)
read_one_of table = one_word (as_one_of table) false

abbrev pub read_mark_of : {A : Type 0} → (Symbol → Option A) → Reading (Marked A)
read_mark_of table = one_mark (as_one_of table)

-- NAME
abbrev pub read_name : Reading Name
read_name = one_word as_name false

-- NUMBER
abbrev pub read_numeral : Reading Numeral
read_numeral = one_word as_numeral false

-- a comma, and one more item
unfoldable pub read_next : {A : Type 0} → Reading A → Reading A
read_next one = do
  read_symbol S.Comma
  one

-- item { "," item }
unfoldable pub read_separated : {A : Type 0} → Reading A → Reading (List A)
read_separated one = do
  first ← one
  others ← many (begins_with S.Comma) (read_next one)
  ends (with_first first others)

-- [ item { "," item } ], before this closing bracket
unfoldable pub read_perhaps_separated : {A : Type 0} → Symbol → Reading A → Reading (List A)
read_perhaps_separated closing one = do
  items ← optional (begins_without closing) (read_separated one)
  ends (listed items)

-- "(" item { "," item } ")"
unfoldable pub read_group : {A : Type 0} → Reading A → Reading (List A)
read_group one = do
  read_symbol S.Open
  items ← read_separated one
  read_symbol S.Close
  ends items

-- [ "(" item { "," item } ")" ]
unfoldable pub read_perhaps_group : {A : Type 0} → Reading A → Reading (List A)
read_perhaps_group one = do
  items ← optional (begins_with S.Open) (read_group one)
  ends (listed items)

-- "(" [ item { "," item } ] ")"
unfoldable pub read_arguments : {A : Type 0} → Reading A → Reading (List A)
read_arguments one = do
  read_symbol S.Open
  items ← read_perhaps_separated S.Close one
  read_symbol S.Close
  ends items

-- [ "-" ] NUMBER
unfoldable pub read_signed : Reading ℤ
read_signed = do
  sign ← optional (begins_with S.Minus) (read_symbol S.Minus)
  number ← read_numeral
  ends (signed sign number)
