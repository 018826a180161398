-- Words: the tokens of a text as the grammar sees them, and what a single word is read as.
use Rattle.std.specs.Prelude.{◌≡◌, ℕ, Bool, false, ℤ, pos, negsuc, ◌==◌, List, map, Option, Some, None}
use Rattle.std.specs.Prelude.{if◌then◌else◌}
use Rattle.seuss_text.specs.Rows.{token_text}
use Rattle.seuss_text.specs.Limits.{decimal_value}
use Rattle.seuss_text.specs.Words.{kind_of}
use Rattle.seuss_text.specs.declared.token.Token.{Token}
use Rattle.seuss_text.specs.declared.token.TokenKind.{TokenKind}
use Rattle.seuss_text.specs.declared.token.TokenKind.TheVariants as K
use Rattle.seuss_parser.specs.Symbols.{symbol_number, keyword_of, sign_of}
use Rattle.seuss_parser.specs.declared.symbol.Symbol.{Symbol}
use Rattle.seuss_parser.specs.declared.word.Sort.{Sort}
use Rattle.seuss_parser.specs.declared.word.Sort.TheVariants.{Fixed, Name as Named, Number}
use Rattle.seuss_parser.specs.declared.word.Word.{Word}
use Rattle.seuss_parser.specs.declared.word.Numeral.{Numeral}
use Rattle.seuss_parser.specs.declared.word.Marked.{Marked}
use Rattle.seuss_program.specs.declared.tree.Name.{Name}

-- what a token of this kind and text is to the grammar
abbrev pub sort_of : TokenKind → List ℕ → Sort
sort_of K.Name bytes = Named bytes
sort_of K.Number bytes = Number (pos (decimal_value bytes))
sort_of K.Sign bytes = Fixed (sign_of bytes)
sort_of K.Keyword bytes = Fixed (keyword_of bytes)

-- a token of a text as a word of the grammar, with its line
abbrev pub word_of : List ℕ → Token → Word
word_of text token = record { line = token.line; sort = sort_of token.kind (token_text text token) }

-- the tokens of a text as words of the grammar
abbrev pub words_of : List ℕ → List Token → List Word
words_of text tokens = map (λ token. word_of text token) tokens

-- a token within its limit may be this to the grammar
pub record IsSortOf (bytes : List ℕ) (kind : TokenKind) (sort : Sort) : Type 0 where
  pub is_token : kind_of bytes ≡ Some kind
  pub is_sort : sort ≡ sort_of kind bytes

-- the sort is this symbol
abbrev pub is_symbol : Symbol → Sort → Bool
is_symbol symbol (Fixed found) = symbol_number found == symbol_number symbol
is_symbol symbol (Named text) = false
is_symbol symbol (Number value) = false

-- the line of a word that is this symbol
abbrev pub as_symbol : Symbol → Word → Option ℕ
as_symbol symbol word = if is_symbol symbol word.sort then Some word.line else None

-- a name with its line
abbrev pub name_of : ℕ → Sort → Option Name
name_of line (Fixed symbol) = None
name_of line (Named text) = Some (record { text = text; line = line })
name_of line (Number value) = None

-- a word that is a name
abbrev pub as_name : Word → Option Name
as_name word = name_of word.line word.sort

-- a word's number with its line
abbrev pub numeral_of : ℕ → Sort → Option Numeral
numeral_of line (Fixed symbol) = None
numeral_of line (Named text) = None
numeral_of line (Number value) = Some (record { value = value; line = line })

-- a word that is a number
abbrev pub as_numeral : Word → Option Numeral
as_numeral word = numeral_of word.line word.sort

-- the number is 1
abbrev pub is_one : ℤ → Bool
is_one (pos n) = n == 1
is_one (negsuc n) = false

-- a sort that is the number 1
abbrev pub version_of : Sort → Option (Unit {0})
version_of (Fixed symbol) = None
version_of (Named text) = None
version_of (Number value) = if is_one value then Some tt else None

-- a word that is the number 1, by its value
abbrev pub as_version : Word → Option (Unit {0})
as_version word = version_of word.sort

-- what a symbol stands for, where it stands for something, with the line of the word
abbrev pub marked_as : {A : Type 0} → ℕ → Option A → Option (Marked A)
marked_as line None = None
marked_as line (Some a) = Some (record { is = a; line = line })

-- what a word stands for in a table of symbols, with its line; names and numbers stand in none
abbrev pub meaning_of : {A : Type 0} → (Symbol → Option A) → ℕ → Sort → Option (Marked A)
meaning_of table line (Fixed symbol) = marked_as line (table symbol)
meaning_of table line (Named text) = None
meaning_of table line (Number value) = None

-- a word that is one of the symbols of a table
abbrev pub as_one_of : {A : Type 0} → (Symbol → Option A) → Word → Option (Marked A)
as_one_of table word = meaning_of table word.line word.sort
