-- What is printed: tokens, with spaces and line feeds between them.
use Rattle.std.specs.Prelude.{ℕ, zero, suc, ℤ, List, [], ◌∷◌, ◌++◌}
use Rattle.std.specs.Fmt.{signed_decimal}
use Rattle.std.specs.List.{flat_map}
use Rattle.seuss_parser.specs.Symbols.{symbol_text}
use Rattle.seuss_parser.specs.declared.symbol.Symbol.{Symbol}
use Rattle.seuss_parser.specs.declared.symbol.Symbol.TheVariants as S
use Rattle.seuss_parser.specs.declared.word.Sort.{Sort}
use Rattle.seuss_parser.specs.declared.word.Sort.TheVariants.{Fixed, Name as Named, Number}
use Rattle.seuss_program.specs.declared.tree.Name.{Name}

-- what a text consists of: tokens, spaces and line feeds
pub data Item : Type 0 where
  Token : Sort → Item
  Space : Item
  LineFeed : Item

-- the text of a token: a number has no leading zeros
abbrev pub token_text : Sort → List ℕ
token_text (Fixed symbol) = symbol_text symbol
token_text (Named text) = text
token_text (Number z) = signed_decimal z

-- the bytes of an item
abbrev pub item_text : Item → List ℕ
item_text (Token sort) = token_text sort
item_text Space = 32 ∷ []
item_text LineFeed = 10 ∷ []

-- the text of items, one after the other
abbrev pub text_of : List Item → List ℕ
text_of items = flat_map item_text items

-- the tokens among items
abbrev pub tokens_in : List Item → List Sort
tokens_in [] = []
tokens_in (Token sort ∷ items) = sort ∷ tokens_in items
tokens_in (Space ∷ items) = tokens_in items
tokens_in (LineFeed ∷ items) = tokens_in items

-- a keyword or a sign
abbrev pub symbol : Symbol → Item
symbol s = Token (Fixed s)

-- a name, by its text
abbrev pub named : Name → Item
named name = Token (Named name.text)

-- a number in digits
abbrev pub number : ℤ → Item
number z = Token (Number z)

-- one space on each side
abbrev pub spaced : Item → List Item
spaced item = Space ∷ item ∷ Space ∷ []

-- two spaces for each line that this one stands inside
abbrev pub indented : ℕ → List Item
indented zero = []
indented (suc n) = Space ∷ Space ∷ indented n

-- a line inside so many others
abbrev pub line : ℕ → List Item → List Item
line n items = indented n ++ items ++ LineFeed ∷ []

-- `(items)`
abbrev pub bracketed : List Item → List Item
bracketed items = symbol S.Open ∷ items ++ symbol S.Close ∷ []

-- a comma, a space and one more
abbrev pub behind_comma : {A : Type 0} → (A → List Item) → A → List Item
behind_comma print a = symbol S.Comma ∷ Space ∷ print a

-- things with a comma and a space between two
abbrev pub separated : {A : Type 0} → (A → List Item) → List A → List Item
separated print [] = []
separated print (a ∷ others) = print a ++ flat_map (behind_comma print) others

-- `(a, b)`, or nothing where there is none
abbrev pub perhaps_bracketed : {A : Type 0} → (A → List Item) → List A → List Item
perhaps_bracketed print [] = []
perhaps_bracketed print (a ∷ others) = bracketed (separated print (a ∷ others))
