-- How long a text and a name are, and how large a number is.
use Rattle.std.specs.Prelude.{ℕ, ◌<◌, ◌≤◌, List, length, All}
use Rattle.std.specs.Str.Parse.{digits_value}
use Rattle.seuss_text.specs.Rows.{token_text}
use Rattle.seuss_text.specs.declared.token.Token.{Token}
use Rattle.seuss_text.specs.declared.token.TokenKind.{TokenKind}
use Rattle.seuss_text.specs.declared.token.TokenKind.TheVariants.{Name, Number, Sign, Keyword}

-- how many bytes a text has at most
abbrev pub max_text : ℕ
max_text = 1048576

-- how many bytes a name has at most
abbrev pub max_name : ℕ
max_name = 32

-- the greatest number in digits
abbrev pub max_number : ℕ
max_number = 9223372036854775807

-- the text has more bytes than a text may have
abbrev pub IsTooLong : List ℕ → Type 0
IsTooLong text = max_text < length text

-- what decimal digits stand for
abbrev pub decimal_value : List ℕ → ℕ
decimal_value digits = digits_value 10 digits

-- a word of this kind is within its limit
abbrev pub IsInLimit : TokenKind → List ℕ → Type 0
IsInLimit Name word = length word ≤ max_name
IsInLimit Number word = decimal_value word ≤ max_number
IsInLimit Sign word = Unit {0}
IsInLimit Keyword word = Unit {0}

-- a token of this text is within its limit
abbrev pub IsTokenInLimit : List ℕ → Token → Type 0
IsTokenInLimit text token = IsInLimit token.kind (token_text text token)

-- each of these tokens of a text is within its limit
abbrev pub AreInLimits : List ℕ → List Token → Type 0
AreInLimits text tokens = All (λ token. IsTokenInLimit text token) tokens
