-- What a text is as a whole, where it is a token.
use Rattle.std.specs.Prelude.{◌≡◌, ℕ, Bool, false, ◌&&◌, if◌then◌else◌, List, [], ◌∷◌, ◌++◌, codes, Option}
use Rattle.std.specs.Prelude.{Some, None}
use Rattle.std.specs.List.{list_all, list_any}
use Rattle.std.specs.Char.{is_ascii_alphabetic, is_ascii_digit}
use Rattle.std.specs.Str.{bytes_eq}
use Rattle.seuss_text.specs.Bytes.{is_name_byte}
use Rattle.seuss_text.specs.declared.token.TokenKind.{TokenKind}
use Rattle.seuss_text.specs.declared.token.TokenKind.TheVariants.{Name, Number, Sign, Keyword}

-- all signs, as their texts
unfoldable pub signs : List (List ℕ)
signs =
    codes ":=" ∷ codes "->" ∷ codes "~>" ∷ codes "<>" ∷ codes "<=" ∷ codes ">=" ∷ codes "&+" ∷ codes "&-" ∷
    codes ":" ∷ codes ";" ∷ codes "," ∷ codes "." ∷ codes "(" ∷ codes ")" ∷ codes "[" ∷ codes "]" ∷
    codes "=" ∷ codes "<" ∷ codes ">" ∷ codes "+" ∷ codes "-" ∷ codes "*" ∷ codes "/" ∷ codes "%" ∷ []

-- all keywords, as their texts
unfoldable pub keywords : List (List ℕ)
keywords =
    codes "seuss" ∷ codes "cat" ∷ codes "box" ∷ codes "var" ∷ codes "total" ∷ codes "partial" ∷
    codes "action" ∷ codes "is" ∷ codes "when" ∷ codes "let" ∷ codes "if" ∷ codes "then" ∷ codes "else" ∷
    codes "while" ∷ codes "do" ∷ codes "end" ∷ codes "semi" ∷ codes "int" ∷ codes "bool" ∷ codes "seq" ∷
    codes "true" ∷ codes "false" ∷ codes "and" ∷ codes "or" ∷ codes "not" ∷ codes "first" ∷ codes "last" ∷
    codes "rest" ∷ codes "front" ∷ codes "back" ∷ codes "len" ∷ codes "at" ∷ codes "add" ∷ []

-- the word stands in the table
abbrev pub is_among : List (List ℕ) → List ℕ → Bool
is_among table word = list_any (λ w. bytes_eq w word) table

-- a letter, and after it letters, digits and `_`
abbrev pub is_letters : List ℕ → Bool
is_letters [] = false
is_letters (b ∷ bs) = is_ascii_alphabetic b && list_all is_name_byte bs

-- one digit or more
abbrev pub is_digits : List ℕ → Bool
is_digits [] = false
is_digits (b ∷ bs) = is_ascii_digit b && list_all is_ascii_digit bs

-- What a whole text is: a keyword, a name, a number, a sign, or no token.
abbrev pub kind_of : List ℕ → Option TokenKind
kind_of word =
    if is_letters word then Some (if is_among keywords word then Keyword else Name)
    else (if is_digits word then Some Number
    else (if is_among signs word then Some Sign
    else None))

-- the word can't be lengthened: with no more of the bytes that follow it is it a token
abbrev pub IsLongest : List ℕ → List ℕ → Type 0
IsLongest word rest = (b : ℕ) (more after : List ℕ) → rest ≡ b ∷ more ++ after →
    kind_of (word ++ b ∷ more) ≡ None

-- no front of these bytes is a token
abbrev pub BeginsNoToken : List ℕ → Type 0
BeginsNoToken text = (word rest : List ℕ) → text ≡ word ++ rest → kind_of word ≡ None
