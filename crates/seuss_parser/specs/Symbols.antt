-- Keywords and signs: the text of each, and the symbol that a text is.
use Rattle.std.specs.Prelude.{ℕ, List, [], codes, if◌then◌else◌}
use Rattle.std.specs.Str.{bytes_eq}
use Rattle.seuss_parser.specs.declared.symbol.Symbol.{Symbol}
use Rattle.seuss_parser.specs.declared.symbol.Symbol.TheVariants as S

-- the place of a symbol in the list of them all
abbrev pub symbol_number : Symbol → ℕ
symbol_number S.Seuss = 0
symbol_number S.Cat = 1
symbol_number S.Box = 2
symbol_number S.Var = 3
symbol_number S.Total = 4
symbol_number S.Partial = 5
symbol_number S.Action = 6
symbol_number S.Is = 7
symbol_number S.When = 8
symbol_number S.Let = 9
symbol_number S.If = 10
symbol_number S.Then = 11
symbol_number S.Else = 12
symbol_number S.While = 13
symbol_number S.Do = 14
symbol_number S.End = 15
symbol_number S.Semi = 16
symbol_number S.Int = 17
symbol_number S.Bool = 18
symbol_number S.Seq = 19
symbol_number S.True = 20
symbol_number S.False = 21
symbol_number S.And = 22
symbol_number S.Or = 23
symbol_number S.Not = 24
symbol_number S.First = 25
symbol_number S.Last = 26
symbol_number S.Rest = 27
symbol_number S.Front = 28
symbol_number S.Back = 29
symbol_number S.Len = 30
symbol_number S.At = 31
symbol_number S.Add = 32
symbol_number S.Assign = 33
symbol_number S.Arrow = 34
symbol_number S.NegativeArrow = 35
symbol_number S.NotEqual = 36
symbol_number S.LessOrEqual = 37
symbol_number S.GreaterOrEqual = 38
symbol_number S.WrapPlus = 39
symbol_number S.WrapMinus = 40
symbol_number S.Colon = 41
symbol_number S.Semicolon = 42
symbol_number S.Comma = 43
symbol_number S.Dot = 44
symbol_number S.Open = 45
symbol_number S.Close = 46
symbol_number S.OpenSquare = 47
symbol_number S.CloseSquare = 48
symbol_number S.Equal = 49
symbol_number S.Less = 50
symbol_number S.Greater = 51
symbol_number S.Plus = 52
symbol_number S.Minus = 53
symbol_number S.Times = 54
symbol_number S.Divide = 55
symbol_number S.Remainder = 56
symbol_number S.Other = 57

-- the text of a symbol
abbrev pub symbol_text : Symbol → List ℕ
symbol_text S.Seuss = codes "seuss"
symbol_text S.Cat = codes "cat"
symbol_text S.Box = codes "box"
symbol_text S.Var = codes "var"
symbol_text S.Total = codes "total"
symbol_text S.Partial = codes "partial"
symbol_text S.Action = codes "action"
symbol_text S.Is = codes "is"
symbol_text S.When = codes "when"
symbol_text S.Let = codes "let"
symbol_text S.If = codes "if"
symbol_text S.Then = codes "then"
symbol_text S.Else = codes "else"
symbol_text S.While = codes "while"
symbol_text S.Do = codes "do"
symbol_text S.End = codes "end"
symbol_text S.Semi = codes "semi"
symbol_text S.Int = codes "int"
symbol_text S.Bool = codes "bool"
symbol_text S.Seq = codes "seq"
symbol_text S.True = codes "true"
symbol_text S.False = codes "false"
symbol_text S.And = codes "and"
symbol_text S.Or = codes "or"
symbol_text S.Not = codes "not"
symbol_text S.First = codes "first"
symbol_text S.Last = codes "last"
symbol_text S.Rest = codes "rest"
symbol_text S.Front = codes "front"
symbol_text S.Back = codes "back"
symbol_text S.Len = codes "len"
symbol_text S.At = codes "at"
symbol_text S.Add = codes "add"
symbol_text S.Assign = codes ":="
symbol_text S.Arrow = codes "->"
symbol_text S.NegativeArrow = codes "~>"
symbol_text S.NotEqual = codes "<>"
symbol_text S.LessOrEqual = codes "<="
symbol_text S.GreaterOrEqual = codes ">="
symbol_text S.WrapPlus = codes "&+"
symbol_text S.WrapMinus = codes "&-"
symbol_text S.Colon = codes ":"
symbol_text S.Semicolon = codes ";"
symbol_text S.Comma = codes ","
symbol_text S.Dot = codes "."
symbol_text S.Open = codes "("
symbol_text S.Close = codes ")"
symbol_text S.OpenSquare = codes "["
symbol_text S.CloseSquare = codes "]"
symbol_text S.Equal = codes "="
symbol_text S.Less = codes "<"
symbol_text S.Greater = codes ">"
symbol_text S.Plus = codes "+"
symbol_text S.Minus = codes "-"
symbol_text S.Times = codes "*"
symbol_text S.Divide = codes "/"
symbol_text S.Remainder = codes "%"
symbol_text S.Other = []

-- the symbol that a keyword is
unfoldable pub keyword_of : List ℕ → Symbol
keyword_of bytes =
    if bytes_eq bytes (codes "seuss") then S.Seuss
    else (if bytes_eq bytes (codes "cat") then S.Cat
    else (if bytes_eq bytes (codes "box") then S.Box
    else (if bytes_eq bytes (codes "var") then S.Var
    else (if bytes_eq bytes (codes "total") then S.Total
    else (if bytes_eq bytes (codes "partial") then S.Partial
    else (if bytes_eq bytes (codes "action") then S.Action
    else (if bytes_eq bytes (codes "is") then S.Is
    else (if bytes_eq bytes (codes "when") then S.When
    else (if bytes_eq bytes (codes "let") then S.Let
    else (if bytes_eq bytes (codes "if") then S.If
    else (if bytes_eq bytes (codes "then") then S.Then
    else (if bytes_eq bytes (codes "else") then S.Else
    else (if bytes_eq bytes (codes "while") then S.While
    else (if bytes_eq bytes (codes "do") then S.Do
    else (if bytes_eq bytes (codes "end") then S.End
    else (if bytes_eq bytes (codes "semi") then S.Semi
    else (if bytes_eq bytes (codes "int") then S.Int
    else (if bytes_eq bytes (codes "bool") then S.Bool
    else (if bytes_eq bytes (codes "seq") then S.Seq
    else (if bytes_eq bytes (codes "true") then S.True
    else (if bytes_eq bytes (codes "false") then S.False
    else (if bytes_eq bytes (codes "and") then S.And
    else (if bytes_eq bytes (codes "or") then S.Or
    else (if bytes_eq bytes (codes "not") then S.Not
    else (if bytes_eq bytes (codes "first") then S.First
    else (if bytes_eq bytes (codes "last") then S.Last
    else (if bytes_eq bytes (codes "rest") then S.Rest
    else (if bytes_eq bytes (codes "front") then S.Front
    else (if bytes_eq bytes (codes "back") then S.Back
    else (if bytes_eq bytes (codes "len") then S.Len
    else (if bytes_eq bytes (codes "at") then S.At
    else (if bytes_eq bytes (codes "add") then S.Add
    else S.Other))))))))))))))))))))))))))))))))

-- the symbol that a sign is
unfoldable pub sign_of : List ℕ → Symbol
sign_of bytes =
    if bytes_eq bytes (codes ":=") then S.Assign
    else (if bytes_eq bytes (codes "->") then S.Arrow
    else (if bytes_eq bytes (codes "~>") then S.NegativeArrow
    else (if bytes_eq bytes (codes "<>") then S.NotEqual
    else (if bytes_eq bytes (codes "<=") then S.LessOrEqual
    else (if bytes_eq bytes (codes ">=") then S.GreaterOrEqual
    else (if bytes_eq bytes (codes "&+") then S.WrapPlus
    else (if bytes_eq bytes (codes "&-") then S.WrapMinus
    else (if bytes_eq bytes (codes ":") then S.Colon
    else (if bytes_eq bytes (codes ";") then S.Semicolon
    else (if bytes_eq bytes (codes ",") then S.Comma
    else (if bytes_eq bytes (codes ".") then S.Dot
    else (if bytes_eq bytes (codes "(") then S.Open
    else (if bytes_eq bytes (codes ")") then S.Close
    else (if bytes_eq bytes (codes "[") then S.OpenSquare
    else (if bytes_eq bytes (codes "]") then S.CloseSquare
    else (if bytes_eq bytes (codes "=") then S.Equal
    else (if bytes_eq bytes (codes "<") then S.Less
    else (if bytes_eq bytes (codes ">") then S.Greater
    else (if bytes_eq bytes (codes "+") then S.Plus
    else (if bytes_eq bytes (codes "-") then S.Minus
    else (if bytes_eq bytes (codes "*") then S.Times
    else (if bytes_eq bytes (codes "/") then S.Divide
    else (if bytes_eq bytes (codes "%") then S.Remainder
    else S.Other)))))))))))))))))))))))
