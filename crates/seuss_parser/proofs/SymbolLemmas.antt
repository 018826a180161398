-- A symbol's place in the list of symbols is the number that the compiler gives it.
use Rattle.std.proofs.Common.{◌≡◌, ◌==◌, refl}
use denote.Enum.Bare.{sameb}
use denote.Enum.Declared.{tag_of}
use Rattle.seuss_parser.specs.Symbols.{symbol_number}
use Rattle.seuss_parser.specs.contracts.symbol.Symbol.{the_type}
use Rattle.seuss_parser.specs.declared.symbol.Symbol.{Symbol}
use Rattle.seuss_parser.specs.declared.symbol.Symbol.TheVariants as S

number-tag : (symbol : Symbol) → tag_of the_type symbol ≡ symbol_number symbol
number-tag S.Seuss = refl
number-tag S.Cat = refl
number-tag S.Box = refl
number-tag S.Var = refl
number-tag S.Total = refl
number-tag S.Partial = refl
number-tag S.Action = refl
number-tag S.Is = refl
number-tag S.When = refl
number-tag S.Let = refl
number-tag S.If = refl
number-tag S.Then = refl
number-tag S.Else = refl
number-tag S.While = refl
number-tag S.Do = refl
number-tag S.End = refl
number-tag S.Semi = refl
number-tag S.Int = refl
number-tag S.Bool = refl
number-tag S.Seq = refl
number-tag S.True = refl
number-tag S.False = refl
number-tag S.And = refl
number-tag S.Or = refl
number-tag S.Not = refl
number-tag S.First = refl
number-tag S.Last = refl
number-tag S.Rest = refl
number-tag S.Front = refl
number-tag S.Back = refl
number-tag S.Len = refl
number-tag S.At = refl
number-tag S.Add = refl
number-tag S.Assign = refl
number-tag S.Arrow = refl
number-tag S.NegativeArrow = refl
number-tag S.NotEqual = refl
number-tag S.LessOrEqual = refl
number-tag S.GreaterOrEqual = refl
number-tag S.WrapPlus = refl
number-tag S.WrapMinus = refl
number-tag S.Colon = refl
number-tag S.Semicolon = refl
number-tag S.Comma = refl
number-tag S.Dot = refl
number-tag S.Open = refl
number-tag S.Close = refl
number-tag S.OpenSquare = refl
number-tag S.CloseSquare = refl
number-tag S.Equal = refl
number-tag S.Less = refl
number-tag S.Greater = refl
number-tag S.Plus = refl
number-tag S.Minus = refl
number-tag S.Times = refl
number-tag S.Divide = refl
number-tag S.Remainder = refl
number-tag S.Other = refl

-- two symbols are the same where their places are
pub same-number : (a b : Symbol) → sameb the_type a b ≡ (symbol_number a == symbol_number b)
same-number a b = rw (number-tag a, number-tag b) refl
