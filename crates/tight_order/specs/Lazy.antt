-- What operators need of their parts: the left one alone, or numbers alone.
use Rattle.std.specs.Prelude.{Bool, true, false, not}
use Rattle.seuss_program.specs.declared.tree.Op.{Op}
use Rattle.seuss_program.specs.declared.tree.Op.TheVariants as O

-- whether the left part decides: `or` by true, `and` by false
abbrev pub decides : Op → Bool → Bool
decides O.Or left = left
decides O.And left = not left
decides O.Eq left = false
decides O.Ne left = false
decides O.Lt left = false
decides O.Le left = false
decides O.Gt left = false
decides O.Ge left = false
decides O.Plus left = false
decides O.Minus left = false
decides O.WrapPlus left = false
decides O.WrapMinus left = false
decides O.Times left = false
decides O.Divide left = false
decides O.Remainder left = false
decides O.At left = false
decides O.Add left = false

-- whether an operator computes a number from two numbers
abbrev pub computes : Op → Bool
computes O.Or = false
computes O.And = false
computes O.Eq = false
computes O.Ne = false
computes O.Lt = false
computes O.Le = false
computes O.Gt = false
computes O.Ge = false
computes O.Plus = true
computes O.Minus = true
computes O.WrapPlus = true
computes O.WrapMinus = true
computes O.Times = true
computes O.Divide = true
computes O.Remainder = true
computes O.At = false
computes O.Add = false

-- whether an operator looks at its parts as numbers alone
abbrev pub takes_numbers : Op → Bool
takes_numbers O.Or = false
takes_numbers O.And = false
takes_numbers O.Eq = false
takes_numbers O.Ne = false
takes_numbers O.Lt = true
takes_numbers O.Le = true
takes_numbers O.Gt = true
takes_numbers O.Ge = true
takes_numbers O.Plus = true
takes_numbers O.Minus = true
takes_numbers O.WrapPlus = true
takes_numbers O.WrapMinus = true
takes_numbers O.Times = true
takes_numbers O.Divide = true
takes_numbers O.Remainder = true
takes_numbers O.At = false
takes_numbers O.Add = false
