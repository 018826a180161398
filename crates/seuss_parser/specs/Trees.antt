-- The trees that the productions of the grammar give, from the trees of their parts.
use Rattle.std.specs.Prelude.{ℕ, ℤ, pos, neg_ℤ, Bool, true, false, List, [], ◌∷◌, Option, Some, None}
use Rattle.std.specs.Prelude.{unwrap_or}
use Rattle.seuss_parser.specs.declared.word.Numeral.{Numeral}
use Rattle.seuss_parser.specs.declared.word.Marked.{Marked}
use Rattle.seuss_parser.specs.declared.word.Behind.{Behind}
use Rattle.seuss_parser.specs.declared.symbol.Symbol.{Symbol}
use Rattle.seuss_parser.specs.declared.symbol.Symbol.TheVariants as S
use Rattle.seuss_program.specs.declared.tree.Name.{Name}
use Rattle.seuss_program.specs.declared.tree.Expr.{Expr}
use Rattle.seuss_program.specs.declared.tree.Node.{Node}
use Rattle.seuss_program.specs.declared.tree.Node.TheVariants as N
use Rattle.seuss_program.specs.declared.tree.Op.{Op}
use Rattle.seuss_program.specs.declared.tree.Op.TheVariants as O
use Rattle.seuss_program.specs.declared.tree.Fun.{Fun}
use Rattle.seuss_program.specs.declared.tree.Fun.TheVariants as U
use Rattle.seuss_program.specs.declared.tree.Kind.{Kind}
use Rattle.seuss_program.specs.declared.tree.Kind.TheVariants as K
use Rattle.seuss_program.specs.declared.tree.Var.{Var}
use Rattle.seuss_program.specs.declared.state.Value.TheVariants as V

-- the operator of the lowest level, `or`
abbrev pub disjunction : Symbol → Option Op
disjunction S.Or = Some O.Or
disjunction symbol = None

-- the operator `and`
abbrev pub conjunction : Symbol → Option Op
conjunction S.And = Some O.And
conjunction symbol = None

-- the operators of comparison
abbrev pub comparison : Symbol → Option Op
comparison S.Equal = Some O.Eq
comparison S.NotEqual = Some O.Ne
comparison S.Less = Some O.Lt
comparison S.LessOrEqual = Some O.Le
comparison S.Greater = Some O.Gt
comparison S.GreaterOrEqual = Some O.Ge
comparison symbol = None

-- the operators of a sum
abbrev pub addition : Symbol → Option Op
addition S.Plus = Some O.Plus
addition S.Minus = Some O.Minus
addition S.WrapPlus = Some O.WrapPlus
addition S.WrapMinus = Some O.WrapMinus
addition symbol = None

-- the operators of a product
abbrev pub multiplication : Symbol → Option Op
multiplication S.Times = Some O.Times
multiplication S.Divide = Some O.Divide
multiplication S.Remainder = Some O.Remainder
multiplication symbol = None

-- the functions of one part
abbrev pub function : Symbol → Option Fun
function S.First = Some U.First
function S.Last = Some U.Last
function S.Rest = Some U.Rest
function S.Front = Some U.Front
function S.Len = Some U.Len
function symbol = None

-- the functions of two parts
abbrev pub pair_function : Symbol → Option Op
pair_function S.At = Some O.At
pair_function S.Add = Some O.Add
pair_function symbol = None

-- the two truth values
abbrev pub truth : Symbol → Option Bool
truth S.True = Some true
truth S.False = Some false
truth symbol = None

-- the types of parameters and locals
abbrev pub small_kind : Symbol → Option Kind
small_kind S.Int = Some K.Int
small_kind S.Bool = Some K.Bool
small_kind symbol = None

-- the two arrows: whether an alternative accepts
abbrev pub arrow : Symbol → Option Bool
arrow S.Arrow = Some true
arrow S.NegativeArrow = Some false
arrow symbol = None

-- the two ends of a sequence: whether a hint is about the front
abbrev pub side : Symbol → Option Bool
side S.Front = Some true
side S.Back = Some false
side symbol = None

-- an expression of this line
abbrev pub expression : ℕ → Node Name → Expr Name
expression line node = record { line = line; node = node }

-- two parts, with the line of the left one
abbrev pub two : Op → Expr Name → Expr Name → Expr Name
two op left right = expression left.line (N.Two op left right)

-- a first part and those after it, grouped to the left
abbrev pub grouped : Expr Name → List Behind → Expr Name
grouped first [] = first
grouped first (next ∷ others) = grouped (two next.op first next.part) others

-- a first part, and perhaps one that it is compared with
abbrev pub compared : Expr Name → Option Behind → Expr Name
compared left None = left
compared left (Some next) = two next.op left next.part

-- as many of `not` before a part as there are lines, each on its own line
abbrev pub negated : List ℕ → Expr Name → Expr Name
negated [] e = e
negated (line ∷ lines) e = expression line (N.Not (negated lines e))

-- as many of a minus before a part as there are lines, each on its own line
abbrev pub minus : List ℕ → Expr Name → Expr Name
minus [] e = e
minus (line ∷ lines) e = expression line (N.Neg (minus lines e))

-- an expression in brackets, which has the line of its opening bracket
abbrev pub bracketed : ℕ → Expr Name → Expr Name
bracketed line e = expression line e.node

-- a number with a minus before it, or without
abbrev pub signed : Option ℕ → Numeral → ℤ
signed None n = n.value
signed (Some line) n = neg_ℤ n.value

-- a first item and those after it
abbrev pub with_first : {A : Type 0} → A → List A → List A
with_first item items = item ∷ items

-- the items of a list that may be left out
abbrev pub listed : {A : Type 0} → Option (List A) → List A
listed None = []
listed (Some items) = items

-- a variable of type int, with its start value or 0
abbrev pub int_variable : Name → Option ℤ → Var
int_variable name start = record { name = name; kind = K.Int; start = V.Int (unwrap_or start (pos 0)) }

-- a variable of type bool, with its start value or false
abbrev pub bool_variable : Name → Option (Marked Bool) → Var
bool_variable name None = record { name = name; kind = K.Bool; start = V.Bool false }
bool_variable name (Some start) = record { name = name; kind = K.Bool; start = V.Bool start.is }

-- a variable of type seq, with its start value or the empty sequence
abbrev pub seq_variable : Name → Option (List ℤ) → Var
seq_variable name start = record { name = name; kind = K.Seq; start = V.Seq (listed start) }
