-- How an expression is printed. Each form has a level: how tightly it binds. A part that binds less tightly
-- than its place wants stands in parentheses.
use Rattle.std.specs.Prelude.{ℕ, suc, nat_lt, ◌==◌, Bool, true, false, if◌then◌else◌, List, [], ◌∷◌, ◌++◌}
use Rattle.seuss_parser.specs.declared.symbol.Symbol.{Symbol}
use Rattle.seuss_parser.specs.declared.symbol.Symbol.TheVariants as S
use Rattle.seuss_program.specs.Values.{is_comparison}
use Rattle.seuss_program.specs.declared.tree.Name.{Name}
use Rattle.seuss_program.specs.declared.tree.Expr.{Expr, fold-Expr}
use Rattle.seuss_program.specs.declared.tree.Node.TheOpen as N
use Rattle.seuss_program.specs.declared.tree.Node.TheOpen.{Node-F}
use Rattle.seuss_program.specs.declared.tree.Op.{Op}
use Rattle.seuss_program.specs.declared.tree.Op.TheVariants as O
use Rattle.seuss_program.specs.declared.tree.Fun.{Fun}
use Rattle.seuss_program.specs.declared.tree.Fun.TheVariants as F
use Rattle.seuss_print.specs.Items.{Item, Space, symbol, named, number, spaced, bracketed, behind_comma}

-- the keyword or sign of an operator
abbrev pub op_symbol : Op → Symbol
op_symbol O.Or = S.Or
op_symbol O.And = S.And
op_symbol O.Eq = S.Equal
op_symbol O.Ne = S.NotEqual
op_symbol O.Lt = S.Less
op_symbol O.Le = S.LessOrEqual
op_symbol O.Gt = S.Greater
op_symbol O.Ge = S.GreaterOrEqual
op_symbol O.Plus = S.Plus
op_symbol O.Minus = S.Minus
op_symbol O.WrapPlus = S.WrapPlus
op_symbol O.WrapMinus = S.WrapMinus
op_symbol O.Times = S.Times
op_symbol O.Divide = S.Divide
op_symbol O.Remainder = S.Remainder
op_symbol O.At = S.At
op_symbol O.Add = S.Add

-- the keyword of a function
abbrev pub fun_symbol : Fun → Symbol
fun_symbol F.First = S.First
fun_symbol F.Last = S.Last
fun_symbol F.Rest = S.Rest
fun_symbol F.Front = S.Front
fun_symbol F.Len = S.Len

-- the keyword of a truth value
abbrev pub truth_symbol : Bool → Symbol
truth_symbol true = S.True
truth_symbol false = S.False

-- the level of a minus
abbrev pub minus_level : ℕ
minus_level = 6

-- the level of `not`
abbrev pub not_level : ℕ
not_level = 2

-- the level of what needs no parentheses in any place
abbrev pub primary_level : ℕ
primary_level = 7

-- the level of an operator; a function of two parts binds like a number
abbrev pub op_level : Op → ℕ
op_level O.Or = 0
op_level O.And = 1
op_level O.Eq = 3
op_level O.Ne = 3
op_level O.Lt = 3
op_level O.Le = 3
op_level O.Gt = 3
op_level O.Ge = 3
op_level O.Plus = 4
op_level O.Minus = 4
op_level O.WrapPlus = 4
op_level O.WrapMinus = 4
op_level O.Times = 5
op_level O.Divide = 5
op_level O.Remainder = 5
op_level O.At = primary_level
op_level O.Add = primary_level

-- the level that an operator wants of its left part: its own, so that chains group to the left; a
-- comparison wants the one above it
abbrev pub left_level : Op → ℕ
left_level op = if is_comparison op then suc (op_level op) else op_level op

-- the level that an operator wants of its right part, the one above its own
abbrev pub right_level : Op → ℕ
right_level op = suc (op_level op)

-- a printed expression with its level
pub record Printed : Type 0 where
  pub level : ℕ
  pub items : List Item

-- an expression in a place that wants this level
abbrev pub at_level : ℕ → Printed → List Item
at_level level part = if nat_lt part.level level then bracketed part.items else part.items

-- what stands in parentheses nowhere
abbrev pub primary : List Item → Printed
primary items = record { level = primary_level; items = items }

-- an operator between its parts, or a function of two parts
abbrev pub two_items : Op → Printed → Printed → List Item
two_items op left right =
    if op_level op == primary_level then symbol (op_symbol op)
    ∷ bracketed (left.items ++ behind_comma (λ (part : Printed). part.items) right)
    else at_level (left_level op) left ++ spaced (symbol (op_symbol op)) ++ at_level (right_level op) right

-- one node, over its printed parts
abbrev pub node_step : Node-F Name Printed Printed → Printed
node_step (N.Int z) = primary (number z ∷ [])
node_step (N.Bool b) = primary (symbol (truth_symbol b) ∷ [])
node_step N.Empty = primary (symbol S.OpenSquare ∷ symbol S.CloseSquare ∷ [])
node_step (N.Name name) = primary (named name ∷ [])
node_step (N.Neg part) = record { level = minus_level; items = symbol S.Minus ∷ at_level minus_level part }
node_step (N.Not part) = record { level = not_level; items = symbol S.Not ∷ Space ∷ at_level not_level part }
node_step (N.Two op left right) = record { level = op_level op; items = two_items op left right }
node_step (N.One fun part) = primary (symbol (fun_symbol fun) ∷ bracketed part.items)

-- what is printed of an expression, and its level
unfoldable pub printed : Expr Name → Printed
printed e = fold-Expr Name Printed Printed node_step (λ layer. layer.node) e

-- a whole expression
abbrev pub expression : Expr Name → List Item
expression e = (printed e).items
