-- Reading expressions.
use Rattle.std.specs.Prelude.{ℕ, zero, suc, Option}
use Rattle.seuss_parser.specs.Readings.{Reading, Refused, TooDeep, ends, either, optional, many, whole}
use Rattle.seuss_parser.specs.Readings.{◌>>=◌, ◌>>◌}
use Rattle.seuss_parser.specs.CommonReading.{read_symbol, read_mark, read_one_of, read_mark_of, read_name}
use Rattle.seuss_parser.specs.CommonReading.{read_numeral}
use Rattle.seuss_parser.specs.Fronts.{begins_with, begins_with_one_of, begins_with_name, begins_with_number}
use Rattle.seuss_parser.specs.Grammar.{max_marks}
use Rattle.seuss_parser.specs.Trees.{disjunction, conjunction, comparison, addition, multiplication}
use Rattle.seuss_parser.specs.Trees.{function, pair_function, truth, expression, grouped, compared}
use Rattle.seuss_parser.specs.Trees.{negated, minus, bracketed}
use Rattle.seuss_parser.specs.declared.word.Behind.{Behind}
use Rattle.seuss_parser.specs.declared.symbol.Symbol.{Symbol}
use Rattle.seuss_parser.specs.declared.symbol.Symbol.TheVariants as S
use Rattle.seuss_program.specs.declared.tree.Name.{Name}
use Rattle.seuss_program.specs.declared.tree.Expr.{Expr}
use Rattle.seuss_program.specs.declared.tree.Node.TheVariants as N
use Rattle.seuss_program.specs.declared.tree.Op.{Op}

-- NUMBER
unfoldable pub read_number : Reading (Expr Name)
read_number = do
  number ← read_numeral
  ends (expression number.line (N.Int number.value))

-- "true" | "false"
unfoldable pub read_truth : Reading (Expr Name)
read_truth = do
  word ← read_one_of truth
  ends (expression word.line (N.Bool word.is))

-- NAME
unfoldable pub read_value_name : Reading (Expr Name)
read_value_name = do
  name ← read_name
  ends (expression name.line (N.Name name))

-- "[" "]"
unfoldable pub read_empty : Reading (Expr Name)
read_empty = do
  line ← read_mark S.OpenSquare
  read_symbol S.CloseSquare
  ends (expression line N.Empty)

-- an operator of a level, and a part
unfoldable pub read_behind : (Symbol → Option Op) → Reading (Expr Name) → Reading Behind
read_behind ops part = do
  op ← read_mark_of ops
  found ← part
  ends (record { op = op.is; part = found })

-- part { operator part }, grouped to the left
unfoldable pub read_chain : (Symbol → Option Op) → Reading (Expr Name) → Reading (Expr Name)
read_chain ops part = do
  first ← part
  others ← many (begins_with_one_of ops) (read_behind ops part)
  ends (grouped first others)

-- expressions, by the expressions that may stand in brackets
module _ (inner : Reading (Expr Name)) where
  -- "(" expr ")", which has the line of its opening bracket
  unfoldable pub read_bracketed : Reading (Expr Name)
  read_bracketed = do
    line ← read_mark S.Open
    found ← inner
    read_symbol S.Close
    ends (bracketed line found)

  -- ( "first" | "last" | "rest" | "front" | "len" ) "(" expr ")"
  unfoldable pub read_function : Reading (Expr Name)
  read_function = do
    word ← read_mark_of function
    read_mark S.Open
    part ← inner
    read_symbol S.Close
    ends (expression word.line (N.One word.is part))

  -- ( "at" | "add" ) "(" expr "," expr ")"
  unfoldable pub read_pair_function : Reading (Expr Name)
  read_pair_function = do
    word ← read_mark_of pair_function
    read_mark S.Open
    left ← inner
    read_symbol S.Comma
    right ← inner
    read_symbol S.Close
    ends (expression word.line (N.Two word.is left right))

  -- NUMBER | "true" | "false" | NAME | "[" "]" | "(" expr ")" | a function
  unfoldable pub read_primary : Reading (Expr Name)
  read_primary =
      either begins_with_number read_number
      (either (begins_with_one_of truth) read_truth
      (either begins_with_name read_value_name
      (either (begins_with S.OpenSquare) read_empty
      (either (begins_with S.Open) read_bracketed
      (either (begins_with_one_of function) read_function read_pair_function)))))

  -- { "-" } primary
  unfoldable pub read_unary : Reading (Expr Name)
  read_unary = do
    lines ← many (begins_with S.Minus) (read_mark S.Minus)
    part ← read_primary
    ends (minus lines part)

  -- unary { ( "*" | "/" | "%" ) unary }
  unfoldable pub read_product : Reading (Expr Name)
  read_product = read_chain multiplication read_unary

  -- product { ( "+" | "-" | "&+" | "&-" ) product }
  unfoldable pub read_sum : Reading (Expr Name)
  read_sum = read_chain addition read_product

  -- sum [ ( "=" | "<>" | "<" | "<=" | ">" | ">=" ) sum ]
  unfoldable pub read_comparison : Reading (Expr Name)
  read_comparison = do
    left ← read_sum
    right ← optional (begins_with_one_of comparison) (read_behind comparison read_sum)
    ends (compared left right)

  -- { "not" } comparison
  unfoldable pub read_negation : Reading (Expr Name)
  read_negation = do
    lines ← many (begins_with S.Not) (read_mark S.Not)
    part ← read_comparison
    ends (negated lines part)

  -- negation { "and" negation }
  unfoldable pub read_conjunction : Reading (Expr Name)
  read_conjunction = read_chain conjunction read_negation

  -- conjunction { "or" conjunction }
  unfoldable pub read_disjunction : Reading (Expr Name)
  read_disjunction = read_chain disjunction read_conjunction

-- an expression in which brackets stand so deep in one another; deeper ones have no room for their marks
abbrev pub read_expression : ℕ → Reading (Expr Name)
read_expression zero room words = Refused TooDeep words
read_expression (suc brackets) room words = read_disjunction (read_expression brackets) room words

-- brackets are marks, so this depth is never reached
abbrev pub most_brackets : ℕ
most_brackets = 257

-- an expression that no other one contains
unfoldable pub read_whole_expression : Reading (Expr Name)
read_whole_expression = whole max_marks (read_expression most_brackets)
