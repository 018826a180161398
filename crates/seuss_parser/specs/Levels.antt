-- The levels of operators: the operators of each, and what stands between them.
use Rattle.std.specs.Prelude.{Option}
use Rattle.seuss_parser.specs.Readings.{Reading, read_as, many}
use Rattle.seuss_parser.specs.Fronts.{begins_with_one_of}
use Rattle.seuss_parser.specs.ExpressionReading.{read_unary, read_product, read_sum, read_negation}
use Rattle.seuss_parser.specs.ExpressionReading.{read_chain}
use Rattle.seuss_parser.specs.ExpressionReading.{read_conjunction, read_behind}
use Rattle.seuss_parser.specs.Trees.{disjunction, conjunction, comparison, addition, multiplication}
use Rattle.seuss_parser.specs.Trees.{grouped}
use Rattle.seuss_parser.specs.declared.level.Level.{Level}
use Rattle.seuss_parser.specs.declared.level.Level.TheVariants as L
use Rattle.seuss_parser.specs.declared.symbol.Symbol.{Symbol}
use Rattle.seuss_program.specs.declared.tree.Name.{Name}
use Rattle.seuss_program.specs.declared.tree.Expr.{Expr}
use Rattle.seuss_program.specs.declared.tree.Op.{Op}

abbrev pub operators : Level → Symbol → Option Op
operators L.Or symbol = disjunction symbol
operators L.And symbol = conjunction symbol
operators L.Comparison symbol = comparison symbol
operators L.Sum symbol = addition symbol
operators L.Product symbol = multiplication symbol

-- a part between the operators of a level, by the expressions that may stand in brackets
abbrev pub read_part : Level → Reading (Expr Name) → Reading (Expr Name)
read_part L.Or inner = read_conjunction inner
read_part L.And inner = read_negation inner
read_part L.Comparison inner = read_sum inner
read_part L.Sum inner = read_product inner
read_part L.Product inner = read_unary inner

-- a chain of a level
abbrev pub read_level : Level → Reading (Expr Name) → Reading (Expr Name)
read_level level inner = read_chain (operators level) (read_part level inner)

-- a first part, and those that stand after it in a chain
abbrev pub read_links : Level → Reading (Expr Name) → Expr Name → Reading (Expr Name)
read_links level inner first room words =
    read_as (grouped first)
    (many (begins_with_one_of (operators level))
    (read_behind (operators level) (read_part level inner)) room words)
