use Rattle.seuss_parser.proofs.OneExpression.{one-expression}
use Rattle.seuss_parser.proofs.laws.one_expression.Goals as goal

pub returns : goal.returns
returns c = one-expression
