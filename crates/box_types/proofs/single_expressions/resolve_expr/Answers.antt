use Rattle.std.proofs.Common.{ap, ◌∙◌}
use Rattle.box_types.specs.SingleExpressions.{with_vars}
use Rattle.box_types.proofs.SingleLemmas.{stands_by, bool_by}
use Rattle.box_types.proofs.single_expressions.resolve_expr.Goals as goal

pub returns-clause-stands : goal.returns-clause-stands
returns-clause-stands c = stands_by c.args.program.now c.args.cat c.only_vars-own.result
    (c.only_vars-own.ensures ∙ ap with_vars c.in_ok-vars.ensures) c.args.expr
    c.resolve_beside.result c.resolve_beside.ensures

pub returns-clause-kind : goal.returns-clause-kind
returns-clause-kind c = bool_by c.args.program.now c.args.cat c.only_vars-own.result
    (c.only_vars-own.ensures ∙ ap with_vars c.in_ok-vars.ensures) c.args.expr
    c.resolve_beside.result c.resolve_beside.ensures c.numbers_fit.ensures
