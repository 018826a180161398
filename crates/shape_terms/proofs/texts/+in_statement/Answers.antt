use Rattle.std.proofs.Common.{◌∙◌, sym, ap}
use Rattle.shape_terms.specs.Texts.{in_body}
use Rattle.shape_terms.proofs.TextLemmas.{either_is, in_let, in_assign, in_calls, in_if, in_while}
use Rattle.shape_terms.proofs.texts.+in_statement.Goals as goal

pub in_statement-returns-in-Let : goal.in_statement-returns-in-Let
in_statement-returns-in-Let t c =
    either_is _ _ _ _ _ c.either.ensures c.is_variable.ensures c.in_expression.ensures
    ∙ sym (in_let c.args.variable c.args.statement.now _ _ _ c.in-Let.is)

pub in_statement-returns-in-Assign : goal.in_statement-returns-in-Assign
in_statement-returns-in-Assign t c =
    either_is _ _ _ _ _ c.either-in-Assign.ensures c.is_variable-in-Assign.ensures
    c.in_expression-in-Assign.ensures
    ∙ sym (in_assign c.args.variable c.args.statement.now _ _ c.in-Assign.is)

pub in_statement-returns-in-Call : goal.in_statement-returns-in-Call
in_statement-returns-in-Call t c =
    c.in_call.ensures ∙ sym (in_calls c.args.variable c.args.statement.now _ _ c.in-Call.is)

pub in_statement-returns-in-If : goal.in_statement-returns-in-If
in_statement-returns-in-If t c = either_is _ _ _ _ _ c.either-in-If-2.ensures c.in_expression-in-If.ensures
    (either_is _ _ _ _ _ c.either-in-If.ensures
    (c.in_body.ensures ∙ ap (in_body c.args.variable) c.as_slice.ensures)
    (c.in_body-in-If.ensures ∙ ap (in_body c.args.variable) c.as_slice-in-If.ensures))
    ∙ sym (in_if c.args.variable c.args.statement.now _ _ _ c.in-If.is)

pub in_statement-returns-in-While : goal.in_statement-returns-in-While
in_statement-returns-in-While t c =
    either_is _ _ _ _ _ c.either-in-While.ensures c.in_expression-in-While.ensures
    (c.in_body-in-While.ensures ∙ ap (in_body c.args.variable) c.as_slice-in-While.ensures)
    ∙ sym (in_while c.args.variable c.args.statement.now _ _ c.in-While.is)
