use Rattle.std.proofs.Common.{◌∙◌, sym, ap, refl}
use Rattle.safety_check.specs.Texts.{seen_and, in_expr, in_body, in_statement}
use Rattle.safety_judge.proofs.SeenLaws.{seen-as, seen-assoc, then-seen, both-seen, seen-from}
use Rattle.safety_judge.proofs.StatementLayers.{seen-let, seen-assign, seen-call, seen-if, seen-while}
use Rattle.safety_judge.proofs.seen.+seeing.Goals as goal

pub see_statement-returns-in-Let : goal.see_statement-returns-in-Let
see_statement-returns-in-Let t c = seen-as c.see_value.result c.args.seen _ _
    (sym (seen-let c.args.statement.now _ _ _ c.in-Let.is)) c.see_value.ensures

pub see_statement-returns-in-Assign : goal.see_statement-returns-in-Assign
see_statement-returns-in-Assign t c = seen-as c.see_value-in-Assign.result c.args.seen _ _
    (sym (seen-assign c.args.statement.now _ _ c.in-Assign.is)) c.see_value-in-Assign.ensures

pub see_statement-returns-in-Call : goal.see_statement-returns-in-Call
see_statement-returns-in-Call t c = seen-as c.see_call.result c.args.seen _ _
    (sym (seen-call c.args.statement.now _ _ c.in-Call.is)) c.see_call.ensures

pub see_statement-returns-in_ok-with_yes-in-If : goal.see_statement-returns-in_ok-with_yes-in-If
see_statement-returns-in_ok-with_yes-in-If t c =
    then-seen c.see_body-in-If.result c.args.seen c.in_ok-with_yes-in-If.with_yes
    (seen_and (in_expr c.in-If.cond) (in_body c.as_slice.result.now)) (in_body c.as_slice-in-If.result.now)
    _
    (both-seen c.args.seen _ _ _ _ c.in_ok-with_cond-in-If.ensures c.in_ok-with_yes-in-If.ensures)
    (seen-assoc (in_expr c.in-If.cond) (in_body c.as_slice.result.now) (in_body c.as_slice-in-If.result.now)
    ∙ (ap (λ ss. seen_and (in_expr c.in-If.cond) (seen_and (in_body ss)
    (in_body c.as_slice-in-If.result.now))) c.as_slice.ensures
    ∙ (ap (λ ss. seen_and (in_expr c.in-If.cond) (seen_and (in_body c.in-If.yes) (in_body ss)))
    c.as_slice-in-If.ensures
    ∙ sym (seen-if c.args.statement.now _ _ _ c.in-If.is))))
    c.see_body-in-If.ensures

pub see_statement-returns-in_ok-with_cond-in-While : goal.see_statement-returns-in_ok-with_cond-in-While
see_statement-returns-in_ok-with_cond-in-While t c =
    then-seen c.see_body-in-While.result c.args.seen c.in_ok-with_cond-in-While.with_cond _ _ _
    c.in_ok-with_cond-in-While.ensures
    (ap (λ ss. seen_and (in_expr c.in-While.cond) (in_body ss)) c.as_slice-in-While.ensures
    ∙ sym (seen-while c.args.statement.now _ _ c.in-While.is))
    c.see_body-in-While.ensures

pub see_body-loop-statement-preserved : goal.see_body-loop-statement-preserved
see_body-loop-statement-preserved t c =
    seen-from in_statement in_body (λ s ss. refl) c.args.statements.now c.loop-statement.statement-index
    c.statement-item.result c.loop-statement.seen _ _ c.loop-statement-test.true c.statement-item.is
    c.loop-statement.invariant c.in_ok-seen.ensures
