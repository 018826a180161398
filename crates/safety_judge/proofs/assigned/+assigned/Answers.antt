use Rattle.std.proofs.Common.{◌∙◌, sym, ap, refl, ◌++◌}
use Rattle.seuss_program.specs.declared.tree.Ref.{Ref}
use Rattle.seuss_program.specs.declared.tree.Statement.{Statement}
use Rattle.safety_check.specs.Ends.{way_of, names_in}
use Rattle.safety_judge.proofs.Growth.{grown, grown-twice, grown-from}
use Rattle.safety_judge.proofs.StatementLayers.{names-let, names-assign, names-call, names-if, names-while}
use Rattle.safety_judge.proofs.assigned.+assigned.Goals as goal

pub add_statement-returns-in-Let : goal.add_statement-returns-in-Let
add_statement-returns-in-Let t c = grown c.push.result c.args.names.now c.push.new.self _ _
    (sym (names-let c.args.statement.now _ _ _ c.in-Let.is)) c.push.ensures.ok

pub add_statement-returns-in-Assign : goal.add_statement-returns-in-Assign
add_statement-returns-in-Assign t c = grown c.push-in-Assign.result c.args.names.now
    c.push-in-Assign.new.self _ _
    (sym (names-assign c.args.statement.now _ _ c.in-Assign.is)) c.push-in-Assign.ensures.ok

pub add_statement-returns-in-Call : goal.add_statement-returns-in-Call
add_statement-returns-in-Call t c = grown c.add_taking.result c.args.names.now c.add_taking.new.names _ _
    (sym (names-call c.args.statement.now _ _ c.in-Call.is)) c.add_taking.ensures

pub add_statement-returns-in-While : goal.add_statement-returns-in-While
add_statement-returns-in-While t c =
    grown c.add_body-in-While.result c.args.names.now c.add_body-in-While.new.names _ _
    (ap names_in c.as_slice-in-While.ensures ∙ sym (names-while c.args.statement.now _ _ c.in-While.is))
    c.add_body-in-While.ensures

pub add_statement-returns-in_ok-add_body-in-If : goal.add_statement-returns-in_ok-add_body-in-If
add_statement-returns-in_ok-add_body-in-If t c =
    grown-twice c.add_body-in-If.result c.args.names.now c.add_body.new.names c.add_body-in-If.new.names
    _ _ _ c.in_ok-add_body-in-If.ensures
    (ap (λ ss. names_in ss ++ names_in c.as_slice-in-If.result.now) c.as_slice.ensures
    ∙ (ap (λ ss. names_in c.in-If.yes ++ names_in ss) c.as_slice-in-If.ensures
    ∙ sym (names-if c.args.statement.now _ _ _ c.in-If.is)))
    c.add_body-in-If.ensures

pub add_body-loop-statement-preserved : goal.add_body-loop-statement-preserved
add_body-loop-statement-preserved t c =
    grown-from (λ (s : Statement Ref). (way_of s).names) names_in (λ s ss. refl) c.args.statements.now
    c.loop-statement.statement-index c.statement-item.result c.loop-statement.names _ _
    c.loop-statement-test.true c.statement-item.is c.loop-statement.invariant
    c.in_ok-add_statement.ensures
