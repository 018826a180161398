use Rattle.std.proofs.Common.{◌∙◌, sym, ap, Some}
use Rattle.safety_check.specs.Regions.{forgotten}
use Rattle.safety_check.specs.Ends.{names_in}
use Rattle.safety_judge.proofs.SideNodes.{told-as}
use Rattle.safety_judge.proofs.StatementLayers.{end-let, end-assign, end-call, end-while}
use Rattle.safety_judge.proofs.BodyLaws.{if-is}
use Rattle.safety_judge.proofs.ends.+bodies.Goals as goal

pub statement_end-returns-in-Let : goal.statement_end-returns-in-Let
statement_end-returns-in-Let t c = told-as c.put_end.result _ _
    (sym (end-let c.args.statement.now _ _ _ c.args.frame c.in-Let.is)) c.put_end.ensures

pub statement_end-returns-in-Assign : goal.statement_end-returns-in-Assign
statement_end-returns-in-Assign t c = told-as c.put_end-in-Assign.result _ _
    (sym (end-assign c.args.statement.now _ _ c.args.frame c.in-Assign.is)) c.put_end-in-Assign.ensures

pub statement_end-returns-in-Call : goal.statement_end-returns-in-Call
statement_end-returns-in-Call t c = told-as c.call_end.result _ _
    (sym (end-call c.args.statement.now _ _ c.args.frame c.in-Call.is)) c.call_end.ensures

pub statement_end-returns-in_ok-fails-in-If : goal.statement_end-returns-in_ok-fails-in-If
statement_end-returns-in_ok-fails-in-If t c = if-is c.args.statement.now c.in-If.cond c.in-If.yes c.in-If.no
    c.args.frame c.in_ok-copied-in-If.field-0 c.as_slice.result.now c.as_slice-in-If.result.now
    c.in_ok-region-in-If.region c.in_ok-holds-in-If.holds c.in_ok-fails-in-If.fails c.if_end.result
    c.in-If.is c.in_ok-copied-in-If.ensures c.as_slice.ensures c.as_slice-in-If.ensures
    c.in_ok-region-in-If.ensures c.in_ok-holds-in-If.ensures c.in_ok-fails-in-If.ensures c.if_end.ensures

pub statement_end-returns-in-While : goal.statement_end-returns-in-While
statement_end-returns-in-While t c = told-as c.while_end.result _ _
    (ap (λ ss. Some (forgotten (names_in ss) c.args.frame)) c.as_slice-in-While.ensures
    ∙ sym (end-while c.args.statement.now _ _ c.args.frame c.in-While.is)) c.while_end.ensures
