use Rattle.commute_certs.proofs.SingleLemmas.{single-Let, single-Assign, single-Call, single-While}
use Rattle.commute_certs.proofs.SingleLemmas.{if_single, if_not_single, body_not_single, body_single_on}
use Rattle.commute_certs.proofs.singles.+singles.Goals as goal

pub single_statement-returns-in-Let : goal.single_statement-returns-in-Let
single_statement-returns-in-Let t c =
    single-Let c.args.statement.now c.in-Let.name c.in-Let.kind c.in-Let.value c.in-Let.is

pub single_statement-returns-in-Assign : goal.single_statement-returns-in-Assign
single_statement-returns-in-Assign t c =
    single-Assign c.args.statement.now c.in-Assign.name c.in-Assign.value c.in-Assign.is

pub single_statement-returns-in-Call : goal.single_statement-returns-in-Call
single_statement-returns-in-Call t c =
    single-Call c.args.statement.now c.in-Call.bind c.in-Call.call c.in-Call.is

pub single_statement-returns-in-While : goal.single_statement-returns-in-While
single_statement-returns-in-While t c =
    single-While c.args.statement.now c.in-While.cond c.in-While.turn c.in-While.is

pub single_statement-returns-then-single_body : goal.single_statement-returns-then-single_body
single_statement-returns-then-single_body t c =
    if_single c.args.statement.now c.in-If.cond c.in-If.yes c.in-If.no c.as_slice.result.now
    c.as_slice-then-single_body.result.now c.single_body.result c.single_body-then-single_body.result
    c.in-If.is c.as_slice.ensures c.as_slice-then-single_body.ensures c.single_body.ensures
    c.if-single_body.true c.single_body-then-single_body.ensures

pub single_statement-returns-else-single_body : goal.single_statement-returns-else-single_body
single_statement-returns-else-single_body t c =
    if_not_single c.args.statement.now c.in-If.cond c.in-If.yes c.in-If.no c.as_slice.result.now
    c.single_body.result c.in-If.is c.as_slice.ensures c.single_body.ensures c.if-single_body.false

pub single_body-returns-then-not-single_statement : goal.single_body-returns-then-not-single_statement
single_body-returns-then-not-single_statement t c =
    body_not_single c.args.statements.now c.loop-statement.statement-index c.statement-item.result
    c.single_statement.result _ c.loop-statement-test.true c.statement-item.is
    c.single_statement.ensures c.if-not-single_statement.true c.loop-statement.invariant

pub single_body-loop-statement-preserved : goal.single_body-loop-statement-preserved
single_body-loop-statement-preserved t c =
    body_single_on c.args.statements.now c.loop-statement.statement-index c.statement-item.result
    c.single_statement.result _ c.loop-statement-test.true c.statement-item.is
    c.single_statement.ensures c.if-not-single_statement.false c.loop-statement.invariant
