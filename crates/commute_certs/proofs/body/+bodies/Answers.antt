use Rattle.std.proofs.Common.{rules, ◌≡◌, List, if◌then◌else◌, Result, Err, sym, subst}
use Rattle.seuss_program.specs.declared.tree.Ref.{Ref}
use Rattle.seuss_program.specs.declared.tree.Statement.{Statement}
use Rattle.commute_certs.specs.declared.why.Reason.{Reason}
use Rattle.commute_certs.specs.declared.places.Places.{Places}
use Rattle.commute_certs.specs.Terms.{told, and_then, truth_in}
use Rattle.commute_certs.specs.Bodies.{body, statement}
use Rattle.commute_certs.specs.Answers.{Tells}
use Rattle.commute_certs.proofs.Nodes.{handed_on}
use Rattle.commute_certs.proofs.StatementLemmas.{leaves-Let, leaves-Assign, leaves-Call, leaves-If}
use Rattle.commute_certs.proofs.StatementLemmas.{leaves-While, branch_stopped, branch_taken, body_stops}
use Rattle.commute_certs.proofs.StatementLemmas.{body_goes_on}
use Rattle.commute_certs.proofs.body.+bodies.Goals as goal

pub run_statement-returns-in-Let : goal.run_statement-returns-in-Let
run_statement-returns-in-Let t c =
    subst (λ (m : Result Places Reason). Tells c.assign.result m)
    (sym (leaves-Let c.args.statement.now c.args.places c.in-Let.name c.in-Let.kind c.in-Let.value
    c.in-Let.is)) c.assign.ensures

pub run_statement-returns-in-Assign : goal.run_statement-returns-in-Assign
run_statement-returns-in-Assign t c =
    subst (λ (m : Result Places Reason). Tells c.assign-in-Assign.result m)
    (sym (leaves-Assign c.args.statement.now c.args.places c.in-Assign.name c.in-Assign.value
    c.in-Assign.is)) c.assign-in-Assign.ensures

pub run_statement-returns-in-Call : goal.run_statement-returns-in-Call
run_statement-returns-in-Call t c =
    leaves-Call c.args.statement.now c.args.places c.in-Call.bind c.in-Call.call c.in-Call.is

pub run_statement-returns-in-While : goal.run_statement-returns-in-While
run_statement-returns-in-While t c =
    leaves-While c.args.statement.now c.args.places c.in-While.cond c.in-While.turn c.in-While.is

pub run_statement-returns-in_err-condition-in-If : goal.run_statement-returns-in_err-condition-in-If
run_statement-returns-in_err-condition-in-If t c =
    let same : c.from_residual.result ≡ Err c.in_err-condition-in-If.field-0.0 = search rules in
    handed_on c.from_residual.result c.in_err-condition-in-If.field-0.0
    (statement c.args.statement.now c.args.places) same
    (branch_stopped c.in_err-condition-in-If.field-0.0
    (and_then (told c.in-If.cond c.args.places.vars c.args.places.slots) truth_in) (body c.in-If.yes)
    (body c.in-If.no) c.args.places _
    (leaves-If c.args.statement.now c.args.places c.in-If.cond c.in-If.yes c.in-If.no c.in-If.is)
    c.in_err-condition-in-If.ensures)

pub run_statement-returns-then-branch : goal.run_statement-returns-then-branch
run_statement-returns-then-branch t c =
    branch_taken c.in_ok-condition-in-If.field-0 c.run_body.result
    (and_then (told c.in-If.cond c.args.places.vars c.args.places.slots) truth_in) (body c.in-If.yes)
    (body c.in-If.no) c.args.places _
    (leaves-If c.args.statement.now c.args.places c.in-If.cond c.in-If.yes c.in-If.no c.in-If.is)
    c.in_ok-condition-in-If.ensures
    (subst (λ b. Tells c.run_body.result
    (if b then body c.in-If.yes c.args.places else body c.in-If.no c.args.places)) (sym c.if-branch.true)
    (subst (λ (ss : List (Statement Ref)). Tells c.run_body.result (body ss c.args.places))
    c.as_slice.ensures c.run_body.ensures))

pub run_statement-returns-else-branch : goal.run_statement-returns-else-branch
run_statement-returns-else-branch t c =
    branch_taken c.in_ok-condition-in-If.field-0 c.run_body-else-branch.result
    (and_then (told c.in-If.cond c.args.places.vars c.args.places.slots) truth_in) (body c.in-If.yes)
    (body c.in-If.no) c.args.places _
    (leaves-If c.args.statement.now c.args.places c.in-If.cond c.in-If.yes c.in-If.no c.in-If.is)
    c.in_ok-condition-in-If.ensures
    (subst (λ b. Tells c.run_body-else-branch.result
    (if b then body c.in-If.yes c.args.places else body c.in-If.no c.args.places))
    (sym c.if-branch.false)
    (subst (λ (ss : List (Statement Ref)). Tells c.run_body-else-branch.result (body ss c.args.places))
    c.as_slice-else-branch.ensures c.run_body-else-branch.ensures))

pub run_body-returns-in_err-places : goal.run_body-returns-in_err-places
run_body-returns-in_err-places t c =
    let same : c.from_residual.result ≡ Err c.in_err-places.field-0.0 = search rules in
    handed_on c.from_residual.result c.in_err-places.field-0.0 (body c.args.statements.now c.args.places)
    same
    (body_stops c.args.statements.now c.loop-statement.statement-index c.statement-item.result
    c.loop-statement.places _ c.in_err-places.field-0.0
    c.loop-statement-test.true c.statement-item.is c.loop-statement.invariant c.in_err-places.ensures)

pub run_body-loop-statement-preserved : goal.run_body-loop-statement-preserved
run_body-loop-statement-preserved t c =
    body_goes_on c.args.statements.now c.loop-statement.statement-index c.statement-item.result
    c.loop-statement.places c.in_ok-places.places _
    c.loop-statement-test.true c.statement-item.is c.loop-statement.invariant c.in_ok-places.ensures
