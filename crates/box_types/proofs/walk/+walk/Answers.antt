use Rattle.std.proofs.Common.{◌≡◌, refl, Err, sym, ap, ◌∙◌, rules}
use Rattle.box_types.specs.Faults.{test_of}
use Rattle.seuss_program.specs.declared.tree.Statement.TheVariants.{If, While}
use Rattle.box_types.specs.Walks.{Walked, body}
use Rattle.box_types.proofs.Walked.{walk_stops, walk_passes, walk-Let, walk-Assign, walk-Call, walk-If}
use Rattle.box_types.proofs.Walked.{walk-While, body_stops, left, left_twice, cond_stops, first_stops}
use Rattle.box_types.proofs.Walked.{second_stops, only_stops, turn_passes, either_passes}
use Rattle.box_types.proofs.walk.+walk.Goals as goal

pub walk_body-returns-in_err-walk_statement-clause-after :
    goal.walk_body-returns-in_err-walk_statement-clause-after
walk_body-returns-in_err-walk_statement-clause-after t c =
    let same : c.from_residual.result ≡ Err c.in_err-walk_statement.field-0.0 = search rules in
    body_stops (test_of c.args.check) c.args.home.now.cats.now c.args.home.now.own.now
    c.args.home.now.number c.args.statements.now c.loop-statement.statement-index
    c.statement-item.result c.loop-statement.scope c.walk_statement.new.scope _ c.from_residual.result
    c.in_err-walk_statement.field-0.0
    c.loop-statement-test.true c.statement-item.is c.loop-statement.invariant.same same
    c.in_err-walk_statement.ensures.after

pub walk_statement-returns-in_err-walk_let-in-Let-clause-after :
    goal.walk_statement-returns-in_err-walk_let-in-Let-clause-after
walk_statement-returns-in_err-walk_let-in-Let-clause-after t c =
    let same : c.from_residual.result ≡ Err c.in_err-walk_let-in-Let.field-0.0 = search rules in
    walk_stops c.from_residual.result c.in_err-walk_let-in-Let.field-0.0 _ _ _ same
    (ap (λ (w : Walked). w.lines)
    (walk-Let (test_of c.args.check) c.args.home.now.cats.now c.args.home.now.own.now
    c.args.home.now.number c.args.statement.now c.args.scope.now c.in-Let.name c.in-Let.kind
    c.in-Let.value c.in-Let.is))
    c.in_err-walk_let-in-Let.ensures

pub walk_statement-returns-in_err-walk_assigned-in-Assign-clause-after :
    goal.walk_statement-returns-in_err-walk_assigned-in-Assign-clause-after
walk_statement-returns-in_err-walk_assigned-in-Assign-clause-after t c =
    let same : c.from_residual-in_err-walk_assigned-in-Assign.result
    ≡ Err c.in_err-walk_assigned-in-Assign.field-0.0 = search rules in
    walk_stops c.from_residual-in_err-walk_assigned-in-Assign.result
    c.in_err-walk_assigned-in-Assign.field-0.0 _ _ _ same
    (ap (λ (w : Walked). w.lines)
    (walk-Assign (test_of c.args.check) c.args.home.now.cats.now c.args.home.now.own.now
    c.args.home.now.number c.args.statement.now c.args.scope.now c.in-Assign.name c.in-Assign.value
    c.in-Assign.is))
    c.in_err-walk_assigned-in-Assign.ensures

pub walk_statement-returns-in_err-walk_called-in-Call-clause-after :
    goal.walk_statement-returns-in_err-walk_called-in-Call-clause-after
walk_statement-returns-in_err-walk_called-in-Call-clause-after t c =
    let same : c.from_residual-in_err-walk_called-in-Call.result
    ≡ Err c.in_err-walk_called-in-Call.field-0.0 = search rules in
    walk_stops c.from_residual-in_err-walk_called-in-Call.result c.in_err-walk_called-in-Call.field-0.0 _ _
    _ same
    (ap (λ (w : Walked). w.lines)
    (walk-Call (test_of c.args.check) c.args.home.now.cats.now c.args.home.now.own.now
    c.args.home.now.number c.args.statement.now c.args.scope.now c.in-Call.bind c.in-Call.call
    c.in-Call.is))
    c.in_err-walk_called-in-Call.ensures

pub walk_statement-returns-in_ok-declare-in-Let-clause-after :
    goal.walk_statement-returns-in_ok-declare-in-Let-clause-after
walk_statement-returns-in_ok-declare-in-Let-clause-after t c =
    walk_passes _ _ _ _ (walk-Let (test_of c.args.check) c.args.home.now.cats.now c.args.home.now.own.now
    c.args.home.now.number c.args.statement.now c.args.scope.now c.in-Let.name c.in-Let.kind
    c.in-Let.value c.in-Let.is)
    c.in_ok-walk_let-in-Let.ensures (sym c.in_ok-declare-in-Let.ensures)

pub walk_statement-returns-in_err-walk_condition-in-If-clause-after :
    goal.walk_statement-returns-in_err-walk_condition-in-If-clause-after
walk_statement-returns-in_err-walk_condition-in-If-clause-after t c =
    let same : c.from_residual-in_err-walk_condition-in-If.result
    ≡ Err c.in_err-walk_condition-in-If.field-0.0 = search rules in
    cond_stops c.args.scope.now _ c.from_residual-in_err-walk_condition-in-If.result
    c.in_err-walk_condition-in-If.field-0.0 _ _ _
    (ap (λ (w : Walked). w.lines)
    (walk-If (test_of c.args.check) c.args.home.now.cats.now c.args.home.now.own.now
    c.args.home.now.number c.args.statement.now c.args.scope.now c.in-If.cond c.in-If.yes c.in-If.no
    c.in-If.is)) same c.in_err-walk_condition-in-If.ensures

pub walk_statement-returns-in_err-walk_body-in-If-clause-after :
    goal.walk_statement-returns-in_err-walk_body-in-If-clause-after
walk_statement-returns-in_err-walk_body-in-If-clause-after t c =
    let same : c.from_residual-in_err-walk_body-in-If.result ≡ Err c.in_err-walk_body-in-If.field-0.0 =
    search rules in
    first_stops c.args.scope.now _ c.from_residual-in_err-walk_body-in-If.result
    c.in_err-walk_body-in-If.field-0.0 _
    (body (test_of c.args.check) c.args.home.now.cats.now c.args.home.now.own.now c.args.home.now.number
    c.as_slice.result.now c.args.scope.now) _ c.walk_body.new.scope
    (ap (λ (w : Walked). w.lines)
    (walk-If (test_of c.args.check) c.args.home.now.cats.now c.args.home.now.own.now
    c.args.home.now.number c.args.statement.now c.args.scope.now c.in-If.cond c.as_slice.result.now
    c.in-If.no (c.in-If.is ∙ ap (λ ys. If c.in-If.cond ys c.in-If.no) (sym c.as_slice.ensures)))) same
    c.in_ok-walk_condition-in-If.ensures c.in_err-walk_body-in-If.ensures.after _

pub walk_statement-returns-in_err-walk_body-in-If-2-clause-after :
    goal.walk_statement-returns-in_err-walk_body-in-If-2-clause-after
walk_statement-returns-in_err-walk_body-in-If-2-clause-after t c =
    let same : c.from_residual-in_err-walk_body-in-If-2.result ≡ Err c.in_err-walk_body-in-If-2.field-0.0 =
    search rules in
    second_stops c.args.scope.now _ c.from_residual-in_err-walk_body-in-If-2.result
    c.in_err-walk_body-in-If-2.field-0.0 _
    (body (test_of c.args.check) c.args.home.now.cats.now c.args.home.now.own.now c.args.home.now.number
    c.as_slice.result.now c.args.scope.now)
    (body (test_of c.args.check) c.args.home.now.cats.now c.args.home.now.own.now c.args.home.now.number
    c.as_slice-in-If.result.now) c.walk_body.new.scope c.leave.new.self c.walk_body-in-If.new.scope
    (ap (λ (w : Walked). w.lines)
    (walk-If (test_of c.args.check) c.args.home.now.cats.now c.args.home.now.own.now
    c.args.home.now.number c.args.statement.now c.args.scope.now c.in-If.cond c.as_slice.result.now
    c.as_slice-in-If.result.now
    (c.in-If.is ∙ (ap (λ ys. If c.in-If.cond ys c.in-If.no) (sym c.as_slice.ensures)
    ∙ ap (λ ns. If c.in-If.cond c.as_slice.result.now ns) (sym c.as_slice-in-If.ensures))))) same
    c.in_ok-walk_condition-in-If.ensures c.in_ok-walk_body-in-If.ensures.after
    (left c.len-count.result c.args.scope.now c.walk_body.new.scope c.leave.new.self c.len-count.ensures
    c.in_ok-walk_body-in-If.ensures.kept
    c.leave.ensures.visible c.leave.ensures.next c.leave.ensures.earlier)
    c.in_err-walk_body-in-If-2.ensures.after _

pub walk_statement-returns-in_err-walk_condition-in-While-clause-after :
    goal.walk_statement-returns-in_err-walk_condition-in-While-clause-after
walk_statement-returns-in_err-walk_condition-in-While-clause-after t c =
    let same : c.from_residual-in_err-walk_condition-in-While.result
    ≡ Err c.in_err-walk_condition-in-While.field-0.0 = search rules in
    cond_stops c.args.scope.now _ c.from_residual-in_err-walk_condition-in-While.result
    c.in_err-walk_condition-in-While.field-0.0 _ _ _
    (ap (λ (w : Walked). w.lines)
    (walk-While (test_of c.args.check) c.args.home.now.cats.now c.args.home.now.own.now
    c.args.home.now.number c.args.statement.now c.args.scope.now c.in-While.cond c.in-While.turn
    c.in-While.is)) same c.in_err-walk_condition-in-While.ensures

pub walk_statement-returns-in_err-walk_body-in-While-clause-after :
    goal.walk_statement-returns-in_err-walk_body-in-While-clause-after
walk_statement-returns-in_err-walk_body-in-While-clause-after t c =
    let same : c.from_residual-in_err-walk_body-in-While.result
    ≡ Err c.in_err-walk_body-in-While.field-0.0 = search rules in
    only_stops c.args.scope.now _ c.from_residual-in_err-walk_body-in-While.result
    c.in_err-walk_body-in-While.field-0.0 _
    (body (test_of c.args.check) c.args.home.now.cats.now c.args.home.now.own.now c.args.home.now.number
    c.as_slice-in-While.result.now c.args.scope.now) c.walk_body-in-While.new.scope
    (ap (λ (w : Walked). w.lines)
    (walk-While (test_of c.args.check) c.args.home.now.cats.now c.args.home.now.own.now
    c.args.home.now.number c.args.statement.now c.args.scope.now c.in-While.cond
    c.as_slice-in-While.result.now
    (c.in-While.is ∙ ap (λ ts. While c.in-While.cond ts) (sym c.as_slice-in-While.ensures)))) same
    c.in_ok-walk_condition-in-While.ensures c.in_err-walk_body-in-While.ensures.after _

pub walk_statement-returns-in_ok-walk_assigned-in-Assign-clause-after :
    goal.walk_statement-returns-in_ok-walk_assigned-in-Assign-clause-after
walk_statement-returns-in_ok-walk_assigned-in-Assign-clause-after t c =
    walk_passes _ _ _ _ (walk-Assign (test_of c.args.check) c.args.home.now.cats.now c.args.home.now.own.now
    c.args.home.now.number c.args.statement.now c.args.scope.now c.in-Assign.name c.in-Assign.value
    c.in-Assign.is)
    c.in_ok-walk_assigned-in-Assign.ensures refl

pub walk_statement-returns-in_ok-walk_called-in-Call-clause-after :
    goal.walk_statement-returns-in_ok-walk_called-in-Call-clause-after
walk_statement-returns-in_ok-walk_called-in-Call-clause-after t c =
    walk_passes _ _ _ _ (walk-Call (test_of c.args.check) c.args.home.now.cats.now c.args.home.now.own.now
    c.args.home.now.number c.args.statement.now c.args.scope.now c.in-Call.bind c.in-Call.call
    c.in-Call.is)
    c.in_ok-walk_called-in-Call.ensures refl

pub walk_statement-returns-in_ok-walk_body-in-If-2-clause-after :
    goal.walk_statement-returns-in_ok-walk_body-in-If-2-clause-after
walk_statement-returns-in_ok-walk_body-in-If-2-clause-after t c =
    either_passes c.args.scope.now _ _
    (body (test_of c.args.check) c.args.home.now.cats.now c.args.home.now.own.now c.args.home.now.number
    c.as_slice.result.now c.args.scope.now)
    (body (test_of c.args.check) c.args.home.now.cats.now c.args.home.now.own.now c.args.home.now.number
    c.as_slice-in-If.result.now) c.walk_body.new.scope c.leave.new.self c.walk_body-in-If.new.scope
    c.leave-in-If.new.self
    (walk-If (test_of c.args.check) c.args.home.now.cats.now c.args.home.now.own.now c.args.home.now.number
    c.args.statement.now c.args.scope.now c.in-If.cond c.as_slice.result.now c.as_slice-in-If.result.now
    (c.in-If.is ∙ (ap (λ ys. If c.in-If.cond ys c.in-If.no) (sym c.as_slice.ensures)
    ∙ ap (λ ns. If c.in-If.cond c.as_slice.result.now ns) (sym c.as_slice-in-If.ensures))))
    c.in_ok-walk_condition-in-If.ensures c.in_ok-walk_body-in-If.ensures.after
    (left c.len-count.result c.args.scope.now c.walk_body.new.scope c.leave.new.self c.len-count.ensures
    c.in_ok-walk_body-in-If.ensures.kept
    c.leave.ensures.visible c.leave.ensures.next c.leave.ensures.earlier)
    c.in_ok-walk_body-in-If-2.ensures.after
    (left c.len-count.result c.args.scope.now c.walk_body-in-If.new.scope c.leave-in-If.new.self
    c.len-count.ensures
    (left_twice c.len-count.result c.args.scope.now c.walk_body.new.scope c.leave.new.self
    c.walk_body-in-If.new.scope c.len-count.ensures c.in_ok-walk_body-in-If.ensures.kept
    c.leave.ensures.visible c.in_ok-walk_body-in-If-2.ensures.kept)
    c.leave-in-If.ensures.visible c.leave-in-If.ensures.next c.leave-in-If.ensures.earlier)

pub walk_statement-returns-in_ok-walk_body-in-While-clause-after :
    goal.walk_statement-returns-in_ok-walk_body-in-While-clause-after
walk_statement-returns-in_ok-walk_body-in-While-clause-after t c =
    turn_passes c.args.scope.now _ _
    (body (test_of c.args.check) c.args.home.now.cats.now c.args.home.now.own.now c.args.home.now.number
    c.as_slice-in-While.result.now c.args.scope.now) c.walk_body-in-While.new.scope
    c.leave-in-While.new.self
    (walk-While (test_of c.args.check) c.args.home.now.cats.now c.args.home.now.own.now
    c.args.home.now.number c.args.statement.now c.args.scope.now c.in-While.cond
    c.as_slice-in-While.result.now
    (c.in-While.is ∙ ap (λ ts. While c.in-While.cond ts) (sym c.as_slice-in-While.ensures)))
    c.in_ok-walk_condition-in-While.ensures c.in_ok-walk_body-in-While.ensures.after
    (left c.len-count.result c.args.scope.now c.walk_body-in-While.new.scope c.leave-in-While.new.self
    c.len-count.ensures c.in_ok-walk_body-in-While.ensures.kept
    c.leave-in-While.ensures.visible c.leave-in-While.ensures.next c.leave-in-While.ensures.earlier)
