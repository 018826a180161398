use Rattle.std.proofs.Common.{refl, sym, ap, ◌∙◌}
use Rattle.std.proofs.lemmas.Result.{IfOk-weaker}
use Rattle.seuss_program.specs.declared.tree.Statement.TheVariants.{If, While}
use Rattle.box_types.specs.Namings.{body}
use Rattle.box_types.proofs.Walked.{left, left_twice}
use Rattle.box_types.proofs.Numberings.{made_of, number-Let, number-Assign, number-Call, number-If}
use Rattle.box_types.proofs.Numberings.{number-While, either_made, turn_made}
use Rattle.box_types.proofs.naming.+numbering.Goals as goal

pub make_statement-returns-in_ok-declare-in-Let-clause-after :
    goal.make_statement-returns-in_ok-declare-in-Let-clause-after
make_statement-returns-in_ok-declare-in-Let-clause-after t c =
    made_of _ _ _ _ _ (number-Let c.args.home.now.cats.now c.args.home.now.own.now c.args.statement.now
    c.args.scope.now c.in-Let.name c.in-Let.kind c.in-Let.value c.in-Let.is)
    c.in_ok-made-in-Let.ensures c.in_ok-declare-in-Let.ensures

pub make_statement-returns-in-Assign-clause-after :
    goal.make_statement-returns-in-Assign-clause-after
make_statement-returns-in-Assign-clause-after t c =
    IfOk-weaker c.make_assigned.result _ _ (λ made h. made_of _ _ _ _ _
    (number-Assign c.args.home.now.cats.now c.args.home.now.own.now c.args.statement.now c.args.scope.now
    c.in-Assign.name c.in-Assign.value c.in-Assign.is) h refl) c.make_assigned.ensures

pub make_statement-returns-in-Call-clause-after :
    goal.make_statement-returns-in-Call-clause-after
make_statement-returns-in-Call-clause-after t c =
    IfOk-weaker c.make_called.result _ _ (λ made h. made_of _ _ _ _ _
    (number-Call c.args.home.now.cats.now c.args.home.now.own.now c.args.statement.now c.args.scope.now
    c.in-Call.bind c.in-Call.call c.in-Call.is) h refl) c.make_called.ensures

pub make_statement-returns-in_ok-no-in-If-clause-after :
    goal.make_statement-returns-in_ok-no-in-If-clause-after
make_statement-returns-in_ok-no-in-If-clause-after t c =
    either_made c.args.home.now.cats.now c.args.home.now.own.now c.args.statement.now c.args.scope.now _ _
    c.in_ok-cond-in-If.cond
    (body c.args.home.now.cats.now c.args.home.now.own.now c.as_slice.result.now)
    (body c.args.home.now.cats.now c.args.home.now.own.now c.as_slice-in-If.result.now)
    c.in_ok-yes-in-If.yes c.in_ok-no-in-If.no c.make_body.new.scope c.leave.new.self
    c.make_body-in-If.new.scope c.leave-in-If.new.self
    (number-If c.args.home.now.cats.now c.args.home.now.own.now c.args.statement.now c.args.scope.now
    c.in-If.cond c.as_slice.result.now c.as_slice-in-If.result.now
    (c.in-If.is ∙ (ap (λ ys. If c.in-If.cond ys c.in-If.no) (sym c.as_slice.ensures)
    ∙ ap (λ ns. If c.in-If.cond c.as_slice.result.now ns) (sym c.as_slice-in-If.ensures))))
    c.in_ok-cond-in-If.ensures c.in_ok-yes-in-If.ensures.after
    (left c.len-count.result c.args.scope.now c.make_body.new.scope c.leave.new.self c.len-count.ensures
    c.in_ok-yes-in-If.ensures.kept
    c.leave.ensures.visible c.leave.ensures.next c.leave.ensures.earlier)
    c.in_ok-no-in-If.ensures.after
    (left c.len-count.result c.args.scope.now c.make_body-in-If.new.scope c.leave-in-If.new.self
    c.len-count.ensures
    (left_twice c.len-count.result c.args.scope.now c.make_body.new.scope c.leave.new.self
    c.make_body-in-If.new.scope
    c.len-count.ensures c.in_ok-yes-in-If.ensures.kept c.leave.ensures.visible c.in_ok-no-in-If.ensures.kept)
    c.leave-in-If.ensures.visible c.leave-in-If.ensures.next c.leave-in-If.ensures.earlier)

pub make_statement-returns-in_ok-turn-in-While-clause-after :
    goal.make_statement-returns-in_ok-turn-in-While-clause-after
make_statement-returns-in_ok-turn-in-While-clause-after t c =
    turn_made c.args.home.now.cats.now c.args.home.now.own.now c.args.statement.now c.args.scope.now _ _
    c.in_ok-cond-in-While.cond
    (body c.args.home.now.cats.now c.args.home.now.own.now c.as_slice-in-While.result.now)
    c.in_ok-turn-in-While.turn c.make_body-in-While.new.scope c.leave-in-While.new.self
    (number-While c.args.home.now.cats.now c.args.home.now.own.now c.args.statement.now c.args.scope.now
    c.in-While.cond c.as_slice-in-While.result.now
    (c.in-While.is ∙ ap (λ ts. While c.in-While.cond ts) (sym c.as_slice-in-While.ensures)))
    c.in_ok-cond-in-While.ensures c.in_ok-turn-in-While.ensures.after
    (left c.len-count.result c.args.scope.now c.make_body-in-While.new.scope c.leave-in-While.new.self
    c.len-count.ensures
    c.in_ok-turn-in-While.ensures.kept c.leave-in-While.ensures.visible c.leave-in-While.ensures.next
    c.leave-in-While.ensures.earlier)
