use Rattle.std.proofs.Common.{◌≡◌, ◌<◌, ◌≤◌, ◌+◌, ◌*◌, ◌-◌, List, Err, sym, subst, ap, ◌∙◌, arith, rules}
use Rattle.seuss_program.specs.declared.tree.Ref.{Ref}
use Rattle.seuss_program.specs.declared.tree.Statement.{Statement}
use Rattle.seuss_program.specs.declared.state.Value.{Value}
use Rattle.seuss_program.specs.Programs.{vars_of}
use Rattle.seuss_program.specs.Values.{value}
use Rattle.seuss_program.specs.Bodies.{Ran, Called, body, looped}
use Rattle.seuss_program.specs.Attempts.{attempt, performed}
use Rattle.tight_order.specs.Answers.{Ends, Replies}
use Rattle.tight_order.proofs.StatementLemmas.{weight, sum_of, sum_of-get, weight-Call, weight-If}
use Rattle.tight_order.proofs.StatementLemmas.{weight-While, meaning-Let, meaning-Assign, meaning-Call}
use Rattle.tight_order.proofs.StatementLemmas.{meaning-If, meaning-While}
use Rattle.tight_order.proofs.WeightLemmas.{alternative_weight, form_weight, program_weight}
use Rattle.tight_order.proofs.WeightLemmas.{procedure_below, level_below}
use Rattle.tight_order.proofs.RunLemmas.{body_stops, body_goes_on, choice_stops, choice_takes}
use Rattle.tight_order.proofs.RunLemmas.{attempt_performs, if_stops, if_holds, if_fails, loop_goes_on}
use Rattle.tight_order.proofs.+attempt.Goals as goal

pub attempt::attempt-perform-reply-requires : goal.attempt::attempt-perform-reply-requires
attempt::attempt-perform-reply-requires t c =
    let deep : 0 < c.args.place.now.depth = omega arith in
    let below : program_weight c.args.place.now.program.now * (c.args.place.now.depth - 1) +
    (2 * form_weight c.in-Some.proc.now.form + 6) < program_weight c.args.place.now.program.now *
    c.args.place.now.depth =
    level_below (program_weight c.args.place.now.program.now) c.args.place.now.depth
    (2 * form_weight c.in-Some.proc.now.form + 6) deep
    (procedure_below c.args.place.now.program.now c.args.place.now.box_number c.args.number
    c.in-Some.proc.now c.in-Some.ensures) in
    (omega (arith, below), tt)

pub attempt::attempt-returns-clause-after : goal.attempt::attempt-returns-clause-after
attempt::attempt-returns-clause-after t c =
    let deep : 0 < c.args.place.now.depth = omega arith in
    subst (λ (x : Called). Replies c.perform-reply.result x c.perform-reply.new.state
    c.perform-reply.new.frame.budget)
    (ap (λ (slots : List Value). performed c.args.place.now.program.now
    (attempt c.args.place.now.program.now (c.args.place.now.depth - 1)) c.args.place.now.box_number
    c.in-Some.proc.now c.in-Some.proc.now.form c.args.state.now slots c.args.budget.now)
    c.in_ok-entry.ensures
    ∙ sym (attempt_performs c.args.place.now.program.now c.args.place.now.depth c.args.place.now.box_number
    c.args.number c.in-Some.proc.now c.args.args c.args.state.now c.args.budget.now deep
    c.in-Some.ensures))
    c.perform-reply.ensures.after

pub attempt::choose-returns-in_err-holds-clause-after :
    goal.attempt::choose-returns-in_err-holds-clause-after
attempt::choose-returns-in_err-holds-clause-after t c =
    let same : c.from_residual.result ≡ Err c.in_err-holds.field-0.0 = search rules in
    choice_stops c.args.place.now.program.now (attempt c.args.place.now.program.now c.args.place.now.depth)
    c.args.place.now.box_number c.args.proc.now c.args.alternatives.now
    c.loop-alternative.alternative-index c.alternative-item.result c.loop-alternative.state
    c.loop-alternative.frame.slots c.loop-alternative.frame.budget _ c.from_residual.result
    c.in_err-holds.field-0.0 c.loop-alternative-test.true c.alternative-item.is
    c.loop-alternative.invariant.same same c.in_err-holds.ensures

pub attempt::choose-take-requires : goal.attempt::choose-take-requires
attempt::choose-take-requires t c =
    let w : alternative_weight c.alternative-item.result ≤ sum_of alternative_weight c.args.alternatives.now
    =
    subst (λ a. alternative_weight a ≤ sum_of alternative_weight c.args.alternatives.now)
    (sym c.alternative-item.is)
    (sum_of-get alternative_weight c.args.alternatives.now c.loop-alternative.alternative-index
    c.alternative-item.result c.loop-alternative-test.true) in
    (omega (arith, w), tt)

pub attempt::choose-returns-then-truth-clause-after : goal.attempt::choose-returns-then-truth-clause-after
attempt::choose-returns-then-truth-clause-after t c =
    choice_takes c.args.place.now.program.now (attempt c.args.place.now.program.now c.args.place.now.depth)
    c.args.place.now.box_number c.args.proc.now c.args.alternatives.now
    c.loop-alternative.alternative-index c.alternative-item.result c.loop-alternative.state
    c.loop-alternative.frame.slots c.loop-alternative.frame.budget _ c.in_ok-holds.holds c.take.result
    c.take.new.state c.take.new.frame.budget c.loop-alternative-test.true c.alternative-item.is
    c.loop-alternative.invariant.same c.in_ok-holds.ensures (sym c.if-truth.ensures)
    c.take.ensures.after

pub body::run_body-run_statement-requires : goal.body::run_body-run_statement-requires
body::run_body-run_statement-requires t c =
    let w : weight c.statement-item.result ≤ sum_of weight c.args.statements.now =
    subst (λ (s : Statement Ref). weight s ≤ sum_of weight c.args.statements.now) (sym c.statement-item.is)
    (sum_of-get weight c.args.statements.now c.loop-statement.statement-index c.statement-item.result
    c.loop-statement-test.true) in
    (omega (arith, w), tt)

pub body::run_body-returns-in_err-run_statement-clause-after :
    goal.body::run_body-returns-in_err-run_statement-clause-after
body::run_body-returns-in_err-run_statement-clause-after t c =
    let same : c.from_residual.result ≡ Err c.in_err-run_statement.field-0.0 = search rules in
    body_stops c.args.place.now.program.now (attempt c.args.place.now.program.now c.args.place.now.depth)
    c.args.place.now.box_number c.args.statements.now c.loop-statement.statement-index
    c.statement-item.result c.loop-statement.state c.loop-statement.frame.slots
    c.loop-statement.frame.budget _ c.from_residual.result c.in_err-run_statement.field-0.0
    c.run_statement.new.state c.run_statement.new.frame c.loop-statement-test.true c.statement-item.is
    c.loop-statement.invariant.same same c.in_err-run_statement.ensures.after

pub body::run_body-loop-statement-preserved : goal.body::run_body-loop-statement-preserved
body::run_body-loop-statement-preserved t c =
    let less : c.run_statement.new.frame.budget ≤ c.loop-statement.frame.budget =
    c.in_ok-run_statement.ensures.budget in
    record {
      budget = omega (arith, less, c.loop-statement.invariant.budget);
      same = body_goes_on c.args.place.now.program.now
          (attempt c.args.place.now.program.now c.args.place.now.depth) c.args.place.now.box_number
          c.args.statements.now c.loop-statement.statement-index c.statement-item.result
          c.loop-statement.state c.loop-statement.frame.slots c.loop-statement.frame.budget _
          c.run_statement.new.state c.run_statement.new.frame c.loop-statement-test.true c.statement-item.is
          c.loop-statement.invariant.same c.in_ok-run_statement.ensures.after;
    }

pub body::run_loop-loop-frame-preserved : goal.body::run_loop-loop-frame-preserved
body::run_loop-loop-frame-preserved t c =
    let less : c.run_body.new.frame.budget ≤ c.pay.new.frame.budget = c.in_ok-run_body.ensures.budget in
    record {
      budget = omega (arith, less, (c.in_ok-pay.ensures).1, c.loop-frame.invariant.budget);
      turns = loop_goes_on c.args.place.now.box_number c.loop-frame.invariant.turns.0 c.args.cond.now
          (body c.args.place.now.program.now (attempt c.args.place.now.program.now c.args.place.now.depth)
          c.args.place.now.box_number c.args.turn.now) c.loop-frame.state c.loop-frame.frame.slots
          c.loop-frame.frame.budget _ c.in_ok-value_on.field-0 c.pay.new.frame c.run_body.new.state
          c.run_body.new.frame
          c.loop-frame.invariant.turns.1 c.loop-frame.invariant.turns.2 c.in_ok-value_on.ensures
          (sym c.if-truth.ensures) (c.in_ok-pay.ensures).0 (c.in_ok-pay.ensures).1
          c.in_ok-run_body.ensures.after less;
    }

pub body::run_statement-returns-in-Let-clause-after : goal.body::run_statement-returns-in-Let-clause-after
body::run_statement-returns-in-Let-clause-after t c =
    subst (λ (x : Ran). Ends c.assign_value.result x c.assign_value.new.state c.assign_value.new.frame)
    (sym (meaning-Let c.args.place.now.program.now
    (attempt c.args.place.now.program.now c.args.place.now.depth) c.args.place.now.box_number
    c.args.statement.now c.args.state.now c.args.frame.now.slots c.args.frame.now.budget c.in-Let.name
    c.in-Let.kind c.in-Let.value c.in-Let.is)) c.assign_value.ensures.after

pub body::run_statement-returns-in-Assign-clause-after :
    goal.body::run_statement-returns-in-Assign-clause-after
body::run_statement-returns-in-Assign-clause-after t c =
    subst (λ (x : Ran). Ends c.assign_value-in-Assign.result x c.assign_value-in-Assign.new.state
    c.assign_value-in-Assign.new.frame)
    (sym (meaning-Assign c.args.place.now.program.now
    (attempt c.args.place.now.program.now c.args.place.now.depth) c.args.place.now.box_number
    c.args.statement.now c.args.state.now c.args.frame.now.slots c.args.frame.now.budget
    c.in-Assign.name c.in-Assign.value c.in-Assign.is)) c.assign_value-in-Assign.ensures.after

pub body::run_statement-run_call-requires : goal.body::run_statement-run_call-requires
body::run_statement-run_call-requires t c =
    let w : weight c.args.statement.now ≡ 1 = weight-Call c.args.statement.now c.in-Call.bind c.in-Call.call
    c.in-Call.is in
    (omega (arith, w), tt)

pub body::run_statement-returns-in-Call-clause-after : goal.body::run_statement-returns-in-Call-clause-after
body::run_statement-returns-in-Call-clause-after t c =
    subst (λ (x : Ran). Ends c.run_call.result x c.run_call.new.state c.run_call.new.frame)
    (sym (meaning-Call c.args.place.now.program.now
    (attempt c.args.place.now.program.now c.args.place.now.depth) c.args.place.now.box_number
    c.args.statement.now c.args.state.now c.args.frame.now.slots c.args.frame.now.budget c.in-Call.bind
    c.in-Call.call c.in-Call.is)) c.run_call.ensures.after

pub body::run_statement-returns-in_err-holds-in-If-clause-after :
    goal.body::run_statement-returns-in_err-holds-in-If-clause-after
body::run_statement-returns-in_err-holds-in-If-clause-after t c =
    let same : c.from_residual.result ≡ Err c.in_err-holds-in-If.field-0.0 = search rules in
    if_stops (value c.in-If.cond (vars_of c.args.state.now c.args.place.now.box_number)
    c.args.frame.now.slots)
    (body c.args.place.now.program.now (attempt c.args.place.now.program.now c.args.place.now.depth)
    c.args.place.now.box_number c.in-If.yes)
    (body c.args.place.now.program.now (attempt c.args.place.now.program.now c.args.place.now.depth)
    c.args.place.now.box_number c.in-If.no) c.args.state.now c.args.frame.now _ c.from_residual.result
    c.in_err-holds-in-If.field-0.0
    (meaning-If c.args.place.now.program.now
    (attempt c.args.place.now.program.now c.args.place.now.depth) c.args.place.now.box_number
    c.args.statement.now c.args.state.now c.args.frame.now.slots c.args.frame.now.budget c.in-If.cond
    c.in-If.yes c.in-If.no c.in-If.is) same c.in_err-holds-in-If.ensures

pub body::run_statement-run_body-requires : goal.body::run_statement-run_body-requires
body::run_statement-run_body-requires t c =
    let w : weight c.args.statement.now ≡ 1 + (sum_of weight c.in-If.yes + sum_of weight c.in-If.no) =
    weight-If c.args.statement.now c.in-If.cond c.in-If.yes c.in-If.no c.in-If.is in
    let s : sum_of weight c.as_slice.result.now ≡ sum_of weight c.in-If.yes =
    ap (λ (ss : List (Statement Ref)). sum_of weight ss) c.as_slice.ensures in
    (omega (arith, w, s), tt)

pub body::run_statement-run_body-requires-else-truth : goal.body::run_statement-run_body-requires-else-truth
body::run_statement-run_body-requires-else-truth t c =
    let w : weight c.args.statement.now ≡ 1 + (sum_of weight c.in-If.yes + sum_of weight c.in-If.no) =
    weight-If c.args.statement.now c.in-If.cond c.in-If.yes c.in-If.no c.in-If.is in
    let s : sum_of weight c.as_slice-else-truth.result.now ≡ sum_of weight c.in-If.no =
    ap (λ (ss : List (Statement Ref)). sum_of weight ss) c.as_slice-else-truth.ensures in
    (omega (arith, w, s), tt)

pub body::run_statement-returns-then-truth-clause-after :
    goal.body::run_statement-returns-then-truth-clause-after
body::run_statement-returns-then-truth-clause-after t c =
    if_holds (value c.in-If.cond (vars_of c.args.state.now c.args.place.now.box_number)
    c.args.frame.now.slots) c.in_ok-holds-in-If.holds
    (body c.args.place.now.program.now (attempt c.args.place.now.program.now c.args.place.now.depth)
    c.args.place.now.box_number c.in-If.yes)
    (body c.args.place.now.program.now (attempt c.args.place.now.program.now c.args.place.now.depth)
    c.args.place.now.box_number c.in-If.no) c.args.state.now c.args.frame.now.slots
    c.args.frame.now.budget _ c.run_body.result c.run_body.new.state c.run_body.new.frame
    (meaning-If c.args.place.now.program.now
    (attempt c.args.place.now.program.now c.args.place.now.depth) c.args.place.now.box_number
    c.args.statement.now c.args.state.now c.args.frame.now.slots c.args.frame.now.budget c.in-If.cond
    c.in-If.yes c.in-If.no c.in-If.is) c.in_ok-holds-in-If.ensures (sym c.if-truth.ensures)
    (subst (λ (ss : List (Statement Ref)). Ends c.run_body.result
    (body c.args.place.now.program.now (attempt c.args.place.now.program.now c.args.place.now.depth)
    c.args.place.now.box_number ss c.args.state.now c.args.frame.now.slots c.args.frame.now.budget)
    c.run_body.new.state c.run_body.new.frame) c.as_slice.ensures c.run_body.ensures.after)

pub body::run_statement-returns-in-If-clause-after : goal.body::run_statement-returns-in-If-clause-after
body::run_statement-returns-in-If-clause-after t c =
    if_fails (value c.in-If.cond (vars_of c.args.state.now c.args.place.now.box_number)
    c.args.frame.now.slots) c.in_ok-holds-in-If.holds
    (body c.args.place.now.program.now (attempt c.args.place.now.program.now c.args.place.now.depth)
    c.args.place.now.box_number c.in-If.yes)
    (body c.args.place.now.program.now (attempt c.args.place.now.program.now c.args.place.now.depth)
    c.args.place.now.box_number c.in-If.no) c.args.state.now c.args.frame.now.slots
    c.args.frame.now.budget _ c.run_body-else-truth.result c.run_body-else-truth.new.state
    c.run_body-else-truth.new.frame
    (meaning-If c.args.place.now.program.now
    (attempt c.args.place.now.program.now c.args.place.now.depth) c.args.place.now.box_number
    c.args.statement.now c.args.state.now c.args.frame.now.slots c.args.frame.now.budget c.in-If.cond
    c.in-If.yes c.in-If.no c.in-If.is) c.in_ok-holds-in-If.ensures (sym c.if-truth.ensures)
    (subst (λ (ss : List (Statement Ref)). Ends c.run_body-else-truth.result
    (body c.args.place.now.program.now (attempt c.args.place.now.program.now c.args.place.now.depth)
    c.args.place.now.box_number ss c.args.state.now c.args.frame.now.slots c.args.frame.now.budget)
    c.run_body-else-truth.new.state c.run_body-else-truth.new.frame) c.as_slice-else-truth.ensures
    c.run_body-else-truth.ensures.after)

pub body::run_statement-run_loop-requires : goal.body::run_statement-run_loop-requires
body::run_statement-run_loop-requires t c =
    let w : weight c.args.statement.now ≡ 2 + sum_of weight c.in-While.turn =
    weight-While c.args.statement.now c.in-While.cond c.in-While.turn c.in-While.is in
    let s : sum_of weight c.as_slice-in-While.result.now ≡ sum_of weight c.in-While.turn =
    ap (λ (ss : List (Statement Ref)). sum_of weight ss) c.as_slice-in-While.ensures in
    (omega (arith, w, s), tt)

pub body::run_statement-returns-clause-after : goal.body::run_statement-returns-clause-after
body::run_statement-returns-clause-after t c =
    subst (λ (x : Ran). Ends c.run_loop.result x c.run_loop.new.state c.run_loop.new.frame)
    (sym (meaning-While c.args.place.now.program.now
    (attempt c.args.place.now.program.now c.args.place.now.depth) c.args.place.now.box_number
    c.args.statement.now c.args.state.now c.args.frame.now.slots c.args.frame.now.budget c.in-While.cond
    c.in-While.turn c.in-While.is))
    (subst (λ (ss : List (Statement Ref)). Ends c.run_loop.result
    (looped c.args.place.now.box_number c.args.frame.now.budget c.in-While.cond
    (body c.args.place.now.program.now (attempt c.args.place.now.program.now c.args.place.now.depth)
    c.args.place.now.box_number ss) c.args.state.now c.args.frame.now.slots c.args.frame.now.budget)
    c.run_loop.new.state c.run_loop.new.frame)
    c.as_slice-in-While.ensures c.run_loop.ensures.after)
