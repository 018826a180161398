use Rattle.std.proofs.Common.{◌≡◌, ℕ, suc, ◌+◌, ◌-◌, ap, ◌∙◌, arith}
use Rattle.std.specs.Prelude.{slice_get, slice_index_or}
use Rattle.seuss_program.specs.declared.program.Program.{Program}
use Rattle.seuss_program.specs.Attempts.{action_attempt}
use Rattle.std.proofs.lemmas.Option.{slice_get-get_or}
use Rattle.method_code.specs.Chains.{beginning, chain, outcome_of, turned}
use Rattle.method_code.specs.Plans.{MayAttempt}
use Rattle.method_code.proofs.PassLemmas.{chain-step, goes-on, is-over, is-attempt, turned-next}
use Rattle.method_code.proofs.PassLemmas.{turned-over, by-compiled}
use Rattle.method_code.proofs.passing.attempt_by_plan.Goals as goal

pub loop-made-preserved : goal.loop-made-preserved
loop-made-preserved c = λ p made m.
    let e : c.loop-made.made + 1 + m ≡ c.loop-made.made + suc m = omega arith in
    let on = by-compiled p c.args.code.now c.in_ok-end.end c.loop-made.pass
    c.step_on.new.pass c.loop-made.state c.step_on.new.state c.loop-made.left c.step_on.new.budget
    made.code_is c.in_ok-end.ensures in
    let next = turned-next c.in_ok-end-2.field-0 c.in_default.field-0
    (turned p c.step_on.new.pass c.in_ok-end.end) c.resume_by.new.self c.in_default.is
    (c.in_ok-end-2.ensures p made) in
    ap (λ n. chain p n (beginning p c.args.action) c.args.state.now
    c.args.budget) e
    ∙ (c.loop-made.invariant p made (suc m)
    ∙ (chain-step p c.loop-made.pass c.loop-made.state c.loop-made.left m
    c.step_on.new.pass c.step_on.new.state c.in_ok-end.end c.step_on.new.budget on.0 on.1 on.2 on.3
    ∙ goes-on p m (turned p c.step_on.new.pass c.in_ok-end.end)
    c.resume_by.new.self c.step_on.new.state c.step_on.new.budget next))

-- a pass that is over is the attempt
over_is_attempt : (c : goal.After-drop-pass-in-Over-2) (p : Program) →
    MayAttempt p c.args.code.now c.args.plan.now c.args.action c.args.budget →
    (outcome_of c.in-Over.end ≡
    (action_attempt p (slice_get p.actions c.args.action)
    c.args.state.now c.args.budget).outcome)
    × (c.step_on.new.state ≡
    (action_attempt p (slice_get p.actions c.args.action)
    c.args.state.now c.args.budget).state)
over_is_attempt c p may =
    let k : ℕ = 2000300 - (c.loop-made.made + 1) in
    let e : 2000300 ≡ c.loop-made.made + suc k = omega arith in
    let on = by-compiled p c.args.code.now c.in_ok-end.end c.loop-made.pass
    c.step_on.new.pass c.loop-made.state c.step_on.new.state c.loop-made.left c.step_on.new.budget
    may.made.code_is c.in_ok-end.ensures in
    let over = turned-over c.in_ok-end-2.field-0 c.in-Over.end
    (turned p c.step_on.new.pass c.in_ok-end.end) c.resume_by.new.self c.in-Over.is
    (c.in_ok-end-2.ensures p may.made) in
    let action = slice_index_or p.actions c.args.action
    (record { box_number = 0; procedure = 0 }) in
    is-attempt p c.args.action 2000300 action c.args.state.now c.args.budget
    (record { end = c.in-Over.end; state = c.step_on.new.state; budget = c.step_on.new.budget })
    (slice_get-get_or p.actions c.args.action (record { box_number = 0; procedure = 0 })
    may.within)
    (c.chain_is_attempt.ensures.at_most p action c.args.state.now c.args.budget 2000300
    may.keeps may.small (omega arith))
    (ap (λ n. chain p n (beginning p c.args.action) c.args.state.now
    c.args.budget) e
    ∙ (c.loop-made.invariant p may.made (suc k)
    ∙ (chain-step p c.loop-made.pass c.loop-made.state c.loop-made.left k
    c.step_on.new.pass c.step_on.new.state c.in_ok-end.end c.step_on.new.budget on.0 on.1 on.2 on.3
    ∙ is-over p k (turned p c.step_on.new.pass c.in_ok-end.end)
    c.in-Over.end c.step_on.new.state c.step_on.new.budget over)))

pub returns-in-Over-clause-outcome : goal.returns-in-Over-clause-outcome
returns-in-Over-clause-outcome c = λ p may. c.outcome.ensures ∙ (over_is_attempt c p may).0

pub returns-in-Over-clause-state : goal.returns-in-Over-clause-state
returns-in-Over-clause-state c = λ p may. (over_is_attempt c p may).1
