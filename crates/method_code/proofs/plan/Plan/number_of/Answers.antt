use Rattle.std.proofs.Common.{◌≡◌, List, length, sym, ap, ◌∙◌, arith}
use Rattle.std.specs.Prelude.{slice_get}
use Rattle.method_code.specs.declared.method.Method.{Method}
use Rattle.method_code.specs.declared.plan.Plan.{Plan}
use Rattle.method_code.proofs.PlanLemmas.{number_planned}
use Rattle.method_code.proofs.plan.Plan.number_of.Goals as goal

pub returns : goal.returns
returns c = λ p made.
    let there = ap (λ (plan : Plan). slice_get plan.boxes c.args.box_number) (sym made.plan_is)
    ∙ sym c.in-Some.ensures.value in
    let numbered = number_planned p c.args.box_number c.args.procedure c.in-Some.found.now there
    c.if-procedure-found.false in
    let many : length c.code.inside.methods ≡ length c.args.code.now =
    ap (λ (ms : List Method). length ms) c.code.view_is in
    let all = ap (λ (ms : List Method). length ms) made.code_is in
    omega (arith, c.saturating_add.ensures, numbered.is, numbered.within, many, all, c.code.invariant.count)
