use Rattle.std.proofs.Common.{sym, ap, ◌∙◌}
use Rattle.std.specs.Prelude.{slice_get, unwrap_or}
use Rattle.std.proofs.lemmas.Option.{unwrap_or-slice_get}
use Rattle.method_code.specs.declared.plan.Plan.{Plan}
use Rattle.method_code.proofs.PlanLemmas.{target_planned}
use Rattle.method_code.proofs.plan.Plan.target.Goals as goal

pub returns : goal.returns
returns c = λ p made.
    let there = ap (λ (plan : Plan). slice_get plan.boxes c.args.box_number) (sym made)
    ∙ sym c.in-Some.ensures.value in
    c.unwrap_or.ensures ∙ (ap (λ o. unwrap_or o 0) (c.copied.ensures ∙ c.get-2.ensures.value)
    ∙ (unwrap_or-slice_get c.in-Some.found.now.given c.args.given 0
    ∙ sym (target_planned p c.args.box_number c.in-Some.found.now c.args.given there)))
