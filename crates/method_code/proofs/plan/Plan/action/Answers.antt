use Rattle.std.proofs.Common.{Option, ap, ◌∙◌}
use Rattle.std.specs.Prelude.{unwrap_or}
use Rattle.std.proofs.lemmas.Option.{unwrap_or-slice_get}
use Rattle.seuss_program.specs.declared.program.ActionInfo.{ActionInfo}
use Rattle.method_code.proofs.plan.Plan.action.Goals as goal

pub returns : goal.returns
returns c =
    c.unwrap_or.ensures ∙
    (ap (λ (o : Option ActionInfo). unwrap_or o (record { box_number = 0; procedure = 0 }))
    (c.copied.ensures ∙ c.get.ensures.value)
    ∙ unwrap_or-slice_get c.args.self.now.actions c.args.number
    (record { box_number = 0; procedure = 0 }))
