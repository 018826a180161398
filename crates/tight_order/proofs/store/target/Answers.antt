use Rattle.std.proofs.Common.{ap, ◌∙◌}
use Rattle.std.specs.Prelude.{unwrap_or}
use Rattle.tight_order.proofs.StoreLemmas.{target_is}
use Rattle.tight_order.proofs.store.target.Goals as goal

pub returns-in-Some : goal.returns-in-Some
returns-in-Some c =
    target_is c.args.program.now c.args.box_number c.in-Given.number c.unwrap_or.result c.in-Some.info.now
    c.args.name c.in-Given.is c.in-Some.ensures.value
    (c.unwrap_or.ensures ∙ ap (λ o. unwrap_or o 0) (c.copied.ensures ∙ c.get-in-Some.ensures.value))
