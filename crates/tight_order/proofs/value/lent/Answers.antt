use Rattle.std.proofs.Common.{◌∙◌}
use Rattle.tight_order.proofs.ReadLemmas.{name_lent}
use Rattle.tight_order.proofs.value.lent.Goals as goal

pub returns-in-Some-Seq : goal.returns-in-Some-Seq
returns-in-Some-Seq c = name_lent c.args.expr.now c.args.vars.now c.args.slots.now c.in-Name.name _
    c.in-Name.is (c.in-Some-Seq.ensures ∙ c.in-Some-Seq.field-0-is)
