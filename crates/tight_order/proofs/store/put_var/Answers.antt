use Rattle.tight_order.proofs.StoreLemmas.{with_var_is}
use Rattle.tight_order.proofs.store.put_var.Goals as goal

pub returns-then-number-len : goal.returns-then-number-len
returns-then-number-len c =
    with_var_is c.args.state.now c.args.box_number c.args.at c.args.value c.replace-vars.result _
    c.replace-vars.new.self c.set.new.self _ c.replace-vars.ensures.value
    c.replace-vars.ensures.after c.put.ensures c.set.ensures
