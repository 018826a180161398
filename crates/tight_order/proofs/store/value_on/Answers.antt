use Rattle.std.proofs.Common.{List, [], subst}
use Rattle.seuss_program.specs.declared.state.Value.{Value}
use Rattle.seuss_program.specs.Values.{value}
use Rattle.tight_order.specs.Answers.{Evaluates}
use Rattle.tight_order.proofs.StoreLemmas.{no_vars}
use Rattle.tight_order.proofs.store.value_on.Goals as goal

pub returns-in-None : goal.returns-in-None
returns-in-None c =
    subst (λ (vars : List Value). Evaluates c.evaluate-in-None.result
    (value c.args.expr.now vars c.args.slots.now))
    (no_vars c.args.state.now c.args.box_number c.in-None.ensures.value)
    (subst (λ (slots : List Value). Evaluates c.evaluate-in-None.result (value c.args.expr.now [] slots))
    c.as_slice-in-None.ensures c.evaluate-in-None.ensures.value)
