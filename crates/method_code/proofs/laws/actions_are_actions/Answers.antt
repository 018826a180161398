use Rattle.method_code.proofs.ActionLemmas.{action_is}
use Rattle.method_code.proofs.laws.actions_are_actions.Goals as goal

pub returns : goal.returns
returns c = λ p number a keeps found. action_is p keeps number a found
