use Rattle.method_code.proofs.NumberLemmas.{code-found}
use Rattle.method_code.proofs.laws.code_of_each_procedure.Goals as goal

pub returns : goal.returns
returns c = code-found
