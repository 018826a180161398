use Rattle.method_code.proofs.RecordLemmas.{leads_on, leads_over}
use Rattle.method_code.proofs.laws.open_pass_goes_on.Goals as goal

pub returns : goal.returns
returns c = record {
  on = λ p a b next budget left es e l f t. leads_on p es a b budget left e next l f t;
  over = λ p a b budget left es e end l f t. leads_over p es a b budget left e end l f t;
}
