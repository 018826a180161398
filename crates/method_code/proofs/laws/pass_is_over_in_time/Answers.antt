use Rattle.method_code.proofs.Rows.{soon_over, soon_over-small}
use Rattle.method_code.proofs.laws.pass_is_over_in_time.Goals as goal

pub returns : goal.returns
returns c = record {
  by_budget = λ p a row budget keeps enough. soon_over p keeps a row budget enough;
  at_most = λ p a row budget keeps small many. soon_over-small p keeps a row budget small many;
}
