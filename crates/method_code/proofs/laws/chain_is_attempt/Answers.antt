use Rattle.method_code.proofs.Whole.{chain-attempt, chain_soon-over}
use Rattle.method_code.proofs.laws.chain_is_attempt.Goals as goal

pub returns : goal.returns
returns c = record {
  by_budget = λ p a state budget steps keeps enough. chain-attempt p keeps a state budget steps enough;
  at_most = λ p a state budget steps keeps small many. chain_soon-over p keeps a state budget steps small
      many;
}
