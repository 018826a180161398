use Rattle.method_code.proofs.RecordLemmas.{goes_further}
use Rattle.method_code.proofs.laws.chain_is_over_for_good.Goals as goal

pub returns : goal.returns
returns c = goes_further
