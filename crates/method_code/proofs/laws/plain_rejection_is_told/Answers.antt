use Rattle.method_code.proofs.SingleRuns.{entry_plain}
use Rattle.method_code.proofs.laws.plain_rejection_is_told.Goals as goal

pub returns : goal.returns
returns c = entry_plain
