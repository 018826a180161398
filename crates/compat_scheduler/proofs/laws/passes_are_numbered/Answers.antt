use Rattle.compat_scheduler.proofs.RunLemmas.{numbered}
use Rattle.compat_scheduler.proofs.laws.passes_are_numbered.Goals as goal

pub returns : goal.returns
returns c = numbered
