use Rattle.compat_scheduler.proofs.KeptLemmas.{kept_once}
use Rattle.compat_scheduler.proofs.laws.attempts_are_kept_once.Goals as goal

pub returns : goal.returns
returns c = kept_once
