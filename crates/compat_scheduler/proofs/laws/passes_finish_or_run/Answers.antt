use Rattle.compat_scheduler.proofs.CountLemmas.{counted, all_finished}
use Rattle.compat_scheduler.proofs.laws.passes_finish_or_run.Goals as goal

pub returns : goal.returns
returns c = record {
  count = counted;
  all = all_finished;
}
