use Rattle.compat_scheduler.proofs.OverlapLemmas.{open_running}
use Rattle.compat_scheduler.proofs.OpenLemmas.{running_is_open, finish_of_open}
use Rattle.compat_scheduler.proofs.laws.open_passes_run.Goals as goal

pub returns : goal.returns
returns c = record {
  runs = open_running;
  opened = running_is_open;
  finishes = finish_of_open;
}
