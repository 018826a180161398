use Rattle.compat_scheduler.specs.Machines.{beginning}
use Rattle.compat_scheduler.proofs.SoundLemmas.{sound-beginning}
use Rattle.compat_scheduler.proofs.RunLemmas.{stopped_by_runs}
use Rattle.compat_scheduler.proofs.StopLemmas.{nothing_starts, last_round}
use Rattle.compat_scheduler.proofs.laws.stops_for_good.Goals as goal

pub returns : goal.returns
returns c = record {
  stopped = λ s events m run. stopped_by_runs s events (beginning s) m run;
  nothing_starts = nothing_starts;
  last_round = λ s events m event run. last_round s events (beginning s) m event (sound-beginning s) run;
}
